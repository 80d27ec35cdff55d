-- The hub's rule: the scene that is shown is the last of the list, whose scenes follow one another, and each list that somebody has seen is a prefix of it.
use Rattle.std.specs.Prelude.{◌≡◌, ℕ, List, Option, Some, IsSome}
use Rattle.std.specs.Option.{ForSome}
use Rattle.std.specs.Arc.{arc_value}
use mathlib.Core.Option.{some}
use lib.ListN.{get_elem?}
use Rattle.scene_hub.specs.declared.prefix.ListPrefix.{ListPrefix}
use Rattle.scene_hub.specs.declared.showing.Showing.{Showing}
use Rattle.scene_hub.specs.declared.showing.Shown.{Shown}
use Rattle.scene_hub.specs.SceneLog.{last_of}
use Rattle.scene_hub.specs.HubList.{scenes, ComesBefore, IsReached, FollowUpTo}

module _ {S : Type 0} where
  -- what a pass has seen, if anything, comes before the list that is shown
  abbrev pub IsSeen : ListPrefix S → Option (ListPrefix S) → Type 0
  IsSeen shown view = ForSome view (λ p. ComesBefore p shown)

  -- so it is for every pass
  abbrev pub AllSeen : ListPrefix S → List (Option (ListPrefix S)) → Type 0
  AllSeen shown views = (seat : ℕ) (v : Option (ListPrefix S)) → get_elem? views seat ≡ some v → IsSeen shown v

  -- the pass has seen this prefix, and perhaps more
  abbrev pub HasSeen : Option (ListPrefix S) → ListPrefix S → Type 0
  HasSeen view p = IsSome view × ForSome view (λ q. ComesBefore p q)

  -- the scene is the list's last and has this number, and the scenes of the list follow one another
  abbrev pub IsLast : (S → ℕ) → (S → S → Type 0) → ListPrefix S → S → ℕ → Type 0
  IsLast number follows list scene n = IsReached list × FollowUpTo number follows list n × (last_of (scenes list) ≡ Some scene)

  abbrev pub shown_of : Showing S → Shown S
  shown_of s = record { scene = arc_value s.scene; number = s.number; list = s.list }

  abbrev pub IsShown : (S → ℕ) → (S → S → Type 0) → Showing S → Type 0
  IsShown number follows s = IsLast number follows s.list (arc_value s.scene) s.number

  -- a step by which a pass comes to have seen what is shown after it
  abbrev pub Sees : (S → ℕ) → (S → S → Type 0) → Option (ListPrefix S) → Showing S → Option (ListPrefix S) → Type 0
  Sees number follows before next after = IsShown number follows next × IsSeen next.list before × (after ≡ Some next.list)
