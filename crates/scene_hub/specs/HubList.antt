-- What contracts see of a prefix of a hub's list.
use Rattle.std.specs.Prelude.{◌≡◌, ℕ, List, Some, option_map}
use Rattle.scene_hub.specs.declared.prefix.ListPrefix.{ListPrefix}
use Rattle.scene_hub.specs.SceneLog.{Begins, list_of, last_of, AllFollow}

module _ {S : Type 0} where
  -- the scenes of a prefix, from the first on
  abbrev pub scenes : ListPrefix S → List S
  scenes p = (list_of p.origin.log p.reached.log).1

  -- the key of the pen that appends the next scene
  abbrev pub next_key : ListPrefix S → ℕ
  next_key p = (list_of p.origin.log p.reached.log).0

  -- both are prefixes of one hub's list
  abbrev pub IsSameHub : ListPrefix S → ListPrefix S → Type 0
  IsSameHub p q = p.origin ≡ q.origin

  -- it was reached in its book after its list began
  abbrev pub IsReached : ListPrefix S → Type 0
  IsReached p = (p.reached.book ≡ p.origin.book) × Begins p.origin.log p.reached.log

  -- the second was reached after the first
  abbrev pub ComesBefore : ListPrefix S → ListPrefix S → Type 0
  ComesBefore p q = IsSameHub p q × Begins p.reached.log q.reached.log

  -- its scenes follow one another, and the last has this number
  abbrev pub FollowUpTo : (S → ℕ) → (S → S → Type 0) → ListPrefix S → ℕ → Type 0
  FollowUpTo number follows p last = AllFollow follows (scenes p) × (option_map number (last_of (scenes p)) ≡ Some last)
