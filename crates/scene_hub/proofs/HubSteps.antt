-- The steps of the hub keep its rule.
use Rattle.std.proofs.Common.{◌≡◌, ◌≢◌, ◌⊎◌, ℕ, ◌<◌, ◌≤◌, List, [], ◌∷◌, ◌++◌, set, refl, ap, sym, ◌∙◌, subst, ⊎_elim, Option, Some, None}
use Rattle.std.specs.Prelude.{option_map}
use mathlib.Core.Option.{some}
use lib.ListN.{get_elem?}
use Rattle.crossbeam_utils.specs.Register.{Admits, TurnsAt, Forks, Merges}
use Rattle.atomic_table.proofs.Lists.{at_set, at_snoc}
use Rattle.scene_hub.specs.declared.prefix.ListPrefix.{ListPrefix}
use Rattle.scene_hub.specs.declared.showing.Showing.{Showing}
use Rattle.scene_hub.specs.HubList.{ComesBefore, FollowUpTo, IsReached, scenes}
use Rattle.scene_hub.specs.HubRule.{HasSeen, IsLast, IsSeen, AllSeen, IsShown, Sees}
use Rattle.scene_hub.specs.SceneLog.{AllFollow, Begins, IsNext, last_of, list_of}
use Rattle.scene_hub.proofs.LogLists.{lists_grow}
use Rattle.scene_hub.proofs.Numbers.{follows_push, last_of-push, newer_is_longer, numbers_rise}
use Rattle.scene_hub.proofs.Prefixes.{begins_same, begins_trans}

module _ {S : Type 0} where
  pub comes_same : (p : ListPrefix S) → ComesBefore p p
  comes_same p = (refl, begins_same p.reached.log)

  pub comes_trans : (p q r : ListPrefix S) → ComesBefore p q → ComesBefore q r → ComesBefore p r
  comes_trans p q r a b = (a.0 ∙ b.0, begins_trans p.reached.log q.reached.log r.reached.log a.1 b.1)

  abbrev pub holds : (S → ℕ) → (S → S → Type 0) → Showing S → List (Option (ListPrefix S)) → Type 0
  holds number follows shown views = IsShown number follows shown × AllSeen shown.list views

  nothing_seen : (shown : ListPrefix S) → IsSeen shown None
  nothing_seen shown p is = absurd (cc is)

  all_set : (shown : ListPrefix S) (views : List (Option (ListPrefix S))) (seat : ℕ) (w : Option (ListPrefix S)) → AllSeen shown views → IsSeen shown w → AllSeen shown (set views seat w)
  all_set shown views seat w all new j u at =
      ⊎_elim (λ (t : (j ≡ seat) × (w ≡ u)). subst (IsSeen shown) t.1 new) (λ (t : (j ≢ seat) × (get_elem? views j ≡ some u)). all j u t.1) (at_set views seat j w u at)

  all_snoc : (shown : ListPrefix S) (views : List (Option (ListPrefix S))) (w : Option (ListPrefix S)) → AllSeen shown views → IsSeen shown w → AllSeen shown (views ++ w ∷ [])
  all_snoc shown views w all new j u at =
      ⊎_elim (λ (t : get_elem? views j ≡ some u). all j u t) (λ (t : w ≡ u). subst (IsSeen shown) t new) (at_snoc views w u j at)

  pub admits : (number : S → ℕ) (follows : S → S → Type 0) → Admits (holds number follows) None
  admits number follows x views h = (h.0, all_snoc x.list views None h.1 (nothing_seen x.list))

  pub turns : (number : S → ℕ) (follows : S → S → Type 0) (seat : ℕ) (v : Option (ListPrefix S)) (x y : Showing S) → (IsShown number follows x → IsShown number follows y) → ComesBefore x.list y.list
      → TurnsAt (holds number follows) seat v x y (λ before shown next after. Sees number follows before next after)
  turns number follows seat v x y shown later views h at =
      let grown : (w : Option (ListPrefix S)) → IsSeen x.list w → IsSeen y.list w = λ w seen p is. comes_trans p x.list y.list (seen p is) later in
      let all : AllSeen y.list views = λ j u e. grown u (h.1 j u e) in
      let own : IsSeen y.list (Some y.list) = λ p is. let e : y.list ≡ p = cc is in subst (λ q. ComesBefore q y.list) e (comes_same y.list) in (
        Some y.list,
        (shown h.0, all_set y.list views seat (Some y.list) all own),
        (shown h.0, grown v (h.1 seat v at), refl),
      )

  pub forks : (number : S → ℕ) (follows : S → S → Type 0) (seat : ℕ) (v : Option (ListPrefix S)) → Forks (holds number follows) seat v v v
  forks number follows seat v x views h at =
      let own = h.1 seat v at in
      (h.0, all_snoc x.list (set views seat v) v (all_set x.list views seat v h.1 own) own)

  pub merges : (number : S → ℕ) (follows : S → S → Type 0) (seat : ℕ) (v : Option (ListPrefix S)) (other : ℕ) (w : Option (ListPrefix S)) → Merges (holds number follows) seat v other w w None
  merges number follows seat v other w x views h at apart there =
      let told : IsSeen x.list w = ⊎_elim (λ (t : (other ≡ seat) × (w ≡ w)). absurd (apart t.0)) (λ (t : (other ≢ seat) × (get_elem? views other ≡ some w)). h.1 other w t.1) (at_set views seat other w w there) in
      (h.0, all_set x.list (set views seat w) other None (all_set x.list views seat w h.1 told) (nothing_seen x.list))

  -- what a pass has seen it has seen still after a step by which it sees what is shown
  pub seen_grows : (before after : Option (ListPrefix S)) (shown p : ListPrefix S) → IsSeen shown before → after ≡ Some shown → HasSeen before p → HasSeen after p
  seen_grows None after shown p seen is h = absurd (cc (h.0))
  seen_grows (Some q) after shown p seen is h = subst (λ v. HasSeen v p) (sym is) (refl, λ r same. let e : shown ≡ r = cc same in subst (ComesBefore p) e (comes_trans p q shown (h.1 q refl) (seen q refl)))

  pub has_itself : (view : Option (ListPrefix S)) (p : ListPrefix S) → view ≡ Some p → HasSeen view p
  has_itself view p is = subst (λ v. HasSeen v p) (sym is) (refl, λ q same. let e : p ≡ q = cc same in subst (ComesBefore p) e (comes_same p))

  -- what a pass has seen comes before what is shown
  pub seen_before : (view : Option (ListPrefix S)) (shown p : ListPrefix S) → IsSeen shown view → HasSeen view p → ComesBefore p shown
  seen_before None shown p seen h = absurd (cc (h.0))
  seen_before (Some q) shown p seen h = comes_trans p q shown (h.1 q refl) (seen q refl)

  -- the scenes of a prefix begin the scenes of a later one
  pub scenes_grow : (p q : ListPrefix S) → IsReached p → ComesBefore p q → Begins (scenes p) (scenes q)
  scenes_grow p q reached b =
      let e : p.origin.log ≡ q.origin.log = ap (λ s. s.log) b.0 in
      subst (λ l. Begins (scenes p) (list_of l q.reached.log).1) e (lists_grow p.origin.log p.reached.log q.reached.log reached.1 b.1)

  last_pushed : (number : S → ℕ) (follows : S → S → Type 0) → ((a b c : S) → follows a b → follows b c → follows a c) → (list : ListPrefix S) (before : List S) (s : S)
      → IsReached list → scenes list ≡ before ++ s ∷ [] → AllFollow follows before → IsNext follows before s → IsLast number follows list s (number s)
  last_pushed number follows transitive list before s reached is follow next =
      let e : last_of (scenes list) ≡ Some s = ap last_of is ∙ last_of-push before s in
      (reached, (subst (AllFollow follows) (sym is) (follows_push follows transitive before s follow next), ap (option_map number) e), e)

  -- the list after a scene was appended that follows the last one
  pub last_after : (number : S → ℕ) (follows : S → S → Type 0) → ((a b c : S) → follows a b → follows b c → follows a c) → (list whole old : ListPrefix S) (t s : S) (n : ℕ)
      → list ≡ whole → IsReached whole → scenes whole ≡ scenes old ++ t ∷ [] → t ≡ s → n ≡ number s
      → AllFollow follows (scenes old) → IsNext follows (scenes old) s → IsLast number follows list s n
  last_after number follows transitive list whole old t s n copied reached is same numbered follow next =
      let pushed = last_pushed number follows transitive whole (scenes old) s reached (is ∙ ap (λ x. scenes old ++ x ∷ []) same) follow next in
      subst (λ k. IsLast number follows list s k) (sym numbered) (subst (λ l. IsLast number follows l s (number s)) (sym copied) pushed)

  -- of two prefixes of a hub's list, the one with the greater last number is the longer
  pub newer_prefix : (number : S → ℕ) (follows : S → S → Type 0) → ((a b : S) → follows a b → number a < number b) → (p q : ListPrefix S) (m n : ℕ)
      → Begins (scenes p) (scenes q) ⊎ Begins (scenes q) (scenes p) → FollowUpTo number follows p m → FollowUpTo number follows q n → m ≤ n → Begins (scenes p) (scenes q)
  newer_prefix number follows rises p q m n either a b le =
      newer_is_longer number (scenes p) (scenes q) m n either (numbers_rise number follows rises (scenes p) a.0) a.1 b.1 le
