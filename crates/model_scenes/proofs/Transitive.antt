-- Following is transitive.
use Rattle.std.proofs.lemmas.Bool.Decides.{nat_tests}
use Rattle.std.proofs.Common.{◌≡◌, ℕ, suc, ◌+◌, ◌-◌, ◌<◌, ◌≤◌, ◌⊎◌, inl, inr, Bool, IsTrue, List, [], map, length, min, Some, ap, sym, ◌∙◌, subst, arith, ⊎_elim, slice_index_or}
use Rattle.std.specs.List.{Contains, range_with_len}
use Rattle.std.proofs.lemmas.List.{get_or-map, get_or_default, length-map}
use Rattle.std.proofs.lemmas.List.FromFn.{get_or-range_with_len, length-range_with_len}
use Rattle.std.proofs.lemmas.Option.{slice_get_within}
use Rattle.plane_rect.specs.Rectangle.{Inside}
use Rattle.model_graphs.specs.Node.{Node, index_of}
use Rattle.model_graphs.specs.Meanings.{Meanings}
use Rattle.model_states.specs.declared.damage.Damage.{Damage}
use Rattle.model_states.specs.Edits.{has_node}
use Rattle.model_states.specs.State.{node_of}
use Rattle.model_scenes.specs.Follows.{AreLast, Follows, IsCovered, IsKept, LiesLater, ShownScene, is_source, most_damages}

sized : (ds : List Damage) (first count : ℕ) → map (λ (e : Damage). e.number) ds ≡ range_with_len first count → length ds ≡ count
sized ds first count is = sym (length-map ds (λ (e : Damage). e.number)) ∙ (ap length is ∙ length-range_with_len first count)

number_at : (ds : List Damage) (first count k : ℕ) (d : Damage) → map (λ (e : Damage). e.number) ds ≡ range_with_len first count
    → k < length ds → (slice_index_or ds k d).number ≡ first + k
number_at ds first count k d is lt =
    sym (get_or-map (λ (e : Damage). e.number) ds k d 0 lt)
    ∙ (ap (λ l. slice_index_or l k 0) is ∙ get_or-range_with_len first count k 0 (omega (arith, sized ds first count is)))

-- the list has a damage of each number in its range
has_number : (ds : List Damage) (b n : ℕ) → AreLast b ds → b < n + most_damages → 0 < n → n ≤ b → (d : Damage) × Contains ds d × (d.number ≡ n)
has_number ds b n is near some le =
    let first = suc b - min b most_damages in
    let k = n - first in
    let count = sized ds first (min b most_damages) is in
    let lt : k < length ds = omega (arith, count, near, some, le) in
    let nothing : Damage = record { number = 0; rects = [] } in
    let d = slice_index_or ds k nothing in
    let here : slice_index_or ds k d ≡ d = get_or_default ds k d nothing lt in
    (d, (k, lt, here), omega (arith, number_at ds first (min b most_damages) k nothing is lt, near, le))

-- two of one number are one
one_number : (ds : List Damage) (b : ℕ) (d e : Damage) → AreLast b ds → Contains ds d → Contains ds e → d.number ≡ e.number → d ≡ e
one_number ds b d e is hd he same =
    let first = suc b - min b most_damages in
    let at_d = number_at ds first (min b most_damages) hd.0 d is hd.1 in
    let at_e = number_at ds first (min b most_damages) he.0 e is he.1 in
    let nd : d.number ≡ first + hd.0 = ap (λ (w : Damage). w.number) (sym hd.2) ∙ at_d in
    let ne : e.number ≡ first + he.0 = ap (λ (w : Damage). w.number) (sym he.2) ∙ at_e in
    let k : hd.0 ≡ he.0 = omega (arith, nd, ne, same) in
    sym hd.2 ∙ (ap (λ i. slice_index_or ds i d) k ∙ (get_or_default ds he.0 d e he.1 ∙ he.2))

pub has-node : {Op : Type 0} (nodes : List (Node Op)) (name : List ℕ) (n : Node Op) → node_of nodes name ≡ Some n → IsTrue (has_node nodes name)
has-node nodes name n is = let lt = slice_get_within nodes (index_of nodes name) n is in grind (arith, nat_tests, lt)

at_most : (ds : List Damage) (b : ℕ) (d : Damage) → AreLast b ds → Contains ds d → d.number ≤ b
at_most ds b d is hd =
    let first = suc b - min b most_damages in
    let nd : d.number ≡ first + hd.0 = ap (λ (w : Damage). w.number) (sym hd.2) ∙ number_at ds first (min b most_damages) hd.0 d is hd.1 in
    omega (arith, nd, hd.1, sized ds first (min b most_damages) is)

module _ {Op : Type 0} (meanings : Meanings Op) (known : Bool) (x y z : ShownScene Op)
    (xy : Follows meanings known x y) (yz : Follows meanings known y z) where
  -- what is later in the second is later in the third
  earlier : z.number ≤ x.number + most_damages → (name : List ℕ) (u v : ℕ) → LiesLater x.number y.damages name u v → LiesLater x.number z.damages name u v
  earlier near name u v lies =
      let d = lies.is_later.damage in
      let le : d.number ≤ y.number = at_most y.damages y.number d xy.last lies.is_later.there in
      let found = has_number z.damages z.number d.number yz.last (omega (arith, lies.is_later.later, near)) (omega (arith, lies.is_later.later)) (omega (arith, le, yz.later)) in
      let back : Contains y.damages found.0 = yz.same found.0 found.1 (omega (arith, found.2, le)) in
      let same : found.0 ≡ d = one_number y.damages y.number found.0 d xy.last back lies.is_later.there found.2 in
      record {
        rect = lies.rect;
        is_later = record { damage = d; there = subst (Contains z.damages) same found.1; later = lies.is_later.later; is_listed = lies.is_later.is_listed };
        inside = lies.inside;
      }

  -- what is later than the second is later than the first
  later_too : (name : List ℕ) (u v : ℕ) → LiesLater y.number z.damages name u v → LiesLater x.number z.damages name u v
  later_too name u v lies = record {
    rect = lies.rect;
    is_later = record { damage = lies.is_later.damage; there = lies.is_later.there; later = omega (arith, lies.is_later.later, xy.later); is_listed = lies.is_later.is_listed };
    inside = lies.inside;
  }

  abbrev Both : List ℕ → Type 0
  Both name = IsCovered meanings x.scene x.number z.damages name × IsCovered meanings z.scene x.number z.damages name

  kept-kept : z.number ≤ x.number + most_damages → (name : List ℕ) → IsKept meanings known x y name → IsKept meanings known y z name → IsKept meanings known x z name
  kept-kept near name a b =
      let one : a.after ≡ b.before = cc (a.there_after, b.there_before) in
      record {
        before = a.before;
        after = b.after;
        there_before = a.there_before;
        there_after = b.there_after;
        kind = a.kind ∙ (ap (λ (n : Node Op). is_source n.body) one ∙ b.kind);
        box = a.box ∙ b.box;
        format = a.format ∙ b.format;
        samples = λ is u v c outside.
            a.samples is u v c (λ lies. outside (earlier near name u v lies)) ∙ b.samples is u v c (λ lies. outside (later_too name u v lies));
      }

  kept-covered : z.number ≤ x.number + most_damages → (name : List ℕ) → IsKept meanings known x y name
      → IsCovered meanings y.scene y.number z.damages name × IsCovered meanings z.scene y.number z.damages name → Both name
  kept-covered near name a b = (
    λ has u v inside. later_too name u v (b.0 (has-node y.scene.nodes name a.after a.there_after) u v (subst (Inside u v) a.box inside)),
    λ has u v inside. later_too name u v (b.1 has u v inside),
  )

  covered-kept : z.number ≤ x.number + most_damages → (name : List ℕ)
      → IsCovered meanings x.scene x.number y.damages name × IsCovered meanings y.scene x.number y.damages name
      → IsKept meanings known y z name → Both name
  covered-kept near name a b = (
    λ has u v inside. earlier near name u v (a.0 has u v inside),
    λ has u v inside. earlier near name u v (a.1 (has-node y.scene.nodes name b.before b.there_before) u v (subst (Inside u v) (sym b.box) inside)),
  )

  covered-covered : z.number ≤ x.number + most_damages → (name : List ℕ)
      → IsCovered meanings x.scene x.number y.damages name × IsCovered meanings y.scene x.number y.damages name
      → IsCovered meanings y.scene y.number z.damages name × IsCovered meanings z.scene y.number z.damages name → Both name
  covered-covered near name a b = (
    λ has u v inside. earlier near name u v (a.0 has u v inside),
    λ has u v inside. later_too name u v (b.1 has u v inside),
  )

  cases-both : z.number ≤ x.number + most_damages → (name : List ℕ) → IsKept meanings known x z name ⊎ Both name
  cases-both near name =
      let first = xy.cases (omega (arith, near, yz.later)) name in
      let second = yz.cases (omega (arith, near, xy.later)) name in
      ⊎_elim (λ (a : IsKept meanings known x y name).
      ⊎_elim (λ (b : IsKept meanings known y z name). inl (kept-kept near name a b)) (λ b. inr (kept-covered near name a b)) second)
      (λ a. ⊎_elim (λ (b : IsKept meanings known y z name). inr (covered-kept near name a b)) (λ b. inr (covered-covered near name a b)) second)
      first

  pub follows-both : Follows meanings known x z
  follows-both = record {
    later = omega (arith, xy.later, yz.later);
    last = yz.last;
    same = λ d has le. xy.same d (yz.same d has (omega (arith, le, xy.later))) le;
    cases = cases-both;
  }
