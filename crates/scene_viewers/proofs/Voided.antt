-- Voids damage by damage are those of all their entries.
use Rattle.std.proofs.Common.{◌≡◌, ℕ, ◌+◌, ◌≤◌, ◌++◌, Bool, true, false, cond, List, [], ◌∷◌, fold, refl, sym, ◌∙◌, ap, arith}
use Rattle.std.specs.Prelude.{filter, flat_map, nat_le, nat_lt}
use Rattle.std.proofs.lemmas.Bool.Decides.{nat_tests}
use Rattle.std.proofs.lemmas.List.Sums.{fold-append}
use Rattle.plane_rect.specs.Rectangle.{Rectangle}
use Rattle.model_states.specs.Cache.{Pair, all_voided, voided}
use Rattle.model_states.specs.Rectangles.{Rectangles}
use Rattle.model_states.specs.declared.damage.Damage.{Damage}
use Rattle.model_scenes.specs.Follows.{entries_after, left_at, most_damages}
use Rattle.scene_viewers.specs.Leaving.{voided_later}

pub voided-by-damage : {X : Type 0} (key : X → Pair) (number : ℕ) (list : List X) (damages : List Damage)
    → fold (voided_later key number) list damages ≡ all_voided key list (entries_after number damages)
voided-by-damage key number list [] = refl
voided-by-damage {X} key number list (d ∷ ds) =
    voided-by-damage key number (voided_later key number list d) ds ∙ by (nat_lt number d.number)
  where
    rest : List Damage
    rest = filter (λ (d : Damage). nat_lt number d.number) ds

    by : (b : Bool) → all_voided key (cond b (all_voided key list d.rects) list) (entries_after number ds)
        ≡ all_voided key list (flat_map (λ (d : Damage). d.rects) (cond b (d ∷ rest) rest))
    by true = sym (fold-append (λ (list : List X) (e : List ℕ × Rectangle). voided key list e.0 e.1) list d.rects (entries_after number ds))
    by false = refl

-- damage by damage, where the scene tells of all commits between
pub left-near : {X : Type 0} (key : X → Pair) (old new : ℕ) (damages : List Damage) (list left : List X)
    → new ≤ old + most_damages → left ≡ fold (voided_later key old) list damages → left ≡ left_at key old new damages list
left-near {X} key old new damages list left near is =
    let within : nat_le new (old + most_damages) ≡ true = grind (arith, nat_tests, near) in
    is ∙ voided-by-damage key old list damages ∙ sym (ap (λ b. cond b (all_voided key list (entries_after old damages)) []) within)
