-- Cached pairs, voided by the damages of a step.
use Rattle.std.proofs.Common.{◌≡◌, ℕ, Bool, not, List, [], ◌∷◌, cond, refl, sym, ap, ◌∙◌, subst}
use Rattle.model_graphs.specs.Evaluation.{Buffers}
use Rattle.model_graphs.specs.Laws.{IsEquality, KeepsLaws}
use Rattle.model_graphs.specs.Meanings.{Meanings}
use Rattle.plane_rect.specs.Rectangle.{Rectangle}
use Rattle.model_states.specs.Cache.{AreRight, Cached, Pair, all_voided, by_pair, without_damaged}
use Rattle.model_graphs.specs.Facts.{Facts}
use Rattle.model_states.specs.Damage.{AreSteady, Change, HaveRectangles, IsStatedChange, damage, damage_list, reversed}
use Rattle.model_states.specs.Neighbors.{IsChange, scene_of_side}
use Rattle.plane_rect.specs.Tile.{meets}
use Rattle.model_states.proofs.RightPairs.{stay_right}
use Rattle.model_states.proofs.Symmetric as symmetric
use Rattle.model_states.proofs.Voids.{damage_voids}

-- steady buffers are steady the other way round
pub steady_back : (old new : Facts) → AreSteady old new → AreSteady new old
steady_back old new steady name b a again there =
    let one = steady name a b there again in
    record { root = sym one.root; shape = sym one.shape }

-- damages that are equal at each name leave the same
same_left : {X : Type 0} (key : X → Pair) (first second : List ℕ → Rectangle) → ((name : List ℕ) → first name ≡ second name) → (list : List X) →
    without_damaged key first list ≡ without_damaged key second list
same_left key first second equal [] = refl
same_left key first second equal (x ∷ list) =
    ap (λ r. cond (not (meets (key x).tile r)) (x ∷ without_damaged key first list) (without_damaged key first list)) (equal (key x).node)
    ∙ ap (λ rest. cond (not (meets (key x).tile (second (key x).node))) (x ∷ rest) rest) (same_left key first second equal list)

module _ {Op : Type 0} (same : Op → Op → Bool) (meanings : Meanings Op) (change : Change Op) (equality : IsEquality same) (stated : IsStatedChange meanings change)
    (old : HaveRectangles change.old) (new : HaveRectangles change.new) where
  pub voids_back : {X : Type 0} (key : X → Pair) (list : List X) →
      all_voided key list (damage_list same meanings change) ≡ without_damaged key (damage same meanings (reversed change)) list
  voids_back key list =
      damage_voids key same meanings change list
      ∙ same_left key (damage same meanings change) (damage same meanings (reversed change))
      (λ name. sym (symmetric.symmetric same meanings equality change stated old new name)) list

-- what is left of right pairs is right after the step
module _ {Op : Type 0} (same : Op → Op → Bool) (meanings : Meanings Op) (equality : IsEquality same) (keeps : KeepsLaws meanings) (change : Change Op) (old new : Buffers) where
  pub right_onward : (list : List Cached) → IsChange meanings change old new → AreRight meanings (scene_of_side change.old old) list →
      AreRight meanings (scene_of_side change.new new) (all_voided by_pair list (damage_list same meanings change))
  right_onward list is right =
      subst (AreRight meanings (scene_of_side change.new new)) (sym (damage_voids by_pair same meanings change list))
      (stay_right same meanings change old new keeps equality.apart is list right)

  pub right_back : (list : List Cached) → IsChange meanings (reversed change) new old → HaveRectangles change.old → HaveRectangles change.new →
      AreRight meanings (scene_of_side change.new new) list →
      AreRight meanings (scene_of_side change.old old) (all_voided by_pair list (damage_list same meanings change))
  right_back list is old_rectangles new_rectangles right =
      let back = is.stated in
      let stated : IsStatedChange meanings change =
      record { old = back.new; new = back.old; steady = steady_back change.new.buffers change.old.buffers back.steady } in
      subst (AreRight meanings (scene_of_side change.old old)) (sym (voids_back same meanings change equality stated old_rectangles new_rectangles by_pair list))
      (stay_right same meanings (reversed change) new old keeps equality.apart is list right)
