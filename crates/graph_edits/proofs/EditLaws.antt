-- Edits made one after another.
use Rattle.std.proofs.Common.{◌≡◌, ℕ, suc, ◌<◌, List, [], ◌∷◌, length, get_or, drop, refl, ap, sym, ◌∙◌, drop-cons, None, Result, Ok, Err}
use Rattle.model_graphs.specs.Node.{Node}
use Rattle.model_states.specs.Edits.{edit_refused, then_edit, unless_refused, with_edit, with_edits}
use Rattle.model_graphs.specs.Shapes.{Shapes}
use Rattle.model_graphs.specs.declared.node.NodeEdit.{NodeEdit}
use Rattle.model_graphs.specs.declared.node.NodeEdit.TheVariants.{Set}
use Rattle.model_states.specs.declared.refused.StateRefused.{StateRefused}
use Rattle.graph_edits.specs.declared.refused.GraphRefused.{GraphRefused}
use Rattle.graph_edits.specs.declared.refused.GraphRefused.TheVariants.{State, NoMemory}
use Rattle.graph_edits.specs.Refusals.{IsRefusalOf}

module _ {Op : Type 0} (shapes : Shapes) where
  refused_rest : (refused : StateRefused) (more : List (NodeEdit Op)) → with_edits shapes (Err refused) more ≡ Err refused
  refused_rest refused [] = refl
  refused_rest refused (edit ∷ more) = refused_rest refused more

  -- the edits from one on, which is there
  pub edits_from : (nodes : List (Node Op)) (all : List (NodeEdit Op)) (i : ℕ) (edit : NodeEdit Op) → i < length all → get_or all i edit ≡ edit →
      with_edits shapes (Ok nodes) (drop i all) ≡ with_edits shapes (then_edit shapes (Ok nodes) edit) (drop (suc i) all)
  edits_from nodes all i edit inside is =
      ap (λ (es : List (NodeEdit Op)). with_edits shapes (Ok nodes) es)
      (drop-cons all i edit inside ∙ ap (λ (e : NodeEdit Op). e ∷ drop (suc i) all) is)

  -- the first edit that is refused decides
  pub refusal_stays : (nodes : List (Node Op)) (whole : Result (List (Node Op)) StateRefused) (all : List (NodeEdit Op)) (i : ℕ) (edit : NodeEdit Op) (refusal : GraphRefused) →
      i < length all → get_or all i edit ≡ edit → with_edits shapes (Ok nodes) (drop i all) ≡ whole →
      IsRefusalOf (then_edit shapes (Ok nodes) edit) refusal → IsRefusalOf whole refusal
  refusal_stays nodes whole all i edit NoMemory inside is so_far refused = tt
  refusal_stays nodes whole all i edit (State why) inside is so_far refused =
      sym so_far ∙ edits_from nodes all i edit inside is
      ∙ ap (λ (r : Result (List (Node Op)) StateRefused). with_edits shapes r (drop (suc i) all)) refused
      ∙ refused_rest why (drop (suc i) all)

  -- a node that is not refused is set by a copy
  pub set_made : (nodes draft : List (Node Op)) (edit : NodeEdit Op) (node copied : Node Op) → None ≡ edit_refused shapes nodes edit →
      edit ≡ Set node → copied ≡ node → draft ≡ with_edit nodes (Set copied) → then_edit shapes (Ok nodes) edit ≡ Ok draft
  set_made nodes draft edit node copied passed is copy made =
      ap (λ o. unless_refused o (with_edit nodes edit)) (sym passed)
      ∙ ap (λ (e : NodeEdit Op). Ok (with_edit nodes e)) (is ∙ ap (λ (n : Node Op). Set n) (sym copy))
      ∙ ap (λ ns. Ok ns) (sym made)
