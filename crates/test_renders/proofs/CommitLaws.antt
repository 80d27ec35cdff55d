-- Commits of no edits leave the nodes.
use Rattle.std.proofs.Common.{◌≡◌, Bool, true, false, cond, List, [], Option, Some, None, Result, Ok, Err, sym, ap, ◌∙◌}
use Rattle.model_graphs.specs.Facts.{Facts, shapes_of_facts, specs_of}
use Rattle.model_graphs.specs.Meanings.{Meanings}
use Rattle.model_graphs.specs.declared.node.NodeFact.{NodeFact}
use Rattle.model_states.specs.Commits.{Graph, commit_nodes, commit_side, committed, side_of}
use Rattle.model_states.specs.Edits.{unless_refused}
use Rattle.model_states.specs.Rectangles.{Rectangles}
use Rattle.model_states.specs.Retained.{Stepped}
use Rattle.model_states.specs.Valid.{AreStated, stated}
use Rattle.model_states.specs.declared.refused.StateRefused.{StateRefused}
use Rattle.model_states.proofs.Stated.{stated_only}

module _ {Op : Type 0} (same : Op → Op → Bool) (meanings : Meanings Op) (graph : Graph Op) (buffers : Facts) (written : Rectangles) where
  abbrev nodes : List (NodeFact Op)
  nodes = graph.latest.nodes

  abbrev again : List (NodeFact Op)
  again = stated meanings (shapes_of_facts buffers) (specs_of nodes)

  of-walk : (o : Option StateRefused) (step : Stepped (Graph Op) Rectangles)
      → commit_nodes same meanings graph buffers written (unless_refused o (specs_of nodes)) ≡ Ok step → again ≡ step.next.latest.nodes
  of-walk None step is = let it : commit_side same meanings graph (side_of meanings buffers (specs_of nodes)) written ≡ step = cc in
      ap (λ (s : Stepped (Graph Op) Rectangles). s.next.latest.nodes) it
  of-walk (Some refused) step is = absurd (cc)

  of-number : (last : Bool) (result : Result (Stepped (Graph Op) Rectangles) StateRefused) (step : Stepped (Graph Op) Rectangles) (refused : StateRefused)
      → cond last (Err refused) result ≡ Ok step → result ≡ Ok step
  of-number true result step refused is = absurd (cc)
  of-number false result step refused is = is

  -- after a commit of no edits the nodes are those before it
  pub nodes-stay : (step : Stepped (Graph Op) Rectangles) → AreStated meanings (shapes_of_facts buffers) nodes
      → committed same meanings graph [] buffers written ≡ Ok step → step.next.latest.nodes ≡ nodes
  nodes-stay step are is =
      sym (of-walk _ step (of-number _ _ step _ is))
      ∙ sym (stated_only meanings (shapes_of_facts buffers) nodes are)
