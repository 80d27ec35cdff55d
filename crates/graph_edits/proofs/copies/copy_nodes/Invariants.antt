use Rattle.std.proofs.Common.{◌≡◌, take}
use Rattle.model_graphs.specs.Facts.{specs_of}
use Rattle.graph_edits.proofs.copies.copy_nodes.Given as goal

abbrev pub invariant-loop-fact : goal.invariant-loop-fact
invariant-loop-fact g l = l.nodes.items ≡ specs_of (take l.fact-index l.facts)
