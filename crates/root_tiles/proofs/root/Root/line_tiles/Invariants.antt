use Rattle.root_tiles.specs.Chains.{IsRead, chain_state}
use Rattle.root_tiles.specs.Roots.{root_image}
use Rattle.root_tiles.proofs.LineTiles.{IsFilled}
use Rattle.root_tiles.proofs.root.Root.line_tiles.Given as goal

abbrev pub invariant-loop-column : goal.invariant-loop-column
invariant-loop-column g l = record {
  read : IsRead
      (chain_state g.C.ChainMeaning l.initial.chain) (chain_state g.C.ChainMeaning l.chain);
  filled : IsFilled l.fn.self.tiles.format (root_image l.fn.self (g.C.ChainMeaning.held l.initial.chain)) l.fn.rect l.fn.line l.column l.tiles.items;
}
