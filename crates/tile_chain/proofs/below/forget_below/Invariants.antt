use Rattle.std.proofs.Common.{◌≡◌}
use Rattle.chain_owners.specs.Counts.{Continues}
use Rattle.tile_chain.specs.Overlay.{IsCache, overlay}
use Rattle.tile_chain.proofs.below.forget_below.Given as goal

abbrev pub invariant-loop-name : goal.invariant-loop-name
invariant-loop-name g l = record {
  held : overlay l.tiles.entries (g.H.ChainMeaning.held l.below) ≡ overlay l.tiles.entries (g.H.ChainMeaning.held l.fn.below);
  cached : IsCache l.tiles.entries l.tiles.cap (g.H.ChainMeaning.held l.fn.below) → IsCache l.tiles.entries l.tiles.cap (g.H.ChainMeaning.held l.below);
  continues : Continues (g.H.ChainMeaning.counts l.fn.below) (g.H.ChainMeaning.counts l.below);
  loans : g.H.ChainMeaning.loans l.below ≡ g.H.ChainMeaning.loans l.fn.below;
  valid : g.H.ChainMeaning.is_valid l.fn.below → g.H.ChainMeaning.is_valid l.below;
}
