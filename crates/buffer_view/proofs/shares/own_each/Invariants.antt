use Rattle.std.proofs.Common.{take}
use Rattle.root_tiles.specs.Chains.{chain_state}
use Rattle.buffer_view.specs.Shares.{Shares}
use Rattle.buffer_view.proofs.shares.own_each.Given as goal

abbrev pub invariant-loop-root : goal.invariant-loop-root
invariant-loop-root g l =
    Shares l.roots (take l.root-index l.roots) (chain_state g.C.ChainMeaning l.initial.chain) (chain_state g.C.ChainMeaning l.chain)
