use Rattle.std.proofs.Common.{◌≡◌, ◌*◌, ◌≤◌, IfSome, take}
use Rattle.outside_io.specs.Swap.{bytes_of_blocks}
use Rattle.outside_io.proofs.swap.SwapDisk.read_blocks.Given as goal

abbrev pub invariant-loop-k : goal.invariant-loop-k
invariant-loop-k g l = record {
  read : IfSome (g.Self.SwapDisk.blocks l.fn.self) (λ all. take (4096 * l.k) l.into ≡ bytes_of_blocks all l.first l.k);
  blocks : g.Self.SwapDisk.blocks l.self ≡ g.Self.SwapDisk.blocks l.fn.self;
  later : g.Self.SwapDisk.faults l.fn.self ≤ g.Self.SwapDisk.faults l.self;
  block_count : g.Self.SwapDisk.block_count l.self ≡ g.Self.SwapDisk.block_count l.fn.self;
  loans : g.Self.SwapDisk.loans l.self ≡ g.Self.SwapDisk.loans l.fn.self;
}
