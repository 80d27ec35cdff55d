use Rattle.std.proofs.Common.{◌≡◌, ◌*◌, ◌≤◌, IfSome, take}
use Rattle.outside_io.specs.Swap.{UnchangedOutside, bytes_of_blocks}
use Rattle.outside_io.proofs.swap.SwapDisk.write_blocks.Given as goal

abbrev pub invariant-loop-k : goal.invariant-loop-k
invariant-loop-k g l = record {
  others : UnchangedOutside l.first l.k (g.Self.SwapDisk.blocks l.fn.self) (g.Self.SwapDisk.blocks l.self);
  written : IfSome (g.Self.SwapDisk.blocks l.self) (λ all. bytes_of_blocks all l.first l.k ≡ take (4096 * l.k) l.bytes);
  later : g.Self.SwapDisk.faults l.fn.self ≤ g.Self.SwapDisk.faults l.self;
  block_count : g.Self.SwapDisk.block_count l.self ≡ g.Self.SwapDisk.block_count l.fn.self;
  loans : g.Self.SwapDisk.loans l.self ≡ g.Self.SwapDisk.loans l.fn.self;
}
