use Rattle.std.proofs.Common.{Ok, ◌+◌, ◌/◌, refl, arith, ◌∙◌, length}
use Rattle.outside_io.proofs.BlockRanges.{unchanged-same, unchanged-written, unchanged-refused, unchanged-wider, unchanged-trans, written-more, exposed_always, next_part}
use Rattle.outside_io.proofs.swap.SwapDisk.write_blocks.Goals as goal

pub loop-k-init : goal.loop-k-init
loop-k-init g c = record {
  others = unchanged-same c.args.first 0 (g.Self.SwapDisk.blocks c.args.self.now);
  written = exposed_always _ _ (λ blocks. refl);
  later = omega arith;
  block_count = refl;
  loans = refl;
}

pub returns-in_err-write_block-clause-others : goal.returns-in_err-write_block-clause-others
returns-in_err-write_block-clause-others g c =
    let first = c.args.first in
    let k = c.loop-k.k in
    unchanged-trans first (length c.args.bytes.now / 4096) _ _ _
    (unchanged-wider first k first (length c.args.bytes.now / 4096) _ _ (omega arith) (omega (arith, c.loop-k-test.true)) c.loop-k.invariant.others)
    (unchanged-wider (first + k) 1 first (length c.args.bytes.now / 4096) _ _ (omega arith) (omega (arith, c.loop-k-test.true))
    (unchanged-refused _ _ (first + k) c.in_err-write_block.ensures.leaves))

pub loop-k-preserved : goal.loop-k-preserved
loop-k-preserved g c =
    let first = c.args.first in
    let k = c.loop-k.k in
    let was = c.loop-k.invariant in
    record {
      others = unchanged-trans first (k + 1) _ _ _
          (unchanged-wider first k first (k + 1) _ _ (omega arith) (omega arith) was.others)
          (unchanged-wider (first + k) 1 first (k + 1) _ _ (omega arith) (omega arith)
          (unchanged-written _ _ (first + k) _ (Ok tt) c.in_ok-write_block.ensures.leaves));
      written = written-more _ _ first k (g.Self.SwapDisk.block_count c.loop-k.self) _ _ _ c.in_ok-write_block.ensures.leaves
          (g.met.Self.SwapDisk.exposes_all c.loop-k.self) (omega (arith, was.block_count))
          (next_part k _ _ c.args.bytes.now (omega arith) (omega arith)) was.written;
      later = omega (arith, was.later, c.in_ok-write_block.ensures.later);
      block_count = c.in_ok-write_block.ensures.block_count ∙ was.block_count;
      loans = c.in_ok-write_block.ensures.loans ∙ was.loans;
    }
