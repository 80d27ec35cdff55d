use Rattle.std.proofs.Common.{◌+◌, ◌*◌, ◌≡◌, refl, arith, ◌∙◌, length}
use Rattle.std.proofs.lemmas.Slice.{take-put_mid}
use Rattle.std.proofs.lemmas.List.{length-take, length-drop}
use Rattle.outside_io.proofs.BlockRanges.{exposed_always, read-more}
use Rattle.outside_io.proofs.swap.SwapDisk.read_blocks.Goals as goal

pub loop-k-init : goal.loop-k-init
loop-k-init g c = record {
  read = exposed_always _ _ (λ blocks. refl);
  blocks = refl;
  later = omega arith;
  block_count = refl;
  loans = refl;
}

pub loop-k-preserved : goal.loop-k-preserved
loop-k-preserved g c =
    let was = c.loop-k.invariant in
    let done = c.in_ok-read_block.ensures in
    let k = c.loop-k.k in
    let part = c.read_block.new.into in
    let size : length part ≡ 4096 =
    omega (arith, simp (length-take, length-drop) at c.read_block.auto.into, c.loop-k.auto.into) in
    record {
      read = read-more _ c.args.first k (4096 * k) (4096 * (k + 1)) c.loop-k.into _ part
          (take-put_mid (4096 * k) _ c.loop-k.into part (4096 * (k + 1)) (omega (arith, size)) (omega arith))
          (rw was.blocks at done.gives) was.read;
      blocks = done.blocks ∙ was.blocks;
      later = omega (arith, was.later, done.later);
      block_count = done.block_count ∙ was.block_count;
      loans = done.loans ∙ was.loans;
    }
