use Rattle.std.proofs.Common.{refl, ap, get_or, ◌∙◌, arith}
use Rattle.model_states.specs.Need.{Needed}
use Rattle.strip_renders.proofs.Batches.{node-more}
use Rattle.strip_renders.proofs.Turning.{needed-at}
use Rattle.strip_renders.proofs.batch.batch_end.Goals as goal

pub returns-then-need-end-clause-one : goal.returns-then-need-end-clause-one
returns-then-need-end-clause-one c = record { node = (get_or c.args.need.now c.args.index c.index-need-index.result).0; each = c.loop-end.invariant.each }

pub loop-end-preserved : goal.loop-end-preserved
loop-end-preserved c =
    let inside = c.loop-end-test.true in
    record {
      after = omega (arith, c.loop-end.invariant.after);
      each = node-more c.args.need.now c.args.index c.loop-end.end (get_or c.args.need.now c.args.index c.index-need-index.result).0 c.index-need-end.result
          (needed-at c.args.need.now c.args.need.now c.loop-end.end c.index-need-end.result refl (omega (arith, inside, c.min-most.ensures)) c.index-need-end.is)
          (ap (λ (n : Needed). n.0) c.index-need-end.is ∙ c.if-need-end.false)
          c.loop-end.invariant.each;
    }

pub returns-clause-one : goal.returns-clause-one
returns-clause-one c = record {
  node = (get_or c.args.need.now c.args.index c.index-need-index.result).0;
  each = λ k needed low less found. c.loop-end.invariant.each k needed low (omega (arith, less, c.loop-end-test.false)) found;
}
