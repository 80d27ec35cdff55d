use Rattle.std.proofs.Common.{◌≡◌, ◌≤◌, List, Some, length, take, refl, ◌∙◌, subst, sym, arith}
use Rattle.std.specs.Prelude.{slice_get}
use Rattle.std.proofs.lemmas.List.{length-take}
use Rattle.model_states.specs.Need.{Needed}
use Rattle.node_tiles.specs.Stated.{IsReady}
use Rattle.strip_renders.specs.Ahead.{AreJobs}
use Rattle.strip_renders.specs.Moments.{ReadsTiles, source_state}
use Rattle.strip_renders.proofs.JobLists.{jobs-few}
use Rattle.strip_renders.proofs.Moments.{matched-err, read-as, read-both, read-refused, refused-as}
use Rattle.strip_renders.proofs.Needs.{get-here}
use Rattle.strip_renders.proofs.Turning.{needed-at, take-more}
use Rattle.strip_renders.proofs.jobs.tile_jobs.Given
use Rattle.strip_renders.proofs.jobs.tile_jobs.Goals.{After-entry-item}
use Rattle.strip_renders.proofs.jobs.tile_jobs.Goals as goal

module _ (g : Given.Over) (c : After-entry-item g) where
  -- the entry of this turn
  found : slice_get c.args.batch.now c.loop-entry.entry-index ≡ Some c.entry-item.result
  found = needed-at c.args.batch.now c.args.batch.now c.loop-entry.entry-index c.entry-item.result refl c.loop-entry-test.true c.entry-item.is

  -- a permit is left for it
  few : length c.loop-entry.jobs.items ≤ c.loop-entry.entry-index
  few =
      let jobs = jobs-few g.K.Op.OpMeaning.meanings c.args.by.now.nodes.now (g.C.PairStore.pairs c.args.cache.now) (take c.loop-entry.entry-index c.args.batch.now) c.loop-entry.jobs.items c.loop-entry.invariant.jobs in
      omega (arith, jobs, length-take c.loop-entry.entry-index c.args.batch.now)

pub add_job-requires-clause-ready : goal.add_job-requires-clause-ready
add_job-requires-clause-ready g c =
    get-here (λ (n : Needed). IsReady g.K.Op.OpMeaning.meanings c.args.by.now.nodes.now c.args.held.now n.0 n.1) c.args.batch.now c.loop-entry.entry-index c.entry-item.result c.requires.ready
    (found g (goal.at.add_job-requires-clause-ready g c).After-entry-item)

pub add_job-requires-clause-permits : goal.add_job-requires-clause-permits
add_job-requires-clause-permits g c =
    omega (arith, few g (goal.at.add_job-requires-clause-permits g c).After-entry-item, c.loop-entry.invariant.permits, c.loop-entry-test.true, c.requires.permits)

pub returns-in_err-add_job-clause-permits : goal.returns-in_err-add_job-clause-permits
returns-in_err-add_job-clause-permits g c =
    let count = few g (goal.at.returns-in_err-add_job-clause-permits g c).After-entry-item in
    matched-err c.from_residual.result _ _ _ c.from_residual.ensures.1 (
      omega (arith, c.in_err-add_job.ensures.permits.0, c.loop-entry.invariant.permits),
      omega (arith, c.in_err-add_job.ensures.permits.1, c.loop-entry.invariant.permits, count, c.loop-entry-test.true),
    )

pub returns-in_err-add_job-clause-read : goal.returns-in_err-add_job-clause-read
returns-in_err-add_job-clause-read g c =
    let start = source_state g.H.ChainMeaning g.S.SourceTiles c.args.sources.now c.args.chain.now in
    let now = source_state g.H.ChainMeaning g.S.SourceTiles c.loop-entry.sources c.loop-entry.chain in
    let next = source_state g.H.ChainMeaning g.S.SourceTiles c.add_job.new.sources c.add_job.new.chain in
    let refused = c.in_err-add_job.field-0.0 in
    refused-as c.from_residual.result refused (ReadsTiles start next) c.from_residual.ensures.1
    (read-refused start now next tt refused c.loop-entry.invariant.read c.in_err-add_job.ensures.read)

pub returns-clause-read : goal.returns-clause-read
returns-clause-read g c = read-as _ _ tt c.loop-entry.jobs c.loop-entry.invariant.read

pub loop-entry-preserved : goal.loop-entry-preserved
loop-entry-preserved g c =
    let batch = c.args.batch.now in
    let i = c.loop-entry.entry-index in
    let n = c.entry-item.result in
    let invariant = c.loop-entry.invariant in
    let does = c.in_ok-add_job.ensures in
    record {
      jobs = subst (λ (list : List Needed). AreJobs g.K.Op.OpMeaning.meanings c.args.by.now.nodes.now (g.C.PairStore.pairs c.args.cache.now) list c.add_job.new.jobs.items)
          (sym (take-more batch i n (found g (goal.at.loop-entry-preserved g c).After-entry-item)))
          (does.jobs (take i batch) invariant.jobs);
      bytes = λ images known tiles. does.bytes images (invariant.read.reads.images ∙ known) tiles (invariant.bytes images known tiles);
      permits = does.permits ∙ invariant.permits;
      read = read-both _ _ _ tt tt invariant.read does.read;
    }
