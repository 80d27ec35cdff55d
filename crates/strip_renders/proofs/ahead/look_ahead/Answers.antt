use Rattle.std.proofs.Common.{◌≡◌, ◌≤◌, List, [], length, ap, ◌∙◌, subst, sym, arith}
use Rattle.model_graphs.specs.Facts.{shapes_of_facts}
use Rattle.model_states.specs.Need.{Needed}
use Rattle.strip_renders.specs.Batches.{IsBatch}
use Rattle.strip_renders.specs.Strips.{needed_from}
use Rattle.strip_renders.proofs.Batches.{batch-count, batch-few, batch-made, batch-next}
use Rattle.strip_renders.proofs.JobLists.{jobs-few}
use Rattle.strip_renders.proofs.Moments.{matched-err}
use Rattle.strip_renders.proofs.ahead.look_ahead.Given
use Rattle.strip_renders.proofs.ahead.look_ahead.Goals.{After-deref}
use Rattle.strip_renders.proofs.ahead.look_ahead.Goals as goal

module _ (g : Given.Over) (c : After-deref g) where
  -- nothing is left of the last batch
  none : length c.args.ahead.now ≡ 0
  none = let is : c.args.ahead.now ≡ [] = c.is_past.ensures c.if-not-is_past.false in ap length is

  abbrev batch : List Needed
  batch = c.deref.result.now

  -- what this one is
  is : IsBatch g.K.Op.OpMeaning.meanings c.args.by.now.nodes.now c.args.strip.now c.args.later.now c.args.index batch
  is =
      subst (IsBatch g.K.Op.OpMeaning.meanings c.args.by.now.nodes.now c.args.strip.now c.args.later.now c.args.index) (sym c.deref.ensures.value)
      (c.in_ok-batch.ensures (shapes_of_facts (g.S.SourceTiles.facts c.args.sources.now)) c.requires.stated.nodes)

  few : length batch ≤ length (needed_from c.args.strip.now c.args.later.now c.args.index)
  few = batch-few g.K.Op.OpMeaning.meanings c.args.by.now.nodes.now c.args.strip.now c.args.later.now c.args.index batch is

pub tile_jobs-requires-clause-ready : goal.tile_jobs-requires-clause-ready
tile_jobs-requires-clause-ready g c = (is g (goal.at.tile_jobs-requires-clause-ready g c).After-deref).ready c.args.held.now c.requires.held

pub tile_jobs-requires-clause-permits : goal.tile_jobs-requires-clause-permits
tile_jobs-requires-clause-permits g c =
    let at = (goal.at.tile_jobs-requires-clause-permits g c).After-deref in
    omega (arith, none g at, few g at, c.requires.permits)

pub returns-in_err-jobs-clause-permits : goal.returns-in_err-jobs-clause-permits
returns-in_err-jobs-clause-permits g c =
    let at = (goal.at.returns-in_err-jobs-clause-permits g c).After-deref in
    matched-err c.from_residual-in_err-jobs.result _ _ _ c.from_residual-in_err-jobs.ensures.1
    (c.in_err-jobs.ensures.permits.0, omega (arith, c.in_err-jobs.ensures.permits.1, none g at, few g at))

pub returns-in_err-made-clause-permits : goal.returns-in_err-made-clause-permits
returns-in_err-made-clause-permits g c =
    let at = (goal.at.returns-in_err-made-clause-permits g c).After-deref in
    let jobs = jobs-few g.K.Op.OpMeaning.meanings c.args.by.now.nodes.now (g.C.PairStore.pairs c.args.cache.now) (batch g at) c.in_ok-jobs.jobs.items c.in_ok-jobs.ensures.jobs in
    matched-err c.from_residual-in_err-made.result _ _ _ c.from_residual-in_err-made.ensures.1
    (omega (arith, c.in_ok-jobs.ensures.permits), omega (arith, c.in_ok-jobs.ensures.permits, jobs, none g at, few g at))

pub returns-clause-ahead : goal.returns-clause-ahead
returns-clause-ahead g c =
    let at = (goal.at.returns-clause-ahead g c).After-deref in
    batch-next g.K.Op.OpMeaning.meanings c.args.by.now.nodes.now (g.C.PairStore.pairs c.args.cache.now) c.args.strip.now c.args.later.now c.args.index (batch g at)
    c.in_ok-jobs.jobs.items c.from_vec.result.items (is g at) (c.from_vec.ensures.items ∙ c.in_ok-made.ensures) c.in_ok-jobs.ensures.jobs

pub returns-clause-bytes : goal.returns-clause-bytes
returns-clause-bytes g c = λ images known tiles before.
    batch-made g.K.Op.OpMeaning.meanings c.args.by.now.nodes.now images c.in_ok-jobs.jobs.items c.from_vec.result.items (c.from_vec.ensures.items ∙ c.in_ok-made.ensures)
    (c.in_ok-jobs.ensures.bytes images known tiles)

pub returns-clause-permits : goal.returns-clause-permits
returns-clause-permits g c =
    let at = (goal.at.returns-clause-permits g c).After-deref in
    let made = batch-count g.K.Op.OpMeaning.meanings c.args.by.now.nodes.now c.in_ok-jobs.jobs.items c.from_vec.result.items (c.from_vec.ensures.items ∙ c.in_ok-made.ensures) in
    (omega (arith, c.in_ok-jobs.ensures.permits), omega (arith, made, none g at, c.in_ok-jobs.ensures.permits))
