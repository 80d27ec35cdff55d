use Rattle.model_states.specs.Cache.{pair_of}
use Rattle.model_graphs.specs.Facts.{specs_of}
use Rattle.node_cache.specs.Stores.{pair_at}
use Rattle.node_tiles.proofs.Places.{ready-inside}
use Rattle.strip_renders.proofs.JobLists.{jobs-more, jobs-past, jobs_of-more, not-there}
use Rattle.strip_renders.proofs.Pairs.{named}
use Rattle.strip_renders.specs.Moments.{ReadsTiles, source_state}
use Rattle.strip_renders.proofs.Moments.{refused-as}
use Rattle.chain_owners.specs.declared.swap_refused.SwapRefused.TheVariants as swaps
use Rattle.strip_renders.proofs.jobs.add_job.Goals as goal

pub returns-in_err-push-clause-read : goal.returns-in_err-push-clause-read
returns-in_err-push-clause-read g c =
    let start = source_state g.H.ChainMeaning g.S.SourceTiles c.args.sources.now c.args.chain.now in
    let next = source_state g.H.ChainMeaning g.S.SourceTiles c.tile_job.new.sources c.tile_job.new.chain in
    let does = c.in_ok-job.ensures in
    refused-as c.from_residual-in_err-push.result swaps.NoMemory (ReadsTiles start next) c.from_residual-in_err-push.ensures.1
    (record { reads = does.reads; over = does.over; valid = does.valid; cause = tt })

pub returns-then-has-clause-jobs : goal.returns-then-has-clause-jobs
returns-then-has-clause-jobs g c = λ needed are.
    jobs-past g.K.Op.OpMeaning.meanings c.args.by.now.nodes.now (g.C.PairStore.pairs c.args.cache.now) needed (c.args.node, c.args.at) c.args.jobs.now.items are

pub returns-clause-jobs : goal.returns-clause-jobs
returns-clause-jobs g c = λ needed are.
    let nodes = c.args.by.now.nodes.now in
    let name = c.index-nodes-node.result.spec.name in
    let pairs = g.C.PairStore.pairs c.args.cache.now in
    let inside = ready-inside nodes g.K.Op.OpMeaning.meanings c.args.held.now c.args.node c.args.at c.requires.ready in
    let absent = not-there pairs (pair_of (specs_of nodes) (c.args.node, c.args.at)) (pair_at name c.args.at) c.has.result c.has.ensures c.if-has.false
    (named nodes c.args.node c.index-nodes-node.result c.args.at inside c.index-nodes-node.is) in
    jobs-more g.K.Op.OpMeaning.meanings nodes c.args.node c.args.at c.args.jobs.now.items c.push.new.self.items c.in_ok-job.job c.in_ok-push.ensures.items
    c.in_ok-job.ensures.node c.in_ok-job.ensures.tile pairs needed absent c.in_ok-job.ensures.job are

pub returns-clause-bytes : goal.returns-clause-bytes
returns-clause-bytes g c = λ images known tiles are.
    jobs_of-more g.K.Op.OpMeaning.meanings c.args.by.now.nodes.now c.args.node c.args.at c.args.jobs.now.items c.push.new.self.items c.in_ok-job.job c.in_ok-push.ensures.items
    c.in_ok-job.ensures.node c.in_ok-job.ensures.tile images (c.in_ok-job.ensures.bytes images known tiles) are
