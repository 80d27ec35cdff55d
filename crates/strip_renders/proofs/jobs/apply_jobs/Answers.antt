use Rattle.std.proofs.lemmas.List.Elements.{All-from_recursion}
use Rattle.node_tiles.specs.Jobs.{IsTileJob}
use Rattle.strip_renders.specs.Ahead.{made_of}
use Rattle.strip_renders.proofs.JobLists.{all-made}
use Rattle.strip_renders.proofs.jobs.apply_jobs.Goals as goal

pub batch-requires-after_bounds : goal.batch-requires-after_bounds
batch-requires-after_bounds g c κs within = λ k d less.
    (c.requires.inputs, All-from_recursion (IsTileJob g.K.Op.OpMeaning.meanings c.args.nodes.now) c.args.jobs.items c.requires.jobs k d less)

pub returns : goal.returns
returns g c = all-made (made_of g.K.Op.OpMeaning.meanings c.args.nodes.now) c.args.jobs.items (λ made. made.items) c.batch.result c.batch.ensures
