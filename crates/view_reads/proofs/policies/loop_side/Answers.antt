use Rattle.view_reads.proofs.LoopParts.{shifted-side, whole-side}
use Rattle.view_reads.proofs.policies.loop_side.Goals as goal

pub returns : goal.returns
returns c = whole-side c.args.bounds.start c.args.bounds.len c.args.read.start c.args.read.len c.requires.some c.args.bounds.in_plane

pub returns-then-from-read : goal.returns-then-from-read
returns-then-from-read c =
    shifted-side c.args.bounds.start c.args.bounds.len c.args.read.start c.args.read.len c.wrapped-from.result c.requires.some c.requires.few c.wrapped-from.ensures.value
    c.if-from-read.true c.args.read.in_plane
