use Rattle.view_reads.proofs.Sources.{source-limits}
use Rattle.view_reads.proofs.positions.square_below.Goals as goal

pub returns-clause-limits : goal.returns-clause-limits
returns-clause-limits c = source-limits c.args.at c.source_of.result c.source_of.ensures.rectangle c.source_of.ensures.positions
