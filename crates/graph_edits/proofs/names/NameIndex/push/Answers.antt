use Rattle.graph_edits.proofs.NameLaws.{pushed}
use Rattle.graph_edits.proofs.names.NameIndex.push.Goals as goal

pub returns-clause-pushed : goal.returns-clause-pushed
returns-clause-pushed c =
    pushed c.self.inside.names.keys c.args.self.now c.insert.new.self.keys c.args.name c.self.view_is c.requires c.in_ok-insert.ensures.keys
