use Rattle.std.proofs.Common.{ap, ◌∙◌}
use Rattle.std.specs.List.{list_all}
use Rattle.graph_commits.specs.Graphs.{is_still_there}
use Rattle.graph_commits.proofs.BufferLaws.{all_still_there}
use Rattle.graph_commits.proofs.graph.Graph.has_all_buffers_in.Goals as goal

pub returns-clause-there : goal.returns-clause-there
returns-clause-there g c =
    all_still_there c.are_still_there.result c.args.self.now.latest.buffers c.args.buffers.now
    (c.are_still_there.ensures ∙ ap (list_all (is_still_there c.args.buffers.now)) c.buffers.ensures)
