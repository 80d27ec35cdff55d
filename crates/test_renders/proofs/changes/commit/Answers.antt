use Rattle.std.proofs.Common.{◌≡◌, List, [], Ok, sym, subst}
use Rattle.model_buffers.specs.Layout.{facts_of}
use Rattle.model_graphs.specs.Facts.{Facts, rectangles_of, shapes_of_facts}
use Rattle.model_graphs.specs.declared.node.NodeEdit.{NodeEdit}
use Rattle.model_graphs.specs.declared.node.NodeFact.{NodeFact}
use Rattle.model_states.specs.Commits.{Graph, committed}
use Rattle.model_states.specs.Rectangles.{Rectangles}
use Rattle.model_states.specs.Retained.{Stepped}
use Rattle.model_states.specs.Valid.{AreStated}
use Rattle.strip_renders.specs.Strips.{AreSizedPairs}
use Rattle.test_renders.proofs.CommitLaws.{nodes-stay}
use Rattle.test_renders.proofs.changes.commit.Goals as goal

pub returns-clause-ready : goal.returns-clause-ready
returns-clause-ready g c = λ none.
    let Op = g.row.K-Op.Denot in
    let same = g.K.Op.OpMeaning.same in
    let meanings = g.K.Op.OpMeaning.meanings in
    let graph = c.args.graph.now in
    let facts : Facts = facts_of c.args.buffers.now.layout in
    let written : Rectangles = rectangles_of c.args.edited.now in
    let step : Stepped (Graph Op) Rectangles = record { next = c.commit.new.self; delta = c.in_ok-damage.damage.rects } in
    let over_facts : committed same meanings graph c.args.edits.now facts written ≡ Ok step =
    subst (λ (f : Facts). committed same meanings graph c.args.edits.now f written ≡ Ok step) c.facts-2.ensures.facts
    c.in_ok-damage.ensures.committed in
    let of_none : committed same meanings graph [] facts written ≡ Ok step =
    subst (λ (edits : List (NodeEdit Op)). committed same meanings graph edits facts written ≡ Ok step) none over_facts in
    let stay : c.commit.new.self.latest.nodes ≡ graph.latest.nodes =
    nodes-stay same meanings graph facts written step c.requires.ready.stated of_none in
    record {
      stated = subst (λ (nodes : List (NodeFact Op)). AreStated meanings (shapes_of_facts facts) nodes) (sym stay) c.requires.ready.stated;
      sized = subst (λ (nodes : List (NodeFact Op)). AreSizedPairs nodes (g.P.PairStore.sizes c.void_all.new.cache (g.C.ChainMeaning.held c.void_all.new.chain)))
          (sym stay) (c.void_all.ensures.sized graph.latest.nodes c.requires.ready.sized);
    }
