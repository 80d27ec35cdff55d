use Rattle.std.proofs.Common.{◌≡◌, ◌∙◌, ◌<◌, ap, sym, subst, Ok}
use Rattle.model_graphs.specs.Facts.{rectangles_of}
use Rattle.model_graphs.specs.Laws.{KeepsLaws}
use Rattle.model_states.specs.Commits.{Graph, change_to}
use Rattle.model_states.specs.Damage.{Side, damage_list}
use Rattle.model_states.specs.Retained.{last_number, with_commit}
use Rattle.graph_commits.specs.Graphs.{IsGraph}
use Rattle.graph_commits.specs.States.{edited_side}
use Rattle.graph_commits.proofs.GraphLaws.{IsCommit, commit_made}
use Rattle.graph_commits.proofs.graph.Graph.commit.Given
use Rattle.graph_commits.proofs.graph.Graph.commit.Goals as goal

keeps : (g : Given.Over) → KeepsLaws g.Op.OpMeaning.meanings
keeps g = record { local = g.Op.OpMeaning.local; dual = g.Op.OpMeaning.dual }

graph : (g : Given.Over) (c : goal.In_ok-commit g) → IsGraph g.Op.OpMeaning.same g.Op.OpMeaning.meanings c.args.self.now
graph g c = subst (IsGraph g.Op.OpMeaning.same g.Op.OpMeaning.meanings) c.self.view_is c.self.invariant

less : (g : Given.Over) (c : goal.In_ok-commit g) → c.args.self.now.number < last_number
less g c = subst (λ (graph : Graph g.row.Op.Denot). graph.number < last_number) c.self.view_is c.in_ok-number.ensures.room

-- the state before the commit
before : (g : Given.Over) (c : goal.In_ok-commit g) → c.latest-old.result.now ≡ c.args.self.now.latest
before g c = c.latest-old.ensures ∙ ap (λ (graph : Graph g.row.Op.Denot). graph.latest) c.self.view_is

made : (g : Given.Over) (c : goal.In_ok-commit g) → edited_side g.Op.OpMeaning.meanings c.args.self.now.latest c.args.edits.now c.args.buffers.now ≡ Ok c.in_ok-new.new
made g c =
    ap (λ side. edited_side g.Op.OpMeaning.meanings side c.args.edits.now c.args.buffers.now) (sym (before g c)) ∙ c.in_ok-new.ensures.ok

list : (g : Given.Over) (c : goal.In_ok-commit g) →
    c.in_ok-rects.rects ≡ damage_list g.Op.OpMeaning.same g.Op.OpMeaning.meanings (change_to c.args.self.now c.in_ok-new.new (rectangles_of c.args.edited.now))
list g c =
    c.in_ok-rects.ensures
    ∙ ap (damage_list g.Op.OpMeaning.same g.Op.OpMeaning.meanings) (c.between.ensures
    ∙ ap (λ (side : Side g.row.Op.Denot). record { old = side; new = c.in_ok-new.new; rectangles = rectangles_of c.args.edited.now }) (before g c))

left : (g : Given.Over) (c : goal.In_ok-commit g) → c.commit.new.self ≡ with_commit c.args.self.now c.in_ok-new.new c.in_ok-retained.retained
left g c =
    c.in_ok-commit.ensures.committed
    ∙ ap (λ (graph : Graph g.row.Op.Denot). with_commit graph c.in_ok-new.new c.in_ok-retained.retained) c.self.view_is

done : (g : Given.Over) (c : goal.In_ok-commit g) →
    IsCommit g.Op.OpMeaning.same g.Op.OpMeaning.meanings c.args.self.now c.commit.new.self c.args.edits.now c.args.buffers.now (rectangles_of c.args.edited.now) c.in_ok-rects.rects
done g c =
    commit_made g.Op.OpMeaning.same g.Op.OpMeaning.meanings g.Op.OpMeaning.distinguished (keeps g) c.args.self.now c.commit.new.self c.in_ok-new.new
    c.args.edits.now c.args.buffers.now (rectangles_of c.args.edited.now) c.in_ok-rects.rects c.in_ok-retained.retained
    (graph g c) (less g c) (made g c) c.in_ok-new.ensures.state c.requires.still (list g c) c.in_ok-retained.ensures.cases (left g c)

pub invariant_of-self-2 : goal.invariant_of-self-2
invariant_of-self-2 g c = (done g c).valid

pub returns-clause-committed : goal.returns-clause-committed
returns-clause-committed g c = (done g c).answer

pub returns-clause-damages : goal.returns-clause-damages
returns-clause-damages g c = (done g c).damages

pub returns-clause-buffers : goal.returns-clause-buffers
returns-clause-buffers g c = (done g c).buffers
