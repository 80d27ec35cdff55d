use Rattle.std.proofs.Common.{◌≡◌, ◌∙◌, ◌+◌, ◌<◌, ap, sym, subst, Ok, Some}
use Rattle.std.specs.Prelude.{IsOkAnd}
use Rattle.model_graphs.specs.Laws.{KeepsLaws}
use Rattle.model_states.specs.Commits.{Graph}
use Rattle.model_states.specs.Retained.{last_number}
use Rattle.model_states.specs.Directions.{ahead, step_to}
use Rattle.graph_commits.specs.Graphs.{IsGraph}
use Rattle.graph_commits.specs.Histories.{first_delta}
use Rattle.graph_commits.proofs.GraphLaws.{answered, step_is}
use Rattle.graph_commits.proofs.graph.Graph.step.Given
use Rattle.graph_commits.proofs.graph.Graph.step.Goals as goal

keeps : (g : Given.Over) → KeepsLaws g.Op.OpMeaning.meanings
keeps g = record { local = g.Op.OpMeaning.local; dual = g.Op.OpMeaning.dual }

graph : (g : Given.Over) (c : goal.In_ok-step g) → IsGraph g.Op.OpMeaning.same g.Op.OpMeaning.meanings c.args.self.now
graph g c = subst (IsGraph g.Op.OpMeaning.same g.Op.OpMeaning.meanings) c.self.view_is c.self.invariant

step : (g : Given.Over) (c : goal.In_ok-step g) →
    step_to c.args.direction c.args.self.now (ahead c.args.direction c.args.self.now) ≡ Ok (record { next = c.step.new.self; delta = c.in_ok-rects.rects })
step g c =
    let first : first_delta (ahead c.args.direction c.args.self.now) ≡ Some c.in_ok-rects.rects =
    ap (λ graph. first_delta (ahead c.args.direction graph)) (sym c.self.view_is) ∙ sym c.in-Some.ensures ∙ ap (λ delta. Some delta) (sym c.in_ok-rects.ensures.cases) in
    let leads = subst (λ (graph : Graph g.row.Op.Denot). IsOkAnd (step_to c.args.direction graph (ahead c.args.direction graph)) (λ step. step.next ≡ c.step.new.self)) c.self.view_is c.in_ok-step.ensures.stepped in
    step_is c.args.direction c.args.self.now (ahead c.args.direction c.args.self.now) c.step.new.self c.in_ok-rects.rects first leads

pub returns-clause-stepped : goal.returns-clause-stepped
returns-clause-stepped g c =
    answered g.Op.OpMeaning.same g.Op.OpMeaning.meanings g.Op.OpMeaning.distinguished (keeps g) c.args.self.now (graph g c) c.args.direction c.step.new.self
    c.in_ok-number.number c.in_ok-rects.rects (subst (λ (graph : Graph g.row.Op.Denot). graph.number < last_number) c.self.view_is c.in_ok-number.ensures.room)
    (subst (λ (graph : Graph g.row.Op.Denot). c.in_ok-number.number ≡ graph.number + 1) c.self.view_is c.in_ok-number.ensures.next) (step g c)
