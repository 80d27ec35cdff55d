use Rattle.std.proofs.lemmas.Result.{IfOk-at_ok}
use Rattle.crossbeam_deque.specs.Handles.{worker_view, view}
use Rattle.work_batches.specs.Pool.{Answers}
use Rattle.work_batches.proofs.Rules.{merges, joined, has_part}
use Rattle.work_batches.proofs.sharing.absorbed.Goals as goal

pub absorb-requires-clause-rule : goal.absorb-requires-clause-rule
absorb-requires-clause-rule g c = merges _ _ _ _ c.requires.some (has_part _ _ _ _ c.requires.pass.1)

pub returns-in-Ok-clause-answers : goal.returns-in-Ok-clause-answers
returns-in-Ok-clause-answers g c =
    let mine = IfOk-at_ok (λ v. Answers (goal.F-post g c.args._work.now) (worker_view c.args.owner).taken v.items) c.in-Ok-Ok.is-0 c.requires.mine in
    let theirs = IfOk-at_ok (λ v. Answers (goal.F-post g c.args._work.now) (view c.args.pass).taken v.items) c.in-Ok-Ok.is-1 c.requires.theirs in
    joined (goal.F-post g c.args._work.now) (worker_view c.args.owner) (view c.args.pass) (worker_view c.absorb.new.self) _ _ _ c.absorb.ensures.rule c.in-Ok.ensures.items mine theirs
