use Rattle.std.proofs.Common.{ℕ, ◌<◌, length, sym, subst}
use Rattle.render_workers.proofs.Shown.{node-inside}
use Rattle.render_workers.proofs.plan.plan_of.Goals as goal

pub plan-requires-clause-known : goal.plan-requires-clause-known
plan-requires-clause-known g c =
    subst (λ (n : ℕ). n < length c.args.nodes.now) (sym c.in-Some.ensures.position) (node-inside c.args.nodes.now c.args.node (sym c.in-Some.ensures.there))
