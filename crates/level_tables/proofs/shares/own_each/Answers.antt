use Rattle.std.proofs.Common.{rules, ◌∙◌}
use Rattle.std.specs.Map.{values_of}
use Rattle.level_tables.proofs.Owning.{owning-end, owning-next}
use Rattle.level_tables.proofs.shares.own_each.Goals as goal

pub loop-name-preserved : goal.loop-name-preserved
loop-name-preserved g c =
    let kept = c.loop-name.invariant.2 in (
      tt,
      tt,
      record {
        owning = owning-next c.in-Some.ensures.steps c.own.ensures.held kept.owning;
        counts = c.own.ensures.counts ∙ kept.counts;
        loans = c.own.ensures.loans ∙ kept.loans;
        valid = λ is. c.own.ensures.valid (kept.valid is);
      },
    )

pub returns-clause-others : goal.returns-clause-others
returns-clause-others g c =
    owning-end (values_of c.args.entries.now.entries) c.loop-name.name-iterator
    (g.C.ChainMeaning.held c.args.chain.now) (g.C.ChainMeaning.held c.loop-name.chain) (search rules) c.loop-name.invariant.2.owning
