use Rattle.std.proofs.Common.{◌∙◌, arith}
use Rattle.chain_owners.proofs.Growing.{continues-both}
use Rattle.level_tables.proofs.Owning.{disowning-next}
use Rattle.level_tables.proofs.shares.disown_each.Goals as goal

pub loop-name-preserved : goal.loop-name-preserved
loop-name-preserved g c =
    let kept = c.loop-name.invariant.2 in (
      tt,
      tt,
      record {
        disowning = disowning-next c.in-Some.ensures.steps c.disown.ensures.held kept.disowning;
        counts = record {
          continues = continues-both (g.C.ChainMeaning.counts c.args.chain.now) (g.C.ChainMeaning.counts c.loop-name.chain) (g.C.ChainMeaning.counts c.disown.new.self)
              kept.counts.continues c.disown.ensures.counts.continues;
          names = omega (arith, kept.counts.names, c.disown.ensures.counts.names);
        };
        loans = c.disown.ensures.loans ∙ kept.loans;
        valid = λ is. c.disown.ensures.valid (kept.valid is);
      },
    )
