use Rattle.std.proofs.Common.{refl}
use Rattle.strip_renders.proofs.Moments.{keeps-others}
use Rattle.test_renders.proofs.ReadyLaws.{over-on}
use Rattle.test_renders.proofs.renders.show.Goals as goal

pub returns-in_err-shown-clause-over : goal.returns-in_err-shown-clause-over
returns-in_err-shown-clause-over g c =
    over-on _ _ (g.S.SourceTiles.names c.args.sources.now) _ (g.P.PairStore.names c.args.cache.now) _ c.render.ensures.sources_over
    c.render.ensures.cache_over (keeps-others _ _ _ c.render.ensures.keeps) c.requires.over.owned

pub returns-clause-over : goal.returns-clause-over
returns-clause-over g c =
    over-on _ _ (g.S.SourceTiles.names c.args.sources.now) _ (g.P.PairStore.names c.args.cache.now) _ c.render.ensures.sources_over
    c.render.ensures.cache_over (keeps-others _ _ _ c.render.ensures.keeps) c.requires.over.owned

pub returns-clause-patch : goal.returns-clause-patch
returns-clause-patch g c = c.in_ok-shown.ensures.patch refl
