use Rattle.std.proofs.Common.{List, refl, sym, subst}
use Rattle.std.proofs.lemmas.List.{take_all}
use Rattle.root_tiles.specs.Chains.{ChainState, chain_state}
use Rattle.root_tiles.specs.Roots.{IsRootOver, RootTiles}
use Rattle.buffer_view.specs.Shares.{Shares}
use Rattle.buffer_view.proofs.RootLists.{All-at}
use Rattle.buffer_view.proofs.Sharing.{shares-next, shares-none, taken-next}
use Rattle.buffer_view.proofs.shares.own_each.Goals as goal

pub loop-root-init : goal.loop-root-init
loop-root-init g c = shares-none c.args.roots.now _ _ refl c.requires.over c.requires.owned

pub own-requires : goal.own-requires
own-requires g c =
    All-at (λ (r : RootTiles). IsRootOver r (g.C.ChainMeaning.held c.loop-root.chain)) c.loop-root.root-index c.args.roots.now c.root-item.result
    c.loop-root-test.true (sym c.root-item.is) c.loop-root.invariant.over

pub loop-root-preserved : goal.loop-root-preserved
loop-root-preserved g c =
    let s0 : ChainState = chain_state g.C.ChainMeaning c.args.chain.now in
    let s1 : ChainState = chain_state g.C.ChainMeaning c.loop-root.chain in
    let s2 : ChainState = chain_state g.C.ChainMeaning c.own.new.chain in
    let roots = c.args.roots.now in
    subst (λ (rs : List RootTiles). Shares roots rs s0 s2)
    (taken-next roots _ _ c.loop-root.root-index c.root-item.result c.loop-root-test.true c.root-item.is refl refl)
    (shares-next roots _ s0 s1 s2 c.loop-root.invariant c.loop-root.root-index c.root-item.result c.loop-root-test.true (sym c.root-item.is)
    c.own.ensures.others c.own.ensures.lengths c.own.ensures.content c.own.ensures.over c.own.ensures.counts c.own.ensures.loans c.own.ensures.valid)

pub returns : goal.returns
returns g c =
    let s0 : ChainState = chain_state g.C.ChainMeaning c.args.chain.now in
    let s1 : ChainState = chain_state g.C.ChainMeaning c.loop-root.chain in
    subst (λ (rs : List RootTiles). Shares c.args.roots.now rs s0 s1) (take_all c.loop-root.root-index c.args.roots.now c.loop-root-test.false) c.loop-root.invariant
