use Rattle.std.proofs.Common.{◌≡◌, ◌∙◌, ◌∷◌, All, Contains, List, ap, subst, sym}
use Rattle.std.specs.Prelude.{IfSome}
use Rattle.std.proofs.lemmas.Result.{err_from_is_err_and}
use Rattle.chain_owners.specs.Held.{Held}
use Rattle.frozen_images.specs.Frozen.{FrozenTiles, no_tiles}
use Rattle.model_images.specs.Raw.{tile_bytes}
use Rattle.plane_rect.specs.Tile.{IsWhole, Tile}
use Rattle.root_tiles.proofs.ChainReads.{read-both, read-none, refused-later}
use Rattle.view_reads.specs.Views.{view_image}
use Rattle.buffer_view.specs.BufferLaws.{All-first, All-rest}
use Rattle.buffer_view.specs.Freezing.{with_held}
use Rattle.buffer_view.proofs.FrozenParts.{view-first, view-last, view-next}
use Rattle.buffer_view.proofs.freezing.frozen_view.Goals as goal

pub loop-at-init : goal.loop-at-init
loop-at-init g c =
    let given : c.into_iter-at-iterator.result ≡ c.tiles-at-items.result = c.into_iter-at-iterator.ensures.into_iter_gives in
    let root = c.args.root.now in
    let is : c.in_ok-frozen.frozen ≡ no_tiles c.args.extent root.tiles.format = c.in_ok-frozen.ensures ∙ ap (no_tiles c.args.extent) c.format.ensures in (
      tt,
      tt,
      record {
        shape = record { box = ap (λ (f : FrozenTiles). f.box) is; format = ap (λ (f : FrozenTiles). f.format) is };
        read = read-none _;
        whole = subst (All IsWhole) (sym given) c.tiles-at-items.ensures.whole;
        but = view-first root c.args.extent (g.C.ChainMeaning.held c.args.chain.now) c.in_ok-frozen.frozen c.into_iter-at-iterator.result
            (λ t meets. subst (λ (ts : List Tile). Contains ts t) (sym given) ((c.tiles-at-items.ensures.meeting t).1 meets));
      },
    )

pub loop-at-preserved : goal.loop-at-preserved
loop-at-preserved g c =
    let root = c.args.root.now in
    let before = c.loop-at.invariant.2 in
    let first = g.C.ChainMeaning.held c.args.chain.now in
    let same : g.C.ChainMeaning.held c.loop-at.chain ≡ first = before.read.held in
    let steps : c.loop-at.at-iterator ≡ c.in-Some.at ∷ c.next.new.self = c.in-Some.ensures.steps in (
      tt,
      tt,
      record {
        shape = c.hold.ensures.shape;
        read = read-both _ _ _ before.read c.hold.ensures.read;
        whole = All-rest IsWhole c.in-Some.at c.next.new.self (subst (All IsWhole) steps before.whole);
        but = view-next root c.args.extent first c.loop-at.frozen c.hold.new.frozen c.in-Some.at c.next.new.self c.loop-at.at-iterator steps
            (subst (λ (h : Held). IfSome (view_image root c.args.extent h) (λ image. c.hold.new.frozen ≡ with_held c.loop-at.frozen c.in-Some.at (tile_bytes image c.in-Some.at)))
            same c.in_ok-hold.ensures.held) before.but;
      },
    )

pub hold-requires-clause-whole : goal.hold-requires-clause-whole
hold-requires-clause-whole g c =
    let steps : c.loop-at.at-iterator ≡ c.in-Some.at ∷ c.next.new.self = c.in-Some.ensures.steps in
    All-first IsWhole c.in-Some.at c.next.new.self (subst (All IsWhole) steps c.loop-at.invariant.2.whole)

pub returns-in_err-hold-clause-cause : goal.returns-in_err-hold-clause-cause
returns-in_err-hold-clause-cause g c =
    let p = err_from_is_err_and c.from_residual-in_err-hold.result c.from_residual-in_err-hold.ensures.1 in
    rw (p.1, p.2) (refused-later (g.C.ChainMeaning.counts c.args.chain.now) (g.C.ChainMeaning.counts c.loop-at.chain) (g.C.ChainMeaning.counts c.hold.new.chain)
    c.in_err-hold.field-0.0 c.loop-at.invariant.2.read.counts c.in_err-hold.ensures.cause)

pub returns-in_err-hold-clause-read : goal.returns-in_err-hold-clause-read
returns-in_err-hold-clause-read g c = read-both _ _ _ c.loop-at.invariant.2.read c.hold.ensures.read

pub returns-clause-image : goal.returns-clause-image
returns-clause-image g c =
    let end = c.loop-at.invariant.2 in
    view-last c.args.root.now c.args.extent (g.C.ChainMeaning.held c.args.chain.now) c.loop-at.frozen c.loop-at.at-iterator c.in-None.ensures.steps.0 end.shape end.but
