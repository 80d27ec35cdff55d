use Rattle.std.proofs.Common.{◌≡◌, ℕ, ◌+◌, ◌≤◌, ◌∷◌, inl, inr, List, Contains, length, refl, sym, ap, subst, ◌∙◌, arith}
use Rattle.std.proofs.lemmas.Result.{err_from_is_err_and}
use Rattle.std.specs.Prelude.{IsSome}
use Rattle.level_tables.specs.LevelTiles.{bytes_in}
use Rattle.level_tables.specs.NewTiles.{AreNewTiles}
use Rattle.model_images.specs.TileCounts.{tile_count}
use Rattle.pixel_formats.specs.Row.{Pixel}
use Rattle.pixel_formats.specs.declared.format.Format.{Format}
use Rattle.plane_rect.specs.Tile.{Tile}
use Rattle.plane_rect.proofs.Lists.{Contains-cases, Contains-first, Contains-later}
use Rattle.root_tiles.specs.Chains.{ChainState, chain_state}
use Rattle.root_tiles.specs.Paints.{IsPainted, paint_pixels}
use Rattle.root_tiles.specs.Made.{MakesMore}
use Rattle.root_tiles.proofs.ChainReads.{grows-read, refused-after}
use Rattle.root_tiles.proofs.Making.{keys-more, length-last, more-next, more-none, more-raise, more-read, more-same, none-in, painted-first, whole-met}
use Rattle.root_tiles.proofs.root.Root.make_tiles.Given
use Rattle.root_tiles.proofs.root.Root.make_tiles.Goals.{After-next_tile}
use Rattle.root_tiles.proofs.root.Root.make_tiles.Goals as goal

pub loop-at-init : goal.loop-at-init
loop-at-init g c =
    let root = c.args.self.now in
    let part = c.args.part in
    let rect = c.args.rect in
    let first = c.args.made.now.entries in
    let given : c.into_iter-at-iterator.result ≡ c.tiles-at-items.result = c.into_iter-at-iterator.ensures.into_iter_gives in
    let tiles = c.tiles-at-items.ensures in (
      tt,
      tt,
      record {
        ready = c.requires.ready;
        format = c.requires.format;
        added = 0;
        grown = omega arith;
        makes = more-none root c.args.part rect (paint_pixels root.tiles.format rect c.args.paint.now) _ c.args.made.now.entries c.requires.made c.requires.owned c.requires.over;
        count = omega (arith, ap length (given ∙ tiles.value));
        left = λ tile there.
            let meets = (tiles.meeting tile).0 (subst (λ (ts : List Tile). Contains ts tile) given there) in
            (meets, whole-met root.box c.args.part tile c.requires.over.rectangle (λ u v within. c.requires.inside u v (c.requires.part u v within)) meets);
        all = λ tile meets. inr (subst (λ (ts : List Tile). Contains ts tile) (sym given) ((tiles.meeting tile).1 meets));
      },
    )

pub next_tile-requires-clause-ready : goal.next_tile-requires-clause-ready
next_tile-requires-clause-ready g c = c.loop-at.invariant.2.ready

pub next_tile-requires-clause-whole : goal.next_tile-requires-clause-whole
next_tile-requires-clause-whole g c =
    (c.loop-at.invariant.2.left c.in-Some.at
    (subst (λ (ts : List Tile). Contains ts c.in-Some.at) (sym c.in-Some.ensures.steps) (Contains-first c.in-Some.at c.next.new.self c.in-Some.at refl))).1

pub add-requires-clause-whole : goal.add-requires-clause-whole
add-requires-clause-whole g c =
    (c.loop-at.invariant.2.left c.in-Some.at
    (subst (λ (ts : List Tile). Contains ts c.in-Some.at) (sym c.in-Some.ensures.steps) (Contains-first c.in-Some.at c.next.new.self c.in-Some.at refl))).1

pub returns-clause-all : goal.returns-clause-all
returns-clause-all g c = λ tile meets. elim (c.loop-at.invariant.2.all tile meets) [
  | inl there ↦ there
  | inr left ↦ absurd (none-in tile (subst (λ (ts : List Tile). Contains ts tile) c.in-None.ensures.steps.0 left))
]

-- ---- once the next tile is read

module _ (g : Given.Over) (c : After-next_tile g) where
  abbrev f : ℕ → ℕ → Pixel
  f = paint_pixels c.args.self.now.tiles.format c.args.rect c.args.paint.now

  abbrev s0 : ChainState
  s0 = chain_state g.C.ChainMeaning c.args.chain.now

  abbrev s1 : ChainState
  s1 = chain_state g.C.ChainMeaning c.loop-at.chain

  abbrev s2 : ChainState
  s2 = chain_state g.C.ChainMeaning c.next_tile.new.chain

  mid : MakesMore c.args.self.now c.args.part c.args.rect f c.loop-at.invariant.2.added s0 s2 c.args.made.now.entries c.loop-at.made.entries
  mid =
      more-read c.args.self.now c.args.part c.args.rect f c.loop-at.invariant.2.added s0 s1 s2 c.args.made.now.entries c.loop-at.made.entries
      c.loop-at.invariant.2.makes c.next_tile.ensures.made.read

pub loop-at-preserved : goal.loop-at-preserved
loop-at-preserved g c =
    let step = (goal.at.loop-at-preserved g c).After-next_tile in
    let root = c.args.self.now in
    let part = c.args.part in
    let rect = c.args.rect in
    let first = c.args.made.now.entries in
    let before = c.loop-at.invariant.2 in
    let at = c.in-Some.at in
    let entries = c.loop-at.made.entries in
    let more = c.add.new.self.entries in
    let added = c.in_ok-add.ensures in
    let s3 : ChainState = chain_state g.C.ChainMeaning c.add.new.chain in
    let steps : c.loop-at.at-iterator ≡ at ∷ c.next.new.self = c.in-Some.ensures.steps in
    let here = before.left at (subst (λ (ts : List Tile). Contains ts at) (sym steps) (Contains-first at c.next.new.self at refl)) in
    let painted : IsSome (s0 g step).held.content → IsPainted root.tiles.format (bytes_in (s0 g step).held root.tiles.put) rect (f g step) at c.in_ok-tile.tile =
    λ exposed. painted-first root rect (f g step) (s0 g step).held (s1 g step).held at c.in_ok-tile.tile before.makes.bytes
    (c.in_ok-tile.ensures.made.painted (before.makes.others.exposed ∙ exposed)) in
    let is = added.added.entries in
    let name = added.added.name in
    let one : length more ≡ length entries + 1 = ap length is ∙ length-last entries (at, name) in (
      tt,
      tt,
      record {
        ready = c.in_ok-tile.ensures.ready;
        format = added.format ∙ before.format;
        added = before.added + 1;
        grown = omega (arith, before.grown, one);
        makes = more-next root part rect (f g step) before.added (s0 g step) (s2 g step) s3 first entries more at c.in_ok-tile.tile name is (mid g step) added.others here.0
            (subst (λ (format : Format). AreNewTiles format more s3.held) (added.format ∙ before.format) added.over)
            added.tiles painted added.counts added.loans added.valid;
        count = omega (arith, before.count, ap length steps);
        left = λ tile there. before.left tile (subst (λ (ts : List Tile). Contains ts tile) (sym steps) (Contains-later at c.next.new.self tile there));
        all = λ tile meets. elim (before.all tile meets) [
          | inl there ↦ inl (keys-more entries more at name is tile (inl there))
          | inr left ↦ elim (Contains-cases at c.next.new.self tile (subst (λ (ts : List Tile). Contains ts tile) steps left)) [
            | inl now ↦ inl (keys-more entries more at name is tile (inr now))
            | inr later ↦ inr later
          ]
        ];
      },
    )

pub returns-in_err-tile-clause-made : goal.returns-in_err-tile-clause-made
returns-in_err-tile-clause-made g c =
    let step = (goal.at.returns-in_err-tile-clause-made g c).After-next_tile in
    let part = c.args.part in
    let before = c.loop-at.invariant.2 in
    more-raise c.args.self.now part c.args.rect (f g step) before.added (tile_count part) (s0 g step) (s2 g step) c.args.made.now.entries c.loop-at.made.entries (omega (arith, before.count))
    (mid g step)

pub returns-in_err-tile-clause-cause : goal.returns-in_err-tile-clause-cause
returns-in_err-tile-clause-cause g c =
    let before = c.loop-at.invariant.2 in
    let p = err_from_is_err_and c.from_residual.result c.from_residual.ensures.1 in
    rw (p.1, p.2) (refused-after before.added (tile_count c.args.part) 0 (g.C.ChainMeaning.counts c.loop-at.chain).names (g.C.ChainMeaning.counts c.args.chain.now) (g.C.ChainMeaning.counts c.loop-at.chain)
    (g.C.ChainMeaning.counts c.next_tile.new.chain) c.in_err-tile.field-0.0 (omega (arith, before.count)) (omega arith) before.makes.grows
    (c.in_err-tile.ensures.made.cause))

pub returns-in_err-add-clause-made : goal.returns-in_err-add-clause-made
returns-in_err-add-clause-made g c =
    let step = (goal.at.returns-in_err-add-clause-made g c).After-next_tile in
    let root = c.args.self.now in
    let part = c.args.part in
    let rect = c.args.rect in
    let first = c.args.made.now.entries in
    let before = c.loop-at.invariant.2 in
    let entries = c.loop-at.made.entries in
    let refused = c.in_err-add.ensures in
    let s3 : ChainState = chain_state g.C.ChainMeaning c.add.new.chain in
    let some : before.added + 1 ≤ tile_count part = omega (arith, before.count, ap length c.in-Some.ensures.steps) in
    subst (MakesMore root part rect (f g step) (tile_count part) (s0 g step) s3 first) (sym refused.unchanged)
    (more-raise root part rect (f g step) (before.added + 1) (tile_count part) (s0 g step) s3 first entries some
    (more-same root part rect (f g step) before.added 1 (s0 g step) (s2 g step) s3 first entries (mid g step) refused.held refused.counts refused.loans refused.valid))

pub returns-in_err-add-clause-cause : goal.returns-in_err-add-clause-cause
returns-in_err-add-clause-cause g c =
    let before = c.loop-at.invariant.2 in
    let some : before.added + 1 ≤ tile_count c.args.part = omega (arith, before.count, ap length c.in-Some.ensures.steps) in
    let p = err_from_is_err_and c.from_residual-in_err-add.result c.from_residual-in_err-add.ensures.1 in
    rw (p.1, p.2) (refused-after before.added (tile_count c.args.part) 1 ((g.C.ChainMeaning.counts c.next_tile.new.chain).names + 1) (g.C.ChainMeaning.counts c.args.chain.now) (g.C.ChainMeaning.counts c.next_tile.new.chain)
    (g.C.ChainMeaning.counts c.add.new.chain) c.in_err-add.field-0.0 some (omega arith)
    (grows-read before.added (g.C.ChainMeaning.counts c.args.chain.now) (g.C.ChainMeaning.counts c.loop-at.chain) (g.C.ChainMeaning.counts c.next_tile.new.chain)
    before.makes.grows c.next_tile.ensures.made.read.counts)
    (c.in_err-add.ensures.cause))
