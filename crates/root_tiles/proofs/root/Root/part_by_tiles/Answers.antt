use Rattle.std.proofs.Common.{◌≡◌, ℕ, ◌∙◌, ◌∷◌, List, Contains, refl, sym, ap, subst}
use Rattle.std.proofs.lemmas.Result.{err_from_is_err_and}
use Rattle.plane_rect.specs.Rectangle.{Inside}
use Rattle.plane_rect.specs.Tile.{Tile, tile_at}
use Rattle.level_tables.specs.LevelTiles.{bytes_in}
use Rattle.chain_owners.specs.Held.{Held}
use Rattle.model_images.specs.Image.{Image}
use Rattle.model_images.specs.Paint.{blank, cut}
use Rattle.model_images.specs.Tiles.{held_image}
use Rattle.root_tiles.specs.Roots.{with_tile}
use Rattle.root_tiles.proofs.ChainReads.{read-both, read-none, refused-later}
use Rattle.root_tiles.proofs.Blitting.{Blitted, blitted-first, blitted-last, blitted-next, part-known}
use Rattle.root_tiles.proofs.root.Root.part_by_tiles.Goals as goal

pub loop-at-init : goal.loop-at-init
loop-at-init g c =
    let given : c.into_iter-at-iterator.result ≡ c.tiles-at-items.result = c.into_iter-at-iterator.ensures.into_iter_gives in
    let root = c.args.self.now in
    let held = bytes_in (g.C.ChainMeaning.held c.args.chain.now) root.tiles.put in
    let meeting : (u v : ℕ) → Inside u v c.args.rect → Contains c.into_iter-at-iterator.result (tile_at u v) =
    λ u v there. subst (λ (ts : List Tile). Contains ts (tile_at u v)) (sym given) ((c.tiles-at-items.ensures.meeting (tile_at u v)).1 (u, v, there, refl)) in
    let is : c.in_ok-patch.patch ≡ blank c.args.rect root.tiles.format =
    c.in_ok-patch.ensures ∙ ap (blank c.args.rect) c.format.ensures in (
      tt,
      tt,
      record {
        shape = record { box = ap (λ (image : Image). image.box) is; format = ap (λ (image : Image). image.format) is };
        read = read-none _;
        blitted = λ exposed. subst (λ (image : Image). Blitted held image c.into_iter-at-iterator.result) (sym is)
            (blitted-first held c.args.rect root.tiles.format c.into_iter-at-iterator.result meeting);
      },
    )

pub loop-at-preserved : goal.loop-at-preserved
loop-at-preserved g c =
    let root = c.args.self.now in
    let before = c.loop-at.invariant.2 in
    let first = g.C.ChainMeaning.held c.args.chain.now in
    let now = g.C.ChainMeaning.held c.loop-at.chain in
    let same : now ≡ first = before.read.held in
    let steps : c.loop-at.at-iterator ≡ c.in-Some.at ∷ c.next.new.self = c.in-Some.ensures.steps in (
      tt,
      tt,
      record {
        shape = record {
          box = c.blit.ensures.shape.box ∙ before.shape.box;
          format = c.blit.ensures.shape.format ∙ before.shape.format;
        };
        read = read-both _ _ _ before.read c.blit.ensures.read;
        blitted = λ exposed.
            let put : c.blit.new.patch ≡ with_tile c.loop-at.patch c.in-Some.at (bytes_in now root.tiles.put c.in-Some.at) =
            c.in_ok-blit.ensures.blitted (rw same exposed) in
            blitted-next (bytes_in first root.tiles.put) c.loop-at.patch c.blit.new.patch c.in-Some.at c.next.new.self c.loop-at.at-iterator steps
            (put ∙ ap (λ (held : Held). with_tile c.loop-at.patch c.in-Some.at (bytes_in held root.tiles.put c.in-Some.at)) same)
            (before.blitted exposed);
      },
    )

pub returns-in_err-blit : goal.returns-in_err-blit
returns-in_err-blit g c =
    let p = err_from_is_err_and c.from_residual-in_err-blit.result c.from_residual-in_err-blit.ensures.1 in
    rw (p.1, p.2) (record {
      shape = tt;
      image = tt;
      cause = refused-later (g.C.ChainMeaning.counts c.args.chain.now) (g.C.ChainMeaning.counts c.loop-at.chain) (g.C.ChainMeaning.counts c.blit.new.chain)
          c.in_err-blit.field-0.0 c.loop-at.invariant.2.read.counts c.in_err-blit.ensures.cause;
      read = read-both _ _ _ c.loop-at.invariant.2.read c.blit.ensures.read;
    })

pub returns : goal.returns
returns g c =
    let root = c.args.self.now in
    let end = c.loop-at.invariant.2 in
    let first = g.C.ChainMeaning.held c.args.chain.now in
    let held = bytes_in first root.tiles.put in
    let patch = c.loop-at.patch in
    record {
      shape = end.shape;
      image = part-known first.content (held_image root.box root.tiles.format held) patch c.args.rect
          (λ exposed.
          blitted-last held root.box root.tiles.format patch c.loop-at.at-iterator c.in-None.ensures.steps.0 end.shape.format
          (rw end.shape.box c.requires.inside) (end.blitted exposed)
          ∙ ap (cut (held_image root.box root.tiles.format held)) end.shape.box);
      cause = tt;
      read = end.read;
    }
