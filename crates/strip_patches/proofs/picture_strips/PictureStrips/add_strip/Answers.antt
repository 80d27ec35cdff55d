use Rattle.std.proofs.Common.{◌≡◌, ℕ, ◌+◌, Some, refl, sym, ap, ◌∙◌, subst}
use Rattle.std.specs.Prelude.{slice_get}
use Rattle.std.proofs.lemmas.Option.{slice_get-get_or}
use Rattle.plane_rect.specs.Rectangle.{meet}
use Rattle.model_graphs.specs.Evaluation.{Buffers}
use Rattle.model_graphs.specs.Facts.{AreImagesOf}
use Rattle.model_images.specs.Image.{Image}
use Rattle.plane_rect.specs.Tile.{strip_rectangles}
use Rattle.strip_patches.specs.LevelStrips.{HasStrips}
use Rattle.strip_patches.specs.Nodes.{image_at}
use Rattle.strip_patches.specs.Pictures.{AreTilesOver, HasRows}
use Rattle.strip_patches.specs.Shown.{HasStripsOf, source_in}
use Rattle.strip_patches.specs.declared.picture_strips.PictureStrips.{PictureStrips}
use Rattle.strip_patches.proofs.Served.{box-shown}
use Rattle.strip_patches.proofs.Tiled.{row-added}
use Rattle.strip_patches.proofs.picture_strips.PictureStrips.add_strip.Given
use Rattle.strip_patches.proofs.picture_strips.PictureStrips.add_strip.Goals.{After-index-nodes-node}
use Rattle.strip_patches.proofs.picture_strips.PictureStrips.add_strip.Goals as goal

module _ (g : Given.Over) (c : After-index-nodes-node g) where
  abbrev shown : Buffers → Image
  shown images = image_at g.Op.OpMeaning.meanings c.args.nodes.now images c.args.node

  box : (images : Buffers) → g.S.SourceTiles.images c.args.sources.now (g.H.ChainMeaning.held c.args.chain.now) ≡ Some images →
      (shown images).box ≡ c.index-nodes-node.result.bounds
  box images known =
      let nodes = c.args.nodes.now in
      let fact = c.index-nodes-node.result in
      let facts = g.S.SourceTiles.facts c.args.sources.now in
      let found : slice_get nodes c.args.node ≡ Some fact = slice_get-get_or nodes c.args.node fact c.requires.node ∙ ap Some (sym c.index-nodes-node.is) in
      let are : AreImagesOf facts images = rw known at (g.met.S.SourceTiles.exposed c.args.sources.now (g.H.ChainMeaning.held c.args.chain.now) c.requires.over).shapes in
      sym (box-shown g.Op.OpMeaning.meanings facts nodes c.requires.stated c.args.node fact found images are)

pub returns-in_ok-add_tiles-in-Patch-clause-added : goal.returns-in_ok-add_tiles-in-Patch-clause-added
returns-in_ok-add_tiles-in-Patch-clause-added g c = λ images known are.
    let at = (goal.at.returns-in_ok-add_tiles-in-Patch-clause-added g c).After-index-nodes-node in
    let image = shown g at images in
    let over : AreTilesOver image (meet c.args.rect image.box) c.as_slice.result.now =
    subst (AreTilesOver image (meet c.args.rect image.box)) (sym c.as_slice.ensures) (c.in_ok-tiles.ensures.image images known are) in
    subst
    (λ (strips : PictureStrips). (k : ℕ) → HasStripsOf image k strips → slice_get (strip_rectangles (source_in strips)) k ≡ Some c.args.rect
    → HasStrips image (k + 1) c.add_tiles.new.self)
    (sym c.in-Patch.is)
    (c.in_ok-add_tiles-in-Patch.ensures.added image (box g at images known) over)

pub returns-in_ok-add_tiles-in-Tiles-clause-added : goal.returns-in_ok-add_tiles-in-Tiles-clause-added
returns-in_ok-add_tiles-in-Tiles-clause-added g c = λ images known are.
    let at = (goal.at.returns-in_ok-add_tiles-in-Tiles-clause-added g c).After-index-nodes-node in
    let image = shown g at images in
    subst
    (λ (strips : PictureStrips). (k : ℕ) → HasStripsOf image k strips → slice_get (strip_rectangles (source_in strips)) k ≡ Some c.args.rect
    → HasRows image (k + 1) c.add_tiles-in-Tiles.new.self)
    (sym c.in-Tiles.is)
    (λ k has found.
    row-added image k c.args.rect image.box c.in-Tiles.tiled c.add_tiles-in-Tiles.new.self c.in_ok-tiles.tiles
    c.add_tiles-in-Tiles.ensures.rect c.add_tiles-in-Tiles.ensures.format c.in_ok-add_tiles-in-Tiles.ensures.added has found refl
    (c.in_ok-tiles.ensures.image images known are))
