use Rattle.std.proofs.Common.{◌≡◌, ◌*◌, Contains, List, Option, Some, refl, sym, ap, ◌∙◌, subst}
use Rattle.std.specs.Prelude.{slice_get}
use Rattle.std.proofs.lemmas.Option.{slice_get-get_or}
use Rattle.plane_rect.specs.Rectangle.{meet}
use Rattle.plane_rect.specs.Tile.{Meets, Tile}
use Rattle.plane_rect.proofs.TileLists.{tiles-meeting}
use Rattle.pixel_formats.specs.Format.{pixel_bytes}
use Rattle.model_graphs.specs.Evaluation.{Buffers}
use Rattle.model_graphs.specs.Facts.{AreImagesOf}
use Rattle.model_graphs.specs.Shapes.{Shape}
use Rattle.node_tiles.specs.Inputs.{AreInputTiles}
use Rattle.node_tiles.proofs.Places.{shape-at}
use Rattle.node_tiles.proofs.Whole.{tile-long}
use Rattle.strip_patches.specs.Nodes.{image_at}
use Rattle.strip_patches.proofs.Banded.{all-in-plane}
use Rattle.strip_patches.proofs.Served.{box-shown, part-there, tile-shown}
use Rattle.strip_patches.proofs.patching.part_tiles.Given
use Rattle.strip_patches.proofs.patching.part_tiles.Goals.{After-meet-part}
use Rattle.strip_patches.proofs.patching.part_tiles.Goals as goal

module _ (g : Given.Over) (c : After-meet-part g) where
  found : slice_get c.args.nodes.now c.args.node ≡ Some c.index-nodes-node.result
  found = slice_get-get_or c.args.nodes.now c.args.node c.index-nodes-node.result c.requires.node ∙ ap Some (sym c.index-nodes-node.is)

pub input_tiles-requires-clause-there : goal.input_tiles-requires-clause-there
input_tiles-requires-clause-there g c =
    let nodes = c.args.nodes.now in
    let fact = c.index-nodes-node.result in
    let facts = g.S.SourceTiles.facts c.args.sources.now in
    record {
      each = λ tile met.
          part-there g.Op.OpMeaning.meanings facts nodes c.requires.stated c.args.node fact
          (found g (goal.at.input_tiles-requires-clause-there g c).After-meet-part) c.args.held.now c.args.rect tile c.requires.there
          (subst (Meets tile) c.meet-part.ensures.value met);
    }

pub returns-clause-in_plane : goal.returns-clause-in_plane
returns-clause-in_plane g c =
    all-in-plane c.meet-part.result c.in_ok-tiles.tiles c.area-area.ensures.rectangle c.in_ok-tiles.ensures.positions

pub returns-clause-lengths : goal.returns-clause-lengths
returns-clause-lengths g c = λ k d below.
    let nodes = c.args.nodes.now in
    let fact = c.index-nodes-node.result in
    let facts = g.S.SourceTiles.facts c.args.sources.now in
    let images = g.S.SourceTiles.images c.args.sources.now (g.H.ChainMeaning.held c.args.chain.now) in
    let is_fact = found g (goal.at.returns-clause-lengths g c).After-meet-part in
    tile-long g.Op.OpMeaning.meanings facts nodes c.requires.stated c.args.held.now c.requires.lengths images c.args.node fact _ _ is_fact fact.spec.body refl
    (c.in_ok-tiles.ensures.each k d below)
    ∙ ap (λ (shape : Shape). 4096 * pixel_bytes shape.format) (sym (shape-at nodes c.args.node fact is_fact))

pub returns-clause-image : goal.returns-clause-image
returns-clause-image g c = λ images known are.
    let nodes = c.args.nodes.now in
    let fact = c.index-nodes-node.result in
    let meanings = g.Op.OpMeaning.meanings in
    let facts = g.S.SourceTiles.facts c.args.sources.now in
    let is_fact = found g (goal.at.returns-clause-image g c).After-meet-part in
    let image = image_at meanings nodes images c.args.node in
    let shown : AreImagesOf facts images = rw known at (g.met.S.SourceTiles.exposed c.args.sources.now (g.H.ChainMeaning.held c.args.chain.now) c.requires.over).shapes in
    let each = subst (λ (o : Option Buffers). AreInputTiles facts o c.args.held.now fact.spec.body c.args.node c.in_ok-tiles.tiles) known c.in_ok-tiles.ensures.each in
    let part : c.meet-part.result ≡ meet c.args.rect image.box =
    c.meet-part.ensures.value ∙ ap (meet c.args.rect) (box-shown meanings facts nodes c.requires.stated c.args.node fact is_fact images shown) in
    record {
      tiles = λ k d below. tile-shown meanings facts nodes c.requires.stated c.args.node fact is_fact images shown c.args.held.now are _ _ (each k d below);
      all = λ tile met.
          subst (λ (ts : List Tile). Contains ts tile) (sym c.in_ok-tiles.ensures.positions)
          ((tiles-meeting c.meet-part.result c.area-area.ensures.rectangle tile).1 (subst (Meets tile) (sym part) met));
    }
