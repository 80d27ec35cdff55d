use Rattle.std.proofs.Common.{◌≡◌, Option, Some, ◌∙◌, ap, sym, subst}
use Rattle.std.specs.Prelude.{IsSome, option_map}
use denote.Bor.{Bor}
use Rattle.model_images.specs.Raw.{tile_bytes}
use Rattle.frozen_images.specs.Frozen.{FrozenTiles, frozen_image}
use Rattle.frozen_images.specs.Scenes.{NamedTiles}
use Rattle.frozen_images.proofs.Naming.{known-named, length-named, named, some-of, tile-named}
use Rattle.frozen_images.proofs.scene_tiles.SceneTilesSourceTiles.tile.Goals as goal

pub unwrap-found-requires : goal.unwrap-found-requires
unwrap-found-requires g c =
    some-of (λ (b : Bor NamedTiles). b.now) c.buffer_of.result
    (subst (λ (o : Option NamedTiles). IsSome o) (sym c.buffer_of.ensures) (known-named c.args.self.now.buffers.now c.args.buffer c.requires.known))

pub returns-clause-bytes : goal.returns-clause-bytes
returns-clause-bytes g c =
    let buffer : NamedTiles = c.unwrap-found.result.now in
    let found : named c.args.self.now.buffers.now c.args.buffer ≡ Some buffer =
    sym c.buffer_of.ensures ∙ ap (option_map (λ (b : Bor NamedTiles). b.now)) c.unwrap-found.ensures in
    tile-named c.args.self.now.buffers.now c.args.buffer buffer found c.fact-fact.ensures.suits c.args.at c.in_ok-tile.field-0
    (c.in_ok-tile.ensures ∙ ap (λ (x : FrozenTiles). tile_bytes (frozen_image x) c.args.at) c.image.ensures)

pub returns-clause-length : goal.returns-clause-length
returns-clause-length g c =
    let buffer : NamedTiles = c.unwrap-found.result.now in
    let found : named c.args.self.now.buffers.now c.args.buffer ≡ Some buffer =
    sym c.buffer_of.ensures ∙ ap (option_map (λ (b : Bor NamedTiles). b.now)) c.unwrap-found.ensures in
    length-named c.args.self.now.buffers.now c.args.buffer buffer found c.fact-fact.ensures.suits c.args.at c.in_ok-tile.field-0
    (c.in_ok-tile.ensures ∙ ap (λ (x : FrozenTiles). tile_bytes (frozen_image x) c.args.at) c.image.ensures)
