use Rattle.std.proofs.Common.{◌≡◌, List, ℕ, Some, None, ◌∙◌, ap, sym}
use Rattle.std.specs.Option.{option_copied}
use Rattle.model_images.specs.Raw.{tile_bytes}
use Rattle.frozen_images.specs.Frozen.{FrozenTiles, bytes_in, frozen_image}
use Rattle.frozen_images.proofs.Holding.{on-ok, tile-nowhere, tile-there}
use Rattle.frozen_images.proofs.frozen.Frozen.tile.Goals as goal

pub returns-in-Some : goal.returns-in-Some
returns-in-Some c =
    let held : FrozenTiles = record { box = c.self.inside.bounds; format = c.self.inside.format; tiles = c.self.inside.tiles.entries } in
    let found : bytes_in held c.args.at ≡ Some c.in-Some.tile.now = sym c.get.ensures.value ∙ ap option_copied c.in-Some.is in
    on-ok c.share.result (λ (tile : List ℕ). tile ≡ c.in-Some.tile.now) (λ (tile : List ℕ). tile ≡ tile_bytes (frozen_image c.args.self.now) c.args.at) c.share.ensures
    (λ tile is.
    is ∙ tile-there held c.args.at c.in-Some.tile.now c.self.invariant.0 found
    ∙ ap (λ (x : FrozenTiles). tile_bytes (frozen_image x) c.args.at) c.self.view_is)

pub returns-in-None : goal.returns-in-None
returns-in-None c =
    let held : FrozenTiles = record { box = c.self.inside.bounds; format = c.self.inside.format; tiles = c.self.inside.tiles.entries } in
    let found : bytes_in held c.args.at ≡ None = sym c.get.ensures.value ∙ ap option_copied c.in-None.is in
    on-ok c.share-in-None.result (λ (tile : List ℕ). tile ≡ c.self.inside.zero) (λ (tile : List ℕ). tile ≡ tile_bytes (frozen_image c.args.self.now) c.args.at) c.share-in-None.ensures
    (λ tile is.
    is ∙ c.self.invariant.1 ∙ tile-nowhere held c.args.at found
    ∙ ap (λ (x : FrozenTiles). tile_bytes (frozen_image x) c.args.at) c.self.view_is)
