-- Images of views of roots, and what is read of their levels.
use Rattle.std.specs.Prelude.{◌≡◌, ◌≤◌, ℕ, IfErr, IfOk, IfSome, List, Option, Result, length}
use Rattle.std.specs.Option.{option_map}
use Rattle.chain_owners.specs.Held.{Held}
use Rattle.level_tables.specs.Over.{tile_length}
use Rattle.model_images.specs.Abyss.{abyss_at}
use Rattle.model_images.specs.Image.{Image, image_from_fn}
use Rattle.model_images.specs.Level.{level}
use Rattle.model_images.specs.Paint.{cut}
use Rattle.model_images.specs.Raw.{tile_bytes}
use Rattle.pixel_formats.specs.declared.abyss.Abyss.{Abyss}
use Rattle.plane_rect.specs.Rectangle.{Includes, IsRectangle, Rectangle}
use Rattle.plane_rect.specs.Tile.{Tile}
use Rattle.root_tiles.specs.Chains.{ChainState, IsRead}
use Rattle.root_tiles.specs.Growth.{HoldsMoreTiles, names_with_root_levels, root_state}
use Rattle.root_tiles.specs.Roots.{IsRootOver, RootTiles, root_image}
use Rattle.chain_owners.specs.Cause.{HasSwapCause}
use Rattle.chain_owners.specs.declared.swap_refused.SwapRefused.{SwapRefused}

-- The image of a view: that of its root over the view's extent, where the chain exposes its bytes.
abbrev pub view_image : RootTiles → Rectangle → Held → Option Image
view_image root extent held = option_map (λ image. cut image extent) (root_image root held)

-- an image is a part of a level of another, where that is known
abbrev pub IsPartOfLevel : Option Image → ℕ → Rectangle → Image → Type 0
IsPartOfLevel image z part patch = IfSome image (λ known. patch ≡ cut (level known z) part)

-- an image is what a policy gives over a rectangle of a level of another, where that is known
abbrev pub IsReadOfLevel : Option Image → ℕ → Abyss → Rectangle → Image → Type 0
IsReadOfLevel image z policy r patch = IfSome image (λ known. patch ≡ image_from_fn r known.format (abyss_at (level known z) policy))

-- What a view asks of its root and of the chain: what the root asks, and that the extent is a rectangle in the root's box.
pub record IsViewOver (root : RootTiles) (extent : Rectangle) (held : Held) : Type 0 where
  pub over : IsRootOver root held
  pub inside : Includes root.box extent
  pub rectangle : IsRectangle extent

-- a tile of a view's image is read, or the swap refuses it; what the chain holds is unchanged
pub record ReadsViewTile (root : RootTiles) (extent : Rectangle) (at : Tile) (result : Result (List ℕ) SwapRefused) (old new : ChainState) : Type 0 where
  pub bytes : IfOk result (λ tile. IfSome (view_image root extent old.held) (λ image. tile ≡ tile_bytes image at))
  pub length : IfOk result (λ tile. length tile ≡ tile_length root.tiles.format)
  pub cause : IfErr result (HasSwapCause old.counts new.counts old.counts.names)
  pub read : IsRead old new

-- Something of the levels of a view up to z is read, or the swap refuses it. Tiles of the levels 1 to z of the root may be
-- held then that weren't.
pub record ReadsLevels {X : Type 0} (z : ℕ) (result : Result X SwapRefused) (root later : RootTiles) (old new : ChainState) : Type 0 where
  pub more : HoldsMoreTiles z (root_state root old.held old.counts) (root_state later new.held new.counts)
  pub causes : (top : ℕ) → z ≤ top → IfErr result (HasSwapCause old.counts new.counts (names_with_root_levels top (root_state root old.held old.counts)))
  pub loans : new.loans ≡ old.loans
  pub valid : old.valid → new.valid
