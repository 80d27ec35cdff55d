-- What is read of roots, by calls that leave all that their chain holds as it is.
use Rattle.std.specs.Prelude.{◌≡◌, IfErr, IfOk, IsSome, List, ℕ, Result, length}
use Rattle.level_tables.specs.LevelTiles.{bytes_in}
use Rattle.level_tables.specs.Over.{tile_length}
use Rattle.model_images.specs.Image.{Image}
use Rattle.plane_rect.specs.Rectangle.{Rectangle}
use Rattle.plane_rect.specs.Tile.{Tile}
use Rattle.chain_owners.specs.Cause.{HasSwapCause}
use Rattle.chain_owners.specs.declared.swap_refused.SwapRefused.{SwapRefused}
use Rattle.root_tiles.specs.Chains.{ChainState, IsRead}
use Rattle.root_tiles.specs.Paints.{IsPainted, paint_pixels}
use Rattle.root_tiles.specs.Roots.{HasShape, IsPartOf, RootTiles, part_shape, root_image}
use Rattle.root_tiles.specs.declared.paint.Paint.{Paint}

-- a part of a root's image is read, or the swap refuses it
pub record ReadsPart (root : RootTiles) (part : Rectangle) (result : Result Image SwapRefused) (old new : ChainState) : Type 0 where
  pub shape : IfOk result (HasShape (part_shape root part))
  pub image : IfOk result (IsPartOf (root_image root old.held) part)
  pub cause : IfErr result (HasSwapCause old.counts new.counts old.counts.names)
  pub read : IsRead old new

-- A tile of a root is made, as it is once something is written over a rectangle: what it was is read, or the swap refuses
-- that.
pub record MakesTile (root : RootTiles) (r : Rectangle) (paint : Paint) (at : Tile) (result : Result (List ℕ) SwapRefused) (old new : ChainState) : Type 0 where
  pub length : IfOk result (λ tile. length tile ≡ tile_length root.tiles.format)
  pub painted : IfOk result (λ tile. IsSome old.held.content →
      IsPainted root.tiles.format (bytes_in old.held root.tiles.put) r (paint_pixels root.tiles.format r paint) at tile)
  pub cause : IfErr result (HasSwapCause old.counts new.counts old.counts.names)
  pub read : IsRead old new
