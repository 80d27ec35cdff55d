-- What is left after something is written over a rectangle of a root.
use Rattle.std.specs.Prelude.{◌≡◌, ℕ, ◌+◌, IfErr, OnErr, OnOk, Result}
use Rattle.std.specs.Option.{option_map}
use Rattle.model_images.specs.Paint.{painted}
use Rattle.model_images.specs.TileCounts.{tile_count}
use Rattle.pixel_formats.specs.Row.{Pixel}
use Rattle.plane_rect.specs.Rectangle.{Rectangle}
use Rattle.chain_owners.specs.Cause.{HasSwapCause}
use Rattle.chain_owners.specs.declared.swap_refused.SwapRefused.{SwapRefused}
use Rattle.root_tiles.specs.Chains.{ChainState, Leaves}
use Rattle.root_tiles.specs.Roots.{IsRootOver, RootTiles, root_image, root_names, root_shape}

-- f's samples were written over a rectangle of a root, all or nothing: its image has them there, or the root and its image
-- are as before. What others hold of the chain is unchanged.
pub record IsWritten {X : Type 0} (r : Rectangle) (f : ℕ → ℕ → Pixel) (result : Result X SwapRefused) (old new : RootTiles) (before after : ChainState) : Type 0 where
  pub image : OnOk result (root_image new after.held ≡ option_map (λ image. painted image r f) (root_image old before.held))
  pub shape : root_shape new ≡ root_shape old
  pub unchanged : OnErr result (new ≡ old)
  pub same : OnErr result (root_image new after.held ≡ root_image old before.held)
  pub over : IsRootOver new after.held
  pub cause : IfErr result (HasSwapCause before.counts after.counts (before.counts.names + tile_count r))
  pub left : Leaves (tile_count r) (root_names old) (root_names new) before after
