-- Which of the positions that are averaged for a tile are a view's.
use Rattle.std.specs.Prelude.{◌≡◌, ◌≢◌, ℕ}
use Rattle.model_images.specs.Level.{tile_at_level}
use Rattle.plane_rect.specs.Rectangle.{Inside, Rectangle}
use Rattle.plane_rect.specs.Tile.{Tile, plane, tile_at}
use Rattle.view_reads.specs.declared.levels.Reach.{Reach}
use Rattle.view_reads.specs.declared.levels.Reach.TheVariants.{Contained, Edge, Outside}

-- what is said of a root's box, a view's extent and a tile of a level
abbrev pub IsReach : Rectangle → Rectangle → ℕ → Tile → Reach → Type 0
IsReach box extent z tile Outside = (u v : ℕ) → Inside u v plane → Inside u v extent → tile_at_level (tile_at u v) z ≢ tile
IsReach box extent z tile Contained = (u v : ℕ) → Inside u v plane → tile_at_level (tile_at u v) z ≡ tile → Inside u v box → Inside u v extent
IsReach box extent z tile Edge = Unit {0}
