-- Small images, on which the definitions are worked out by hand.
use Rattle.std.specs.Prelude.{◌≡◌, ℕ, ℤ, pos, negsuc, List, [], ◌∷◌}
use Rattle.plane_rect.specs.Rectangle.{Rectangle, empty, placed}
use Rattle.plane_rect.specs.Tile.{Tile, tile_by}
use Rattle.pixel_formats.specs.declared.format.Format.{Format}
use Rattle.pixel_formats.specs.declared.format.Format.TheVariants.{Y8, YA8, YA16}
use Rattle.pixel_formats.specs.declared.abyss.Abyss.TheVariants.{None, Clamp, Loop, Black, White}
use Rattle.model_images.specs.Abyss.{raw_with}
use Rattle.model_images.specs.Image.{Image}

-- so many positions from an x on, in the row of y = 0
abbrev pub positions_from : ℤ → ℕ → Rectangle
positions_from x width = placed x (pos 0) width 1

-- the first two positions of that row
abbrev pub two_positions : Rectangle
two_positions = positions_from (pos 0) 2

-- two positions at the plane's left edge, where x = -2^24
abbrev pub left_edge : Rectangle
left_edge = positions_from (negsuc 16777215) 2

-- four positions, from x = -1 on
abbrev pub four_positions : Rectangle
four_positions = positions_from (negsuc 0) 4

-- the positions of -1 and 0 in x and in y
abbrev pub upper_left : Rectangle
upper_left = placed (negsuc 0) (negsuc 0) 2 2

-- the image of these samples over so many positions from an x on
abbrev pub row_image : Format → ℤ → ℕ → List ℕ → Image
row_image format x width samples =
    record { box = positions_from x width; format = format; samples = samples }

-- 10 and 20 from x = 0 on
abbrev pub ten_twenty : Image
ten_twenty = row_image Y8 (pos 0) 2 (10 ∷ 20 ∷ [])

-- 10, 20 and 31 from an x on
abbrev pub three_from : ℤ → Image
three_from x = row_image Y8 x 3 (10 ∷ 20 ∷ 31 ∷ [])

-- one position at the origin, with these samples
abbrev pub unit_rectangle : Format → List ℕ → Image
unit_rectangle format samples = row_image format (pos 0) 1 samples

-- 10 with an alpha of 200
abbrev pub faint_ten : Image
faint_ten = unit_rectangle YA8 (10 ∷ 200 ∷ [])

-- the same of 16 bits, 258 with an alpha of 772
abbrev pub faint_of_16_bits : Image
faint_of_16_bits = unit_rectangle YA16 (258 ∷ 772 ∷ [])

-- from the origin on, 1 and 2 above 3 and 4
abbrev pub one_to_four : Image
one_to_four =
    record { box = placed (pos 0) (pos 0) 2 2; format = Y8; samples = 1 ∷ 2 ∷ 3 ∷ 4 ∷ [] }

-- no position
abbrev pub no_position : Image
no_position = record { box = empty; format = Y8; samples = [] }

-- the tile left of the origin's, and the one right of and below it
abbrev pub two_tiles : List Tile
two_tiles = tile_by (negsuc 0) (pos 0) ∷ tile_by (pos 1) (pos 1) ∷ []

-- What an image without alpha reads as over a rectangle, under each policy: filled with a sample where it has no
-- position, which is 0 for None and Black and 255 for White, clamped, and looped.
pub record ReadAs (image : Image) (rectangle : Rectangle) (filled : ℕ → List ℕ) (clamped looped : List ℕ) : Type 0 where
  pub none : raw_with image None rectangle ≡ filled 0
  pub clamp : raw_with image Clamp rectangle ≡ clamped
  pub wrap : raw_with image Loop rectangle ≡ looped
  pub black : raw_with image Black rectangle ≡ filled 0
  pub white : raw_with image White rectangle ≡ filled 255
