-- Pixels that are made of two.
use Rattle.std.specs.Prelude.{◌≡◌, IsTrue}
use Rattle.pixel_formats.specs.Add.{added_pixel}
use Rattle.pixel_formats.specs.Format.{channels, depth, has_alpha}
use Rattle.pixel_formats.specs.Mask.{masked_pixel}
use Rattle.pixel_formats.specs.Over.{over_pixel}
use Rattle.pixel_formats.specs.Row.{Pixel}
use Rattle.pixel_formats.specs.declared.format.Format.{Format}
use Rattle.point_ops.specs.declared.combine.Combination.{Combination}
use Rattle.point_ops.specs.declared.combine.Combination.TheVariants.{Add, Over, Mask}

-- the formats suit a combination
abbrev pub Suit : Combination → Format → Format → Type 0
Suit Add first second = second ≡ first
Suit Over first second = (second ≡ first) × IsTrue (has_alpha first)
Suit Mask first second = (channels second ≡ 1) × (depth second ≡ depth first)

-- the pixel that a combination makes of two, in the first one's format
abbrev pub combined_pixel : Combination → Format → Pixel → Pixel → Pixel
combined_pixel Add format a b = added_pixel format a b
combined_pixel Over format a b = over_pixel format a b
combined_pixel Mask format a b = masked_pixel format a (b 0)
