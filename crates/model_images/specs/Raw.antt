-- The bytes of images.
use Rattle.std.specs.Prelude.{ℕ, suc, zero, ◌/◌, ◌%◌, List, [], ◌∷◌}
use Rattle.std.specs.List.{flat_map}
use Rattle.plane_rect.specs.Rectangle.{Rectangle}
use Rattle.plane_rect.specs.Tile.{Tile, tile_square}
use Rattle.pixel_formats.specs.Format.{channels, depth}
use Rattle.model_images.specs.Image.{Image, at, sampled}

-- a sample in so many bytes, the least significant first
abbrev pub sample_bytes : ℕ → ℕ → List ℕ
sample_bytes zero v = []
sample_bytes (suc zero) v = v ∷ []
sample_bytes (suc (suc n)) v = (v % 256) ∷ sample_bytes (suc n) (v / 256)

-- the bytes of an image's samples over a rectangle, which are 0 outside its box
unfoldable pub raw : Image → Rectangle → List ℕ
raw image rectangle =
    flat_map (sample_bytes (depth image.format)) (sampled rectangle (channels image.format) (at image))

-- the bytes of the 64 by 64 positions of a tile, which are 0 outside the image's box
abbrev pub tile_bytes : Image → Tile → List ℕ
tile_bytes image tile = raw image (tile_square tile)
