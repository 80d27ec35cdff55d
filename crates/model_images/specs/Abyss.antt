-- What is read outside an image's box, under each policy, and the bytes that are read so.
use Rattle.std.specs.Prelude.{ℕ, ◌+◌, ◌-◌, ◌*◌, ◌%◌, min, max, if◌then◌else◌, List}
use Rattle.std.specs.List.{flat_map}
use Rattle.plane_rect.specs.Rectangle.{Rectangle}
use Rattle.pixel_formats.specs.Format.{channels, depth, max_sample}
use Rattle.pixel_formats.specs.Recolor.{is_alpha}
use Rattle.pixel_formats.specs.declared.format.Format.{Format}
use Rattle.model_images.specs.Image.{Image, at, is_inside, sampled}
use Rattle.model_images.specs.Raw.{sample_bytes}
use Rattle.pixel_formats.specs.declared.abyss.Abyss.{Abyss}
use Rattle.pixel_formats.specs.declared.abyss.Abyss.TheVariants.{None, Clamp, Loop, Black, White}

-- of the len numbers from start on, the one that is nearest to n
abbrev pub nearest : ℕ → ℕ → ℕ → ℕ
nearest start len n = max start (min n (start + len - 1))

-- of the len numbers from start on, the one that is a whole multiple of len away from n
abbrev pub wrapped : ℕ → ℕ → ℕ → ℕ
wrapped start len n = start + (n + start * len - start) % len

-- the sample of a channel where all is black: no color, and full alpha
abbrev pub black_sample : Format → ℕ → ℕ
black_sample format c = if is_alpha format c then max_sample format else 0

-- the sample that a policy gives for a column, a row and a channel outside the image's box
abbrev pub outside_at : Image → Abyss → ℕ → ℕ → ℕ → ℕ
outside_at image None u v c = 0
outside_at image Clamp u v c =
    at image (nearest image.box.first_column image.box.width u) (nearest image.box.first_row image.box.height v) c
outside_at image Loop u v c =
    at image (wrapped image.box.first_column image.box.width u) (wrapped image.box.first_row image.box.height v) c
outside_at image Black u v c = black_sample image.format c
outside_at image White u v c = max_sample image.format

-- The sample of a column, a row and a channel under a policy: the image's own inside its box.
unfoldable pub abyss_at : Image → Abyss → ℕ → ℕ → ℕ → ℕ
abyss_at image policy u v c =
    if is_inside u v image.box then at image u v c else outside_at image policy u v c

-- the bytes of the samples of a rectangle under a policy
unfoldable pub raw_with : Image → Abyss → Rectangle → List ℕ
raw_with image policy rectangle =
    flat_map (sample_bytes (depth image.format))
    (sampled rectangle (channels image.format) (abyss_at image policy))
