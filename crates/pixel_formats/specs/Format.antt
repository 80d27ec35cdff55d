-- The formats of pixels. A pixel is its channels in order: Y, or R, G and B, and then alpha where the format has it.
use Rattle.std.specs.Prelude.{ℕ, ◌*◌, ◌==◌, ◌&&◌, Bool, true, false, cond, nat_le, List, [], ◌++◌, codes}
use Rattle.pixel_formats.specs.declared.format.Format.{Format}
use Rattle.pixel_formats.specs.declared.format.Format.TheVariants.{Y8, YA8, RGB8, RGBA8, Y16, YA16, RGB16, RGBA16, Y32, YA32, RGB32, RGBA32}
pub use Rattle.pixel_formats.specs.Sample.{max_sample_of}

-- how many channels a pixel has, alpha among them
abbrev pub channels : Format → ℕ
channels Y8 = 1
channels YA8 = 2
channels RGB8 = 3
channels RGBA8 = 4
channels Y16 = 1
channels YA16 = 2
channels RGB16 = 3
channels RGBA16 = 4
channels Y32 = 1
channels YA32 = 2
channels RGB32 = 3
channels RGBA32 = 4

-- the bytes of a sample
abbrev pub depth : Format → ℕ
depth Y8 = 1
depth YA8 = 1
depth RGB8 = 1
depth RGBA8 = 1
depth Y16 = 2
depth YA16 = 2
depth RGB16 = 2
depth RGBA16 = 2
depth Y32 = 4
depth YA32 = 4
depth RGB32 = 4
depth RGBA32 = 4

-- the last channel is alpha
abbrev pub has_alpha : Format → Bool
has_alpha Y8 = false
has_alpha YA8 = true
has_alpha RGB8 = false
has_alpha RGBA8 = true
has_alpha Y16 = false
has_alpha YA16 = true
has_alpha RGB16 = false
has_alpha RGBA16 = true
has_alpha Y32 = false
has_alpha YA32 = true
has_alpha RGB32 = false
has_alpha RGBA32 = true

-- the name in a script: its colors, A where there is alpha, and the bits of a sample
abbrev pub word : Format → List ℕ
word format =
    cond (nat_le (channels format) 2) (codes "Y") (codes "RGB")
    ++ cond (has_alpha format) (codes "A") []
    ++ cond (depth format == 1) (codes "8") (cond (depth format == 2) (codes "16") (codes "32"))

-- the largest sample
abbrev pub max_sample : Format → ℕ
max_sample format = max_sample_of (depth format)

-- the bytes of a pixel
abbrev pub pixel_bytes : Format → ℕ
pixel_bytes format = channels format * depth format

-- two formats are one: no other has as many channels and as many bytes a sample
abbrev pub same_format : Format → Format → Bool
same_format a b = channels a == channels b && depth a == depth b
