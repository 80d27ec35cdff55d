-- The gain of a color without a division by what the caller gives.
use Rattle.std.specs.Prelude.{ℕ, ◌+◌, ◌*◌, ◌/◌, min, nat_le, if◌then◌else◌}
use Rattle.pixel_formats.specs.Format.{max_sample_of}
use Rattle.pixel_formats.specs.Sample.{unit_of}

-- a gain by a multiplication and a division by a power of two, which goes only as far as `last`
abbrev pub scaled : ℕ → ℕ → ℕ → ℕ → ℕ → ℕ → ℕ
scaled depth factor offset last cap color =
    min cap (if nat_le color last then (color * factor + offset) / unit_of depth else max_sample_of depth)
