-- Samples of a format.
use Rattle.std.specs.Prelude.{ℕ, ◌≤◌}
use Rattle.pixel_formats.specs.Format.{max_sample}
use Rattle.pixel_formats.specs.declared.format.Format.{Format}

-- a pixel of the format may have the sample
abbrev pub IsSampleOf : Format → ℕ → Type 0
IsSampleOf format sample = sample ≤ max_sample format
