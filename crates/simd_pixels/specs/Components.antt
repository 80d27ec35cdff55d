-- The parts of a pixel from which those of any other layout are taken: number 0 is its gray, 1 to 3 are its colors and 4
-- is its alpha.
use Rattle.std.specs.Prelude.{ℕ, zero, suc, ◌*◌, ◌+◌}
use Rattle.pixel_formats.specs.Sample.{mean_of_three}

-- of a gray pixel without alpha, where the largest sample is given
abbrev pub components_of_gray : ℕ → (ℕ → ℕ) → ℕ → ℕ
components_of_gray max_sample pixel (suc (suc (suc (suc n)))) = max_sample
components_of_gray max_sample pixel n = pixel 0

-- of a gray pixel with alpha
abbrev pub components_of_gray_alpha : (ℕ → ℕ) → ℕ → ℕ
components_of_gray_alpha pixel (suc (suc (suc (suc n)))) = pixel 1
components_of_gray_alpha pixel n = pixel 0

-- of three colors without alpha
abbrev pub components_of_colors : ℕ → (ℕ → ℕ) → ℕ → ℕ
components_of_colors max_sample pixel zero = mean_of_three (pixel 0) (pixel 1) (pixel 2)
components_of_colors max_sample pixel (suc (suc (suc (suc n)))) = max_sample
components_of_colors max_sample pixel (suc n) = pixel n

-- of three colors with alpha
abbrev pub components_of_colors_alpha : (ℕ → ℕ) → ℕ → ℕ
components_of_colors_alpha pixel zero = mean_of_three (pixel 0) (pixel 1) (pixel 2)
components_of_colors_alpha pixel (suc n) = pixel n

-- the part that a channel of a pixel of n channels takes
abbrev pub component_for : ℕ → ℕ → ℕ
component_for (suc zero) channel = 0
component_for (suc (suc zero)) channel = 4 * channel
component_for n channel = channel + 1
