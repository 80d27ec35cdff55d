-- The parts of pixels that agree in their channels.
use Rattle.std.specs.Prelude.{◌≡◌, ℕ, zero, suc, ◌<◌, ◌≤◌, refl}
use Rattle.std.proofs.Common.{arith}
use Rattle.pixel_formats.specs.Sample.{mean_of_three}
use Rattle.simd_pixels.specs.Components.{components_of_gray, components_of_gray_alpha, components_of_colors, components_of_colors_alpha}

pub components_of_gray-same : (max_sample : ℕ) (p q : ℕ → ℕ) → ((i : ℕ) → i < 1 → p i ≡ q i) → (n : ℕ) → n ≤ 4 → components_of_gray max_sample p n ≡ components_of_gray max_sample q n
components_of_gray-same max_sample p q same zero le = same 0 (omega arith)
components_of_gray-same max_sample p q same (suc zero) le = same 0 (omega arith)
components_of_gray-same max_sample p q same (suc (suc zero)) le = same 0 (omega arith)
components_of_gray-same max_sample p q same (suc (suc (suc zero))) le = same 0 (omega arith)
components_of_gray-same max_sample p q same (suc (suc (suc (suc n)))) le = refl

pub components_of_gray_alpha-same : (max_sample : ℕ) (p q : ℕ → ℕ) → ((i : ℕ) → i < 2 → p i ≡ q i) → (n : ℕ) → n ≤ 4 → components_of_gray_alpha p n ≡ components_of_gray_alpha q n
components_of_gray_alpha-same max_sample p q same zero le = same 0 (omega arith)
components_of_gray_alpha-same max_sample p q same (suc zero) le = same 0 (omega arith)
components_of_gray_alpha-same max_sample p q same (suc (suc zero)) le = same 0 (omega arith)
components_of_gray_alpha-same max_sample p q same (suc (suc (suc zero))) le = same 0 (omega arith)
components_of_gray_alpha-same max_sample p q same (suc (suc (suc (suc n)))) le = same 1 (omega arith)

pub components_of_colors-same : (max_sample : ℕ) (p q : ℕ → ℕ) → ((i : ℕ) → i < 3 → p i ≡ q i) → (n : ℕ) → n ≤ 4 → components_of_colors max_sample p n ≡ components_of_colors max_sample q n
components_of_colors-same max_sample p q same zero le =
    λ t. mean_of_three (same 0 (omega arith) t) (same 1 (omega arith) t) (same 2 (omega arith) t)
components_of_colors-same max_sample p q same (suc zero) le = same 0 (omega arith)
components_of_colors-same max_sample p q same (suc (suc zero)) le = same 1 (omega arith)
components_of_colors-same max_sample p q same (suc (suc (suc zero))) le = same 2 (omega arith)
components_of_colors-same max_sample p q same (suc (suc (suc (suc n)))) le = refl

pub components_of_colors_alpha-same : (max_sample : ℕ) (p q : ℕ → ℕ) → ((i : ℕ) → i < 4 → p i ≡ q i) → (n : ℕ) → n ≤ 4 → components_of_colors_alpha p n ≡ components_of_colors_alpha q n
components_of_colors_alpha-same max_sample p q same zero le =
    λ t. mean_of_three (same 0 (omega arith) t) (same 1 (omega arith) t) (same 2 (omega arith) t)
components_of_colors_alpha-same max_sample p q same (suc n) le = same n (omega arith)
