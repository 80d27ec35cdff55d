-- Bytes of some rows of a rectangle.
use Rattle.std.proofs.Common.{◌≡◌, ℕ, ◌+◌, ◌-◌, ◌*◌, ◌<◌, ◌≤◌, ap, arith}
use Rattle.std.proofs.Math.Nat.{mul-le-mul_right}
use Rattle.plane_rect.specs.Rectangle.{Rectangle}
use Rattle.pixel_formats.specs.Format.{pixel_bytes}
use Rattle.pixel_formats.proofs.FormatLaws.{few_bytes}
use Rattle.pixel_formats.specs.declared.format.Format.{Format}

-- rows with columns have bytes
pub some_bytes : (format : Format) (width count rows : ℕ) → count ≡ width * pixel_bytes format → 0 < width → 0 < rows → 0 < rows * count
some_bytes format width count rows is wide some =
    let n = pixel_bytes format in
    let row : 1 * n ≤ width * n = mul-le-mul_right n wide in
    let all : 1 * count ≤ rows * count = mul-le-mul_right count some in
    omega (arith, row, all, is, few_bytes format)

-- the bytes of some rows are among those of all
pub rows_fit : (rect : Rectangle) (n count rows len : ℕ) → count ≡ rect.width * n → rows ≤ rect.height → len ≡ rect.width * rect.height * n → rows * count ≤ len
rows_fit rect n count rows len is few long = omega (arith, mul-le-mul_right count few, ap (λ (m : ℕ). rect.height * m) is, long)

-- rows that are counted from some above others
pub rows_back : (j period more count : ℕ) → period ≤ j → ((j - period) * count + period * count ≡ j * count) × ((j - period) * count + (period + more) * count ≡ (j + more) * count)
rows_back j period more count above =
    let back : j - period + period ≡ j = omega (arith, above) in
    let all = ap (λ (i : ℕ). i * count) back in
    (omega (arith, all), omega (arith, all))
