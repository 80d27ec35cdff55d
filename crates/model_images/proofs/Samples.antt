-- Where the sample of a position and a channel stands, and back.
use Rattle.std.proofs.Common.{◌≡◌, ℕ, zero, suc, ◌*◌, ◌/◌, ◌%◌, ◌<◌, true, arith}
use Rattle.std.proofs.lemmas.Nat.{mul-add-lt, div-mul-add, mod-mul-add, div_below, mod_below, div-add-mod'}
use Rattle.std.proofs.lemmas.Bool.Decides.{nat_tests}
use Rattle.std.proofs.Math.Nat.{mul-zero}
use Rattle.plane_rect.specs.Rectangle.{Rectangle, Inside, area, offset}
use Rattle.plane_rect.proofs.RectangleLaws.{Inside-index, offset-below, offset-column, offset-index, offset-row}
use Rattle.model_images.specs.Image.{is_inside, sample_index, sample_count, column_of, row_of}

pub inside_where : (u v : ℕ) (r : Rectangle) → Inside u v r → is_inside u v r ≡ true
inside_where u v r h = grind (arith, nat_tests)

pub Inside_from : (u v : ℕ) (r : Rectangle) → is_inside u v r ≡ true → Inside u v r
Inside_from u v r h = grind (arith, nat_tests)

pub sample_index_below : (r : Rectangle) (n u v c : ℕ) → Inside u v r → c < n → sample_index r n u v c < sample_count r n
sample_index_below r n u v c h k = omega (arith, mul-add-lt (offset r u v) n c (area r) (offset-below u v r h) k)

pub position_of_index : (r : Rectangle) (n u v c : ℕ) → Inside u v r → c < n →
    (column_of r n (sample_index r n u v c) ≡ u) × (row_of r n (sample_index r n u v c) ≡ v) × (sample_index r n u v c % n ≡ c)
position_of_index r n u v c h k =
    let position = div-mul-add (offset r u v) n c k in
    (rw position (offset-column u v r h), rw position (offset-row u v r h), mod-mul-add (offset r u v) n c k)

-- a product is 0 where a factor is
factor_pos : (a b i : ℕ) → i < a * b → 0 < b
factor_pos a zero i h = absurd (omega (arith, rw mul-zero at h))
factor_pos a (suc b) i h = omega arith

pub position_inside : (r : Rectangle) (n i : ℕ) → i < sample_count r n → Inside (column_of r n i) (row_of r n i) r × (i % n < n)
position_inside r n i h =
    let some = factor_pos (area r) n i h in
    (Inside-index (i / n) r (div_below i n (area r) some h), mod_below i n some)

pub index_of_position : (r : Rectangle) (n i : ℕ) → sample_index r n (column_of r n i) (row_of r n i) (i % n) ≡ i
index_of_position r n i = rw (offset-index (i / n) r) (div-add-mod' i n)
