-- Parts of images that are moved.
use Rattle.std.proofs.Common.{◌≡◌, [], ◌∷◌, ℕ, ℤ, pos, negsuc, ◌+◌, ◌-◌, ◌*◌, ◌<◌, inl, inr, List, Option, Some, None, min, refl, sym, ap, ◌∙◌, subst, arith, length, add-zero}
use Rattle.std.specs.Prelude.{unwrap_or}
use Rattle.plane_rect.specs.Rectangle.{Includes, InLimits, Inside, IsRectangle, Rectangle, empty, end_column, end_row, if_in_limits, offset, shifted}
use Rattle.plane_rect.proofs.Rectangles.{rectangle-some, some_or_empty}
use Rattle.pixel_formats.specs.Format.{channels, depth}
use Rattle.pixel_formats.specs.Row.{sample_at}
use Rattle.model_images.specs.FromRaw.{byte_count, image_from_raw, pixels_from_raw}
use Rattle.model_images.specs.Image.{Image, at, image_from_fn}
use Rattle.model_images.proofs.Laws.{generated_equal}
use Rattle.model_operations.specs.Boxes.{result_box}
use Rattle.model_operations.specs.Moves.{moved_index, source_index}
use Rattle.model_operations.specs.Lawful.Reaching.{shifted-came, translated-from}
use Rattle.model_operations.specs.declared.operation.IntOp.TheVariants.{Translate}
use Rattle.point_ops.specs.Moved.{moved_source}
use Rattle.op_contracts.specs.PartBytes.{AreRawBytesOf}

-- ---- a part that is read from another of the same size

-- the positions of a part come from those of another rectangle, in order
pub record ComesFrom (source part : Rectangle) (x y : ℕ → ℕ) : Type 0 where
  pub width : source.width ≡ part.width
  pub height : source.height ≡ part.height
  pub column : (u v : ℕ) → Inside u v part → x u ≡ source.first_column + (u - part.first_column)
  pub row : (u v : ℕ) → Inside u v part → y v ≡ source.first_row + (v - part.first_row)

module _ (source part : Rectangle) (x y : ℕ → ℕ) (comes : ComesFrom source part x y) where
  pub source-limits : InLimits part → InLimits source
  source-limits limits = rw (comes.width, comes.height) limits

  source-inside : (u v : ℕ) → Inside u v part → Inside (x u) (y v) source
  source-inside u v there =
      record {
        column = (omega (arith, comes.column u v there), omega (arith, comes.column u v there, comes.width, there.column));
        row = (omega (arith, comes.row u v there), omega (arith, comes.row u v there, comes.height, there.row));
      }

  source-offset : (u v : ℕ) → Inside u v part → offset source (x u) (y v) ≡ offset part u v
  source-offset u v there =
      let column : x u - source.first_column ≡ u - part.first_column = omega (arith, comes.column u v there) in
      let row : y v - source.first_row ≡ v - part.first_row = omega (arith, comes.row u v there) in
      ap (λ (n : ℕ). n * source.width + (x u - source.first_column)) row
      ∙ ap (λ (n : ℕ). (v - part.first_row) * n + (x u - source.first_column)) comes.width
      ∙ ap (λ (n : ℕ). (v - part.first_row) * part.width + n) column

  module _ (image : Image) (bytes : List ℕ) (are : AreRawBytesOf image source bytes) where
    pub moved-count : length bytes ≡ byte_count part image.format
    moved-count = are.whole ∙ rw (comes.width, comes.height) refl

    pub moved-image : image_from_raw part image.format bytes ≡ image_from_fn part image.format (λ u v. at image (x u) (y v))
    moved-image =
        generated_equal part image.format (pixels_from_raw part image.format bytes) (λ u v. at image (x u) (y v))
        (λ u v c there known.
        ap (λ (n : ℕ). sample_at (depth image.format) bytes (n * channels image.format + c)) (sym (source-offset u v there))
        ∙ are.samples (x u) (y v) c (source-inside u v there) known)

-- ---- translated images

came-from : (dx dy : ℤ) (box : Rectangle) (u v : ℕ) (made : Option Rectangle) → if_in_limits (shifted dx dy box) ≡ made → Inside u v (unwrap_or made empty)
    → Inside (source_index dx u) (source_index dy v) box × (moved_index dx (source_index dx u) ≡ u) × (moved_index dy (source_index dy v) ≡ v)
came-from dx dy box u v (Some r) e there =
    let came = shifted-came dx dy box r e u v there in
    (translated-from dx dy box r e u v there, came.0, came.1)
came-from dx dy box u v None e there = absurd (omega (arith, there.column))

-- an index further on comes from one as much further on
source-further : (d : ℤ) (n k : ℕ) → moved_index d (source_index d n) ≡ n → source_index d (n + k) ≡ source_index d n + k
source-further (pos m) n k came = omega (arith, came)
source-further (negsuc m) n k came = omega arith

module _ (dx dy : ℤ) (box part : Rectangle) (inside : Includes (result_box (Translate dx dy) (box ∷ [])) part) where
  came : (u v : ℕ) → Inside u v part
      → Inside (source_index dx u) (source_index dy v) box × (moved_index dx (source_index dx u) ≡ u) × (moved_index dy (source_index dy v) ≡ v)
  came u v there = came-from dx dy box u v (if_in_limits (shifted dx dy box)) refl (inside u v there)

  some-source : 0 < part.width → 0 < part.height → ComesFrom (moved_source dx dy box part) part (source_index dx) (source_index dy)
  some-source wide high =
      let first = came part.first_column part.first_row (record { column = (omega arith, omega (arith, wide)); row = (omega arith, omega (arith, high)) }) in
      let last = came (part.first_column + part.width - 1) (part.first_row + part.height - 1)
      (record { column = (omega (arith, wide), omega (arith, wide)); row = (omega (arith, high), omega (arith, high)) }) in
      let column : (k : ℕ) → source_index dx (part.first_column + k) ≡ source_index dx part.first_column + k = λ k. source-further dx part.first_column k first.1 in
      let row : (k : ℕ) → source_index dy (part.first_row + k) ≡ source_index dy part.first_row + k = λ k. source-further dy part.first_row k first.2 in
      let a = source_index dx part.first_column in
      let b = source_index dy part.first_row in
      let last_column : source_index dx (part.first_column + part.width - 1) ≡ a + (part.width - 1) = ap (source_index dx) (omega (arith, wide)) ∙ column (part.width - 1) in
      let last_row : source_index dy (part.first_row + part.height - 1) ≡ b + (part.height - 1) = ap (source_index dy) (omega (arith, high)) ∙ row (part.height - 1) in
      let left : min a (end_column box) ≡ a = omega (arith, first.0.column) in
      let top : min b (end_row box) ≡ b = omega (arith, first.0.row) in
      let right : min (source_index dx (end_column part)) (end_column box) ≡ a + part.width = omega (arith, column part.width, last.0.column, last_column, wide) in
      let bottom : min (source_index dy (end_row part)) (end_row box) ≡ b + part.height = omega (arith, row part.height, last.0.row, last_row, high) in
      let width : a + part.width - a ≡ part.width = omega arith in
      let height : b + part.height - b ≡ part.height = omega arith in
      let is : moved_source dx dy box part ≡ record { first_column = a; first_row = b; width = part.width; height = part.height } =
      rw (left, top, right, bottom, width, height) (rectangle-some a b part.width part.height wide high) in
      subst (λ (r : Rectangle). ComesFrom r part (source_index dx) (source_index dy)) (sym is)
      (record {
        width = refl;
        height = refl;
        column = λ u v there. ap (source_index dx) (omega (arith, there.column)) ∙ column (u - part.first_column);
        row = λ u v there. ap (source_index dy) (omega (arith, there.row)) ∙ row (v - part.first_row);
      })

  no-source : part ≡ empty → ComesFrom (moved_source dx dy box part) part (source_index dx) (source_index dy)
  no-source none =
      let column : min (source_index dx (end_column empty)) (end_column box) - min (source_index dx empty.first_column) (end_column box) ≡ 0 =
      omega (arith, ap (source_index dx) (add-zero empty.first_column)) in
      let is : moved_source dx dy box empty ≡ empty = rw column refl in
      subst (λ (r : Rectangle). ComesFrom (moved_source dx dy box r) r (source_index dx) (source_index dy)) (sym none)
      (subst (λ (r : Rectangle). ComesFrom r empty (source_index dx) (source_index dy)) (sym is)
      (record { width = refl; height = refl; column = λ u v there. absurd (omega (arith, there.column)); row = λ u v there. absurd (omega (arith, there.column)) }))

  pub translated-comes : IsRectangle part → ComesFrom (moved_source dx dy box part) part (source_index dx) (source_index dy)
  translated-comes is = elim (some_or_empty part is) [ inl some ↦ some-source some.0 some.1 | inr none ↦ no-source none ]

pub translated-source : (dx dy : ℤ) (box part source : Rectangle) → Includes (result_box (Translate dx dy) (box ∷ [])) part → IsRectangle part
    → source ≡ moved_source dx dy box part → ComesFrom source part (source_index dx) (source_index dy)
translated-source dx dy box part source inside is made =
    subst (λ (r : Rectangle). ComesFrom r part (source_index dx) (source_index dy)) (sym made) (translated-comes dx dy box part inside is)
