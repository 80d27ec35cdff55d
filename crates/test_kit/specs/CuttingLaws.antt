-- The cut keeps the laws of meanings.
use Rattle.std.proofs.Common.{◌≡◌, ℕ, ◌<◌, List, [], ◌∷◌, sym, ap, ◌∙◌, subst, arith, length, slice_index_or}
use Rattle.plane_rect.specs.Rectangle.{Inside, Rectangle, empty}
use Rattle.plane_rect.specs.SameRectangle.{same_rectangle-itself, same_rectangle-true}
use Rattle.plane_rect.proofs.Rectangles.{Inside-meet}
use Rattle.pixel_formats.specs.Format.{channels}
use Rattle.pixel_formats.specs.declared.format.Format.{Format}
use Rattle.model_images.specs.Image.{Image, at}
use Rattle.model_images.specs.Paint.{no_image}
use Rattle.model_images.proofs.Agreeing.{at-by_channels}
use Rattle.model_images.proofs.Laws.{at-image_from_fn}
use Rattle.model_graphs.specs.Filters.{IsInPlace}
use Rattle.model_graphs.specs.Laws.{IsBoxed, IsDual, IsEquality, IsLocal, unit_rectangle}
use Rattle.model_graphs.specs.Meanings.{boxes_of, formats_of, result_box, result_format, result_of}
use Rattle.test_kit.specs.Cutting.{cut_is_steady, cut_required, cutting, same_cut}
use Rattle.test_kit.specs.declared.cutting.CutTo.{CutTo}

-- a position of the result is one of the only input's box
in-input : (op : CutTo) (boxes : List Rectangle) (u v : ℕ) → Inside u v (result_box cutting op boxes) → Inside u v (slice_index_or boxes 0 empty)
in-input op [] u v there = absurd (omega (arith, there.column))
in-input op (box ∷ []) u v there = ((Inside-meet u v op.rect box).0 there).1
in-input op (box ∷ other ∷ boxes) u v there = absurd (omega (arith, there.column))

some-input : (op : CutTo) (images : List Image) (u v : ℕ) → Inside u v (result_box cutting op (boxes_of images)) → 0 < length images
some-input op [] u v there = absurd (omega (arith, there.column))
some-input op (image ∷ images) u v there = omega arith

pub is_local : IsLocal cutting
is_local op a b part inside agree u v c there =
    let here : Inside u v (result_box cutting op (boxes_of a)) = inside u v there in
    let also : Inside u v (result_box cutting op (boxes_of b)) = subst (λ (boxes : List Rectangle). Inside u v (result_box cutting op boxes)) agree.boxes here in
    let formats : (result_of cutting op a).format ≡ (result_of cutting op b).format = ap (result_format cutting op) agree.formats in
    let needed : Inside u v (cut_required op (boxes_of a) 0 part) = (Inside-meet u v part (slice_index_or (boxes_of a) 0 empty)).1 (there, in-input op (boxes_of a) u v here) in
    at-by_channels (result_of cutting op a) (result_of cutting op b) u v c formats
    (λ known.
    at-image_from_fn (result_box cutting op (boxes_of a)) (result_format cutting op (formats_of a)) (at (slice_index_or a 0 no_image)) u v c here known
    ∙ agree.samples 0 (some-input op a u v here) u v c needed
    ∙ sym (at-image_from_fn (result_box cutting op (boxes_of b)) (result_format cutting op (formats_of b)) (at (slice_index_or b 0 no_image)) u v c also
    (subst (λ (format : Format). c < channels format) formats known)))

pub is_dual : IsDual cutting
is_dual op boxes i changed u v here out s t read reached =
    let own = ((Inside-meet s t (unit_rectangle u v) (slice_index_or boxes i empty)).0 read).0 in
    let column : s ≡ u = omega (arith, own.column) in
    let row : t ≡ v = omega (arith, own.row) in
    let changes : Inside u v changed = subst (λ (m : ℕ). Inside m v changed) column (subst (λ (n : ℕ). Inside s n changed) row reached) in
    out ((Inside-meet u v changed (result_box cutting op boxes)).1 (changes, here))

pub is_boxed : IsBoxed cutting
is_boxed = record {
  required = λ op boxes i part u v there. ((Inside-meet u v part (slice_index_or boxes i empty)).0 there).1;
  invalidated = λ op boxes i changed u v there. ((Inside-meet u v changed (result_box cutting op boxes)).0 there).1;
}

pub is_in_place : IsInPlace cut_is_steady cutting
is_in_place = record {
  input = λ op steady. omega arith;
  required = λ op steady boxes part u v there inside first. (Inside-meet u v part (slice_index_or boxes 0 empty)).1 (there, first);
}

pub is_equality : IsEquality same_cut
is_equality = record {
  apart = λ a b same. ap (λ (rect : Rectangle). record { rect = rect }) (same_rectangle-true a.rect b.rect same);
  itself = λ op. same_rectangle-itself op.rect;
}
