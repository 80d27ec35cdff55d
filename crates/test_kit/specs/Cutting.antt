-- The operation that cuts an image to a rectangle.
use Rattle.std.specs.Prelude.{ℕ, Bool, true, List, [], ◌∷◌, Option, Some, None, unwrap_or, slice_index_or}
use Rattle.plane_rect.specs.Rectangle.{Rectangle, empty, meet, same_rectangle}
use Rattle.pixel_formats.specs.declared.format.Format.{Format}
use Rattle.model_images.specs.Image.{at}
use Rattle.model_images.specs.Paint.{no_image}
use Rattle.model_graphs.specs.Meanings.{Meanings}
use Rattle.test_kit.specs.declared.cutting.CutTo.{CutTo}

-- the format is the input's
abbrev pub cut_format : CutTo → List Format → Option Format
cut_format op (format ∷ []) = Some format
cut_format op _ = None

-- the box is what the input's has of the rectangle
abbrev pub cut_box : CutTo → List Rectangle → Option Rectangle
cut_box op (box ∷ []) = Some (meet op.rect box)
cut_box op _ = None

-- a position requires itself, and invalidates itself
abbrev pub cut_required : CutTo → List Rectangle → ℕ → Rectangle → Rectangle
cut_required op boxes i part = meet part (slice_index_or boxes i empty)

abbrev pub cut_invalidated : CutTo → List Rectangle → ℕ → Rectangle → Rectangle
cut_invalidated op boxes i changed = meet changed (unwrap_or (cut_box op boxes) empty)

abbrev pub cutting : Meanings CutTo
cutting = record {
  input_count = λ op. 1;
  format = cut_format;
  box = cut_box;
  value = λ op images. at (slice_index_or images 0 no_image);
  required = cut_required;
  invalidated = cut_invalidated;
}

-- each cut may stand through a mask
abbrev pub cut_is_steady : CutTo → Bool
cut_is_steady op = true

-- two rectangles are one
abbrev pub same_cut : CutTo → CutTo → Bool
same_cut a b = same_rectangle a.rect b.rect
