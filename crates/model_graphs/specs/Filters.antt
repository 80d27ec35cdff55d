-- Operations through a mask. The mask is the last input, after those that the operation has by itself.
use Rattle.std.specs.Prelude.{◌≡◌, ℕ, suc, ◌<◌, ◌==◌, ◌&&◌, not, nat_lt, Bool, true, false, if◌then◌else◌, List, take, Option, Some, None, slice_index_or}
use Rattle.plane_rect.specs.Rectangle.{Inside, Rectangle, empty, meet}
use Rattle.pixel_formats.specs.Blend.{blended}
use Rattle.pixel_formats.specs.Format.{channels, depth, max_sample, same_format}
use Rattle.pixel_formats.specs.declared.format.Format.{Format}
use Rattle.pixel_formats.specs.declared.format.Format.TheVariants.{Y8}
use Rattle.model_images.specs.Image.{Image, at}
use Rattle.model_graphs.specs.Changes.{input_image}
use Rattle.model_graphs.specs.Meanings.{Meanings, boxes_of, result_box, result_of}
use Rattle.model_graphs.specs.Filter.{Filter, Plain, Through}

-- the mask's format is Y of the depth of another
abbrev pub is_mask_of : Format → Format → Bool
is_mask_of mask format = channels mask == 1 && depth mask == depth format

-- what of a list are an operation's own inputs
abbrev pub own : {Op A : Type 0} → Meanings Op → Op → List A → List A
own meanings operation list = take (meanings.input_count operation) list

-- one input more for a mask: none suit an operation that is not steady
abbrev pub filter_count : {Op : Type 0} → (Op → Bool) → Meanings Op → Filter Op → ℕ
filter_count steady meanings (Plain operation) = meanings.input_count operation
filter_count steady meanings (Through operation) =
    if steady operation then suc (meanings.input_count operation) else 0

-- the operation's format, where it is the first input's and the mask's suits it
abbrev pub format_through : Format → Format → Option Format → Option Format
format_through first mask None = None
format_through first mask (Some format) =
    if same_format format first && is_mask_of mask first then Some format else None

abbrev pub filter_format : {Op : Type 0} → (Op → Bool) → Meanings Op → Filter Op → List Format → Option Format
filter_format steady meanings (Plain operation) formats = meanings.format operation formats
filter_format steady meanings (Through operation) formats =
    if steady operation
    then format_through
    (slice_index_or formats 0 Y8)
    (slice_index_or formats (meanings.input_count operation) Y8)
    (meanings.format operation (own meanings operation formats))
    else None

-- the operation's box
abbrev pub filter_box : {Op : Type 0} → (Op → Bool) → Meanings Op → Filter Op → List Rectangle → Option Rectangle
filter_box steady meanings (Plain operation) boxes = meanings.box operation boxes
filter_box steady meanings (Through operation) boxes =
    if steady operation then meanings.box operation (own meanings operation boxes) else None

-- the operation's sample, mixed with the first input's
abbrev pub sample_through : {Op : Type 0} → Meanings Op → Op → List Image → ℕ → ℕ → ℕ → ℕ
sample_through meanings operation images u v c =
    blended
    (max_sample (input_image images 0).format)
    (at (input_image images 0) u v c)
    (at (result_of meanings operation (own meanings operation images)) u v c)
    (at (input_image images (meanings.input_count operation)) u v 0)

abbrev pub filter_value : {Op : Type 0} → Meanings Op → Filter Op → List Image → ℕ → ℕ → ℕ → ℕ
filter_value meanings (Plain operation) images u v c = meanings.value operation images u v c
filter_value meanings (Through operation) images u v c = sample_through meanings operation images u v c

-- of the mask the part itself, and of the others what the operation requires
abbrev pub filter_required : {Op : Type 0} → Meanings Op → Filter Op → List Rectangle → ℕ → Rectangle → Rectangle
filter_required meanings (Plain operation) boxes i part = meanings.required operation boxes i part
filter_required meanings (Through operation) boxes i part =
    if nat_lt i (meanings.input_count operation)
    then meanings.required operation (own meanings operation boxes) i part
    else meet (meet part (result_box meanings operation (own meanings operation boxes))) (slice_index_or boxes i empty)

abbrev pub invalidated_through : {Op : Type 0} → Meanings Op → Op → List Rectangle → ℕ → Rectangle → Rectangle
invalidated_through meanings operation boxes i changed =
    if nat_lt i (meanings.input_count operation)
    then meanings.invalidated operation (own meanings operation boxes) i changed
    else meet (meet changed (slice_index_or boxes i empty)) (result_box meanings operation (own meanings operation boxes))

abbrev pub filter_invalidated : {Op : Type 0} → (Op → Bool) → Meanings Op → Filter Op → List Rectangle → ℕ → Rectangle → Rectangle
filter_invalidated steady meanings (Plain operation) boxes i changed = meanings.invalidated operation boxes i changed
filter_invalidated steady meanings (Through operation) boxes i changed =
    if not (steady operation) then empty else invalidated_through meanings operation boxes i changed

-- What operations by themselves and through a mask mean.
abbrev pub filtered : {Op : Type 0} → (Op → Bool) → Meanings Op → Meanings (Filter Op)
filtered steady meanings =
    record {
      input_count = filter_count steady meanings;
      format = filter_format steady meanings;
      box = filter_box steady meanings;
      value = filter_value meanings;
      required = filter_required meanings;
      invalidated = filter_invalidated steady meanings;
    }

-- Operations that are steady have a first input, and require of it each position of a part that both boxes have.
pub record IsInPlace {Op : Type 0} (steady : Op → Bool) (meanings : Meanings Op) : Type 0 where
  pub input : (operation : Op) → steady operation ≡ true → 0 < meanings.input_count operation
  pub required : (operation : Op) → steady operation ≡ true → (boxes : List Rectangle) (part : Rectangle) (u v : ℕ) →
      Inside u v part → Inside u v (result_box meanings operation boxes) → Inside u v (slice_index_or boxes 0 empty) →
      Inside u v (meanings.required operation boxes 0 part)

-- two operations are one, both through a mask or both by themselves
abbrev pub same_filter : {Op : Type 0} → (Op → Op → Bool) → Filter Op → Filter Op → Bool
same_filter same (Plain f) (Plain g) = same f g
same_filter same (Plain f) (Through g) = false
same_filter same (Through f) (Plain g) = false
same_filter same (Through f) (Through g) = same f g
