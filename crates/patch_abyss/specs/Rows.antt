-- The rows of an image that other rows read.
use Rattle.std.specs.Prelude.{◌≡◌, ℕ, ◌+◌, ◌-◌, ◌%◌, ◌<◌, ◌≤◌, ◌⊎◌}
use Rattle.plane_rect.specs.Rectangle.{Rectangle, end_row}
use Rattle.model_images.specs.Image.{Image}
use Rattle.pixel_formats.specs.declared.abyss.Abyss.{Abyss}
use Rattle.model_images.specs.Abyss.{abyss_at}
use Rattle.patch_abyss.specs.Fetched.{outside_sample}
use Rattle.patch_abyss.specs.declared.outside.Repetition.{Repetition}

-- each image of a box has in a row the samples that the policy gives for what is outside it
abbrev pub ReadsNothing : Rectangle → Abyss → ℕ → Type 0
ReadsNothing box policy v =
    (image : Image) (u c : ℕ) → image.box ≡ box → abyss_at image policy u v c ≡ outside_sample policy image.format c

-- each image of a box has the same samples in two rows
abbrev pub EqualRows : Rectangle → Abyss → ℕ → ℕ → Type 0
EqualRows box policy a b =
    (image : Image) (u c : ℕ) → image.box ≡ box → abyss_at image policy u a c ≡ abyss_at image policy u b c

-- so many rows from one on have the samples of as many rows of the box from another on
abbrev pub ReadsInOrder : Rectangle → Abyss → ℕ → ℕ → ℕ → Type 0
ReadsInOrder box policy v source many = (i : ℕ) → i < many → EqualRows box policy (v + i) (source + i)

-- rows of a rectangle from one on have the samples of those above it, periodically
pub record AreRepeated (box : Rectangle) (policy : Abyss) (rect : Rectangle) (v : ℕ) (repetition : Repetition) : Type 0 where
  pub some : 0 < repetition.period
  pub above : rect.first_row + repetition.period ≤ v
  pub further : v < repetition.end
  pub within : repetition.end ≤ end_row rect
  pub same : (i : ℕ) → v + i < repetition.end → EqualRows box policy (v - repetition.period + i % repetition.period) (v + i)

-- a box has no row, or two rows are both above it or both below it
abbrev pub OnOneSide : Rectangle → ℕ → ℕ → Type 0
OnOneSide box a b = (box.height ≡ 0) ⊎ ((a < box.first_row) × (b < box.first_row)) ⊎ ((end_row box ≤ a) × (end_row box ≤ b))

-- a rectangle of the same columns from another row on
abbrev pub moved_to : ℕ → Rectangle → Rectangle
moved_to first_row r = record r { first_row = first_row }

-- a box has just the columns of a rectangle, and the rows from one to before another, of which there is one
pub record HasWholeRows (box columns : Rectangle) (start end : ℕ) : Type 0 where
  pub first_column : box.first_column ≡ columns.first_column
  pub width : box.width ≡ columns.width
  pub some : start < end
  pub first_row : box.first_row ≤ start
  pub end_row : end ≤ end_row box
