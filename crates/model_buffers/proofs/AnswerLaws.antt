-- Why an edit is refused, by its causes one after another.
use Rattle.std.proofs.Common.{◌≡◌, ℕ, ◌<◌, ◌≤◌, Bool, true, false, not, ◌&&◌, List, length, Option, Some, None, Result, Ok, Err, refl, ap, arith, eqb, leb, cond}
use Rattle.std.specs.Prelude.{IsSome, MatchOption}
use Rattle.std.specs.Bool.{Decides}
use Rattle.std.specs.List.{list_all}
use Rattle.std.proofs.lemmas.Bool.Decides.{nat_tests, Decides-eqb}
use Rattle.std.proofs.lemmas.List.Sums.{AllPass-from_list_all, list_all-from_AllPass}
use Rattle.plane_rect.specs.declared.rect.RectRefused.{RectRefused}
use Rattle.plane_rect.specs.Rectangle.{Rectangle, Inside, Includes, includes, is_empty, end_column, end_row}
use Rattle.plane_rect.proofs.Differences.{reaches}
use Rattle.pixel_formats.specs.Limits.{max_buffers}
use Rattle.pixel_formats.specs.declared.format.Format.{Format}
use Rattle.pixel_formats.specs.Format.{channels, max_sample, same_format}
use Rattle.pixel_formats.proofs.FormatLaws.{Decides-same_format}
use Rattle.model_images.proofs.Tests.{both}
use Rattle.model_graphs.specs.Shapes.{Shape}
use Rattle.model_images.specs.FromRaw.{byte_count}
use Rattle.model_buffers.specs.declared.refused.EditRefused.{EditRefused}
use Rattle.model_buffers.specs.declared.refused.EditRefused.TheVariants.{UnknownBuffer, NameTaken, OutOfBounds, WrongSize, Formats, TooManyBuffers}
use Rattle.model_buffers.specs.BufferEdit.{Refusal, add_refused, copy_refused, fill_refused, if_known, if_moved, is_pixel, IsPixel, put_refused, unless}
use Rattle.model_buffers.specs.Layout.{TableLayout, View, find}

-- ---- tests

pub Decides-includes : (a b : Rectangle) → Decides (includes a b) (Includes a b)
Decides-includes a b = elim (is_empty b) as (λ t. is_empty b ≡ t → Decides (includes a b) (Includes a b)) [
  | true ↦ λ e. (λ _. λ u v h. absurd (nowhere u v e h), λ _. rw e refl)
  | false ↦ λ e. (
    λ t. λ u v h. let s = rw e at t in within s u v h,
    λ inside. let far = reaches a b (ap not e) inside in rw e (grind (arith, nat_tests, far)),
  )
] refl
  where
    nowhere : (u v : ℕ) → is_empty b ≡ true → Inside u v b → ⊥
    nowhere u v e h = grind (arith, nat_tests)

    within : (leb a.first_column b.first_column && leb a.first_row b.first_row && leb (end_column b) (end_column a) && leb (end_row b) (end_row a)) ≡ true → Includes a b
    within t u v h = grind (arith, nat_tests)

pub Decides-is_pixel : (format : Format) (samples : List ℕ) → Decides (is_pixel format samples) (IsPixel format samples)
Decides-is_pixel format samples = (
  λ t. (
    grind (arith, nat_tests),
    λ k d h. let all : list_all (λ sample. leb sample (max_sample format)) samples ≡ true = (both (eqb (length samples) (channels format)) _ t).1 in
        let one = AllPass-from_list_all (λ sample. leb sample (max_sample format)) samples all k d h in grind (arith, nat_tests),
  ),
  λ p. let all = list_all-from_AllPass (λ sample. leb sample (max_sample format)) samples (λ k d h. let one = p.1 k d h in grind (arith, nat_tests)) in
      let count : eqb (length samples) (channels format) ≡ true = grind (arith, nat_tests, p.0) in rw (count, all) refl,
)

-- ---- one cause after another

module _ (A : Type 0) (R : EditRefused → Type 0) where
  pub known : (o : Option View) (next : View → Refusal) → (o ≡ None → R UnknownBuffer)
      → ((view : View) → o ≡ Some view → MatchOption (next view) A R) → MatchOption (if_known o next) A R
  known None next absent there = absent refl
  known (Some view) next absent there = there view refl

  pub tested : (b : Bool) (P : Type 0) (refused : EditRefused) (next : Refusal) → Decides b P → (¬ P → R refused) → (P → MatchOption next A R)
      → MatchOption (unless b refused next) A R
  tested true P refused next d fails holds = holds (d.0 refl)
  tested false P refused next d fails holds = fails (λ p. cc (d.1 p))

  pub moved : (after : Result Rectangle RectRefused) (next : Rectangle → Refusal) → ((e : RectRefused) → after ≡ Err e → R OutOfBounds)
      → ((r : Rectangle) → after ≡ Ok r → MatchOption (next r) A R) → MatchOption (if_moved after next) A R
  moved (Ok r) next fails holds = holds r refl
  moved (Err e) next fails holds = fails e refl

  pub added : (layout : TableLayout) (name : List ℕ) → (IsSome (find layout.buffers name) → R NameTaken)
      → (find layout.buffers name ≡ None → max_buffers ≤ length layout.buffers → R TooManyBuffers)
      → (find layout.buffers name ≡ None → length layout.buffers < max_buffers → A) → MatchOption (add_refused layout name) A R
  added layout name taken full room = cases (find layout.buffers name) refl
    where
      counted : (b : Bool) → leb max_buffers (length layout.buffers) ≡ b → find layout.buffers name ≡ None
          → MatchOption (cond b (Some TooManyBuffers) None) A R
      counted true t none = full none (grind (arith, nat_tests))
      counted false t none = room none (grind (arith, nat_tests))

      cases : (o : Option View) → find layout.buffers name ≡ o → MatchOption (add_refused layout name) A R
      cases (Some view) e = rw e (taken (rw e refl))
      cases None e = rw e (counted (leb max_buffers (length layout.buffers)) refl e)

  -- ---- edits of a rectangle

  pub filled : (shape : Shape) (r : Rectangle) (samples : List ℕ) → (¬ Includes shape.box r → R OutOfBounds)
      → (Includes shape.box r → ¬ IsPixel shape.format samples → R Formats)
      → (Includes shape.box r → IsPixel shape.format samples → A) → MatchOption (fill_refused shape r samples) A R
  filled shape r samples outside no_pixel done =
      tested (includes shape.box r) (Includes shape.box r) OutOfBounds _ (Decides-includes shape.box r) outside (λ inside.
      tested (is_pixel shape.format samples) (IsPixel shape.format samples) Formats None (Decides-is_pixel shape.format samples) (no_pixel inside) (done inside))

  pub put : (shape : Shape) (r : Rectangle) (bytes : List ℕ) → (¬ Includes shape.box r → R OutOfBounds)
      → (Includes shape.box r → ¬ (length bytes ≡ byte_count r shape.format) → R (WrongSize (length bytes) (byte_count r shape.format)))
      → (Includes shape.box r → length bytes ≡ byte_count r shape.format → A) → MatchOption (put_refused shape r bytes) A R
  put shape r bytes outside other_size done =
      let wanted = byte_count r shape.format in
      tested (includes shape.box r) (Includes shape.box r) OutOfBounds _ (Decides-includes shape.box r) outside (λ inside.
      tested (eqb (length bytes) wanted) (length bytes ≡ wanted) (WrongSize (length bytes) wanted) None (Decides-eqb (length bytes) wanted) (other_size inside) (done inside))

  pub copied : (source target : Shape) (r : Rectangle) (after : Result Rectangle RectRefused) → (¬ Includes source.box r → R OutOfBounds)
      → (Includes source.box r → (e : RectRefused) → after ≡ Err e → R OutOfBounds)
      → (Includes source.box r → (there : Rectangle) → after ≡ Ok there → ¬ Includes target.box there → R OutOfBounds)
      → (Includes source.box r → (there : Rectangle) → after ≡ Ok there → Includes target.box there → ¬ (source.format ≡ target.format) → R Formats)
      → (Includes source.box r → (there : Rectangle) → after ≡ Ok there → Includes target.box there → source.format ≡ target.format → A)
      → MatchOption (copy_refused source target r after) A R
  copied source target r after outside unmoved past unlike done =
      tested (includes source.box r) (Includes source.box r) OutOfBounds _ (Decides-includes source.box r) outside (λ inside.
      moved after _ (unmoved inside) (λ there e.
      tested (includes target.box there) (Includes target.box there) OutOfBounds _ (Decides-includes target.box there) (past inside there e) (λ room.
      tested (same_format source.format target.format) (source.format ≡ target.format) Formats None
      (Decides-same_format source.format target.format) (unlike inside there e room) (done inside there e room))))
