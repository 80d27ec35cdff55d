-- What operations give of squares.
use Rattle.std.proofs.Common.{◌≡◌, [], ◌∷◌, Ok, Err, Result, ℕ, ◌+◌, ◌-◌, ◌*◌, ◌<◌, ◌≤◌, ◌||◌, Bool, true, false, cond, ltb, List, length, refl, sym, ap, ◌∙◌, subst, arith, eqb, Option, None, Some, ◌&&◌}
use Rattle.std.proofs.lemmas.Bool.Decides.{nat_tests}
use Rattle.std.specs.Prelude.{IsSome, unwrap_or}
use Rattle.std.specs.Result.{IfOk}
use Rattle.plane_rect.specs.Rectangle.{Includes, Inside, Rectangle, empty, end_column, end_row, if_in_limits, in_limits, is_empty, plane_side, spanning}
use Rattle.plane_rect.specs.Tile.{Tile, tile_square}
use Rattle.plane_rect.specs.declared.rect.RectRefused.TheVariants.{Place, Size}
use Rattle.plane_rect.proofs.Rectangles.{Inside-spanning}
use Rattle.pixel_formats.specs.Format.{channels, depth}
use Rattle.pixel_formats.specs.Limits.{IsArea, is_area}
use Rattle.pixel_formats.specs.declared.abyss.Abyss.{Abyss}
use Rattle.pixel_formats.specs.declared.abyss.Abyss.TheVariants as policies
use Rattle.pixel_formats.specs.declared.format.Format.{Format}
use Rattle.model_images.specs.FromRaw.{byte_count, image_from_raw, pixels_from_raw}
use Rattle.model_images.specs.Image.{Image, at, image_from_fn}
use Rattle.model_images.specs.Paint.{blank, cut}
use Rattle.model_images.proofs.Laws.{at-image_from_fn, generated_equal}
use Rattle.model_graphs.specs.Meanings.{result_box, result_format, result_of}
use Rattle.model_operations.specs.Boxes.{area_box}
use Rattle.model_operations.specs.Inputs.{input_format}
use Rattle.model_operations.specs.Meanings.{int_meanings}
use Rattle.model_operations.specs.Windows.{read_before, window}
use Rattle.model_operations.specs.Values.{value_at}
use Rattle.area_kernels.specs.Parts.{HoldsPart, square_samples}
use Rattle.area_ops.specs.Grown.{HoldsGrown, IsNear}
use Rattle.area_ops.specs.Kinds.{operation_of, square_value}
use Rattle.area_ops.specs.declared.kind.AreaKind.{AreaKind}
use Rattle.area_ops.specs.declared.kind.AreaKind.TheVariants.{BoxMean, Dilate, Erode}

-- ---- the result's format and samples

area-true : (radius : ℕ) (policy : Abyss) → IsArea radius policy → is_area radius policy ≡ true
area-true radius policies.None is = grind (arith, nat_tests)
area-true radius policies.Clamp is = grind (arith, nat_tests)
area-true radius policies.Loop is = absurd (cc is.1)
area-true radius policies.Black is = grind (arith, nat_tests)
area-true radius policies.White is = grind (arith, nat_tests)

area-from : (radius : ℕ) (policy : Abyss) → is_area radius policy ≡ true → IsArea radius policy
area-from radius policy e = grind (arith, nat_tests)

in-range : (a b : Bool) (format : Option Format) → IsSome (cond (a && b) format None) → b ≡ true
in-range a true format some = refl
in-range true false format some = absurd (cc some)
in-range false false format some = absurd (cc some)

pub area-given : (kind : AreaKind) (radius : ℕ) (policy : Abyss) (formats : List Format) → IsSome (int_meanings.format (operation_of kind radius policy) formats) → IsArea radius policy
area-given BoxMean radius policy formats some = area-from radius policy (in-range (eqb (length formats) 1) (is_area radius policy) (Some (input_format formats 0)) some)
area-given Dilate radius policy formats some = area-from radius policy (in-range (eqb (length formats) 1) (is_area radius policy) (Some (input_format formats 0)) some)
area-given Erode radius policy formats some = area-from radius policy (in-range (eqb (length formats) 1) (is_area radius policy) (Some (input_format formats 0)) some)

its-format : (kind : AreaKind) (radius : ℕ) (policy : Abyss) (format : Format) → is_area radius policy ≡ true
    → result_format int_meanings (operation_of kind radius policy) (format ∷ []) ≡ format
its-format BoxMean radius policy format e = rw e refl
its-format Dilate radius policy format e = rw e refl
its-format Erode radius policy format e = rw e refl

its-value : (kind : AreaKind) (radius : ℕ) (policy : Abyss) (image : Image) (u v c : ℕ)
    → value_at (operation_of kind radius policy) (image ∷ []) u v c ≡ square_value kind radius (window radius image policy u v c)
its-value BoxMean radius policy image u v c = refl
its-value Dilate radius policy image u v c = refl
its-value Erode radius policy image u v c = refl

module _ (kind : AreaKind) (radius : ℕ) (policy : Abyss) (image : Image) (out : Rectangle) (is : IsArea radius policy)
    (inside : Includes (result_box int_meanings (operation_of kind radius policy) (image.box ∷ [])) out) where
  abbrev result : Image
  result = result_of int_meanings (operation_of kind radius policy) (image ∷ [])

  format-is : result.format ≡ image.format
  format-is = its-format kind radius policy image.format (area-true radius policy is)

  pub result-at : (u v c : ℕ) → Inside u v out → c < channels image.format
      → at result u v c ≡ square_value kind radius (window radius image policy u v c)
  result-at u v c there known =
      at-image_from_fn result.box result.format (value_at (operation_of kind radius policy) (image ∷ [])) u v c (inside u v there)
      (subst (λ (f : Format). c < channels f) (sym format-is) known)
      ∙ its-value kind radius policy image u v c

  -- the image of bytes that have the samples of squares
  pub squares-are : (bytes : List ℕ)
      → HoldsPart image.format out.width out.height bytes (λ s t c. square_value kind radius (square_samples radius (read_before radius image policy) s t c)) out.first_column out.first_row
      → image_from_raw out image.format bytes ≡ cut result out
  squares-are bytes holds =
      generated_equal out image.format (pixels_from_raw out image.format bytes) (at result)
      (λ u v c there known.
      let column : out.first_column + (u - out.first_column) ≡ u = omega (arith, there.column) in
      let row : out.first_row + (v - out.first_row) ≡ v = omega (arith, there.row) in
      let value : ℕ → ℕ → ℕ = λ s t. square_value kind radius (square_samples radius (read_before radius image policy) s t c) in
      holds.samples (u - out.first_column) (v - out.first_row) c (omega (arith, there.column)) (omega (arith, there.row)) known
      ∙ ap (λ (n : ℕ). value n (out.first_row + (v - out.first_row))) column
      ∙ ap (λ (n : ℕ). value u n) row
      ∙ sym (result-at u v c there known))
      ∙ ap (λ (f : Format). image_from_fn out f (at result)) (sym format-is)

  pub no-squares : ((u v : ℕ) → ¬ Inside u v out) → image_from_fn out image.format (λ u v c. 0) ≡ cut result out
  no-squares none =
      generated_equal out image.format (λ u v c. 0) (at result) (λ u v c there known. absurd (none u v there))
      ∙ ap (λ (f : Format). image_from_fn out f (at result)) (sym format-is)

-- ---- where the result is

-- along one side, a number that is near to some
abbrev IsNearTo : ℕ → ℕ → ℕ → ℕ → Type 0
IsNearTo radius start len n = (start ≤ n + radius) × (n < start + len + radius) × (0 < len)

abbrev IsPositionNear : ℕ → Rectangle → ℕ → ℕ → Type 0
IsPositionNear radius box u v = IsNearTo radius box.first_column box.width u × IsNearTo radius box.first_row box.height v

inside-near : (radius : ℕ) (box : Rectangle) (u v : ℕ) → Inside u v box → IsPositionNear radius box u v
inside-near radius box u v there =
    ((omega (arith, there.column), omega (arith, there.column), omega (arith, there.column)), (omega (arith, there.row), omega (arith, there.row), omega (arith, there.row)))

limited : (r : Rectangle) (u v : ℕ) (b : Bool) → in_limits r ≡ b → Inside u v (unwrap_or (if_in_limits (Ok r)) empty) → Inside u v r
limited r u v true e there = rw e at there
limited r u v false e there = let nowhere : Inside u v empty = rw e at there in absurd (omega (arith, nowhere.column))

spanned-near : (radius : ℕ) (box : Rectangle) (u v : ℕ) → is_empty box ≡ false
    → Inside u v (spanning (box.first_column - radius) (box.first_row - radius) (end_column box + radius) (end_row box + radius)) → IsPositionNear radius box u v
spanned-near radius box u v some there =
    let wide : 0 < box.width = grind (arith, nat_tests) in
    let high : 0 < box.height = grind (arith, nat_tests) in
    let t = (Inside-spanning u v (box.first_column - radius) (box.first_row - radius) (end_column box + radius) (end_row box + radius)).0 there in
    ((omega (arith, t.0), omega (arith, t.1), wide), (omega (arith, t.2), omega (arith, t.3), high))

module _ (radius : ℕ) (box : Rectangle) (u v : ℕ) where
  made-near : (a b c : Bool) → is_empty box ≡ a
      → Inside u v (unwrap_or (if_in_limits (cond a (Ok box) (cond b (Err Place) (cond c (Err Size)
      (Ok (spanning (box.first_column - radius) (box.first_row - radius) (end_column box + radius) (end_row box + radius))))))) empty)
      → IsPositionNear radius box u v
  made-near true b c e there = inside-near radius box u v (limited box u v (in_limits box) refl there)
  made-near false true c e there = absurd (omega (arith, there.column))
  made-near false false true e there = absurd (omega (arith, there.column))
  made-near false false false e there =
      let r = spanning (box.first_column - radius) (box.first_row - radius) (end_column box + radius) (end_row box + radius) in
      spanned-near radius box u v e (limited r u v (in_limits r) refl there)

  area-near : (policy : Abyss) → Inside u v (unwrap_or (area_box radius policy box) empty) → IsPositionNear radius box u v
  area-near policies.None there =
      made-near (is_empty box) (ltb box.first_column radius || ltb box.first_row radius) (ltb plane_side (end_column box + radius) || ltb plane_side (end_row box + radius)) refl there
  area-near policies.Clamp there = inside-near radius box u v (limited box u v (in_limits box) refl there)
  area-near policies.Loop there = absurd (omega (arith, there.column))
  area-near policies.Black there = inside-near radius box u v (limited box u v (in_limits box) refl there)
  area-near policies.White there = inside-near radius box u v (limited box u v (in_limits box) refl there)

  kind-near : (kind : AreaKind) (policy : Abyss) → Inside u v (result_box int_meanings (operation_of kind radius policy) (box ∷ [])) → IsPositionNear radius box u v
  kind-near BoxMean policy there = area-near policy there
  kind-near Dilate policy there = area-near policy there
  kind-near Erode policy there = area-near policy there

-- a part of the result is near to the input's box
pub result-near : (kind : AreaKind) (radius : ℕ) (policy : Abyss) (box out : Rectangle)
    → Includes (result_box int_meanings (operation_of kind radius policy) (box ∷ [])) out → 0 < out.width → 0 < out.height → IsNear radius box out
result-near kind radius policy box out inside wide high =
    let first : Inside out.first_column out.first_row out = record { column = (omega arith, omega (arith, wide)); row = (omega arith, omega (arith, high)) } in
    let near = kind-near radius box out.first_column out.first_row kind policy (inside out.first_column out.first_row first) in
    record { columns = omega (arith, near.0, wide); rows = omega (arith, near.1, high) }

-- a part in one tile is small
pub few-columns : (tile : Tile) (out : Rectangle) → Includes (tile_square tile) out → 0 < out.width → 0 < out.height → (out.width ≤ 64) × (out.height ≤ 64)
few-columns tile out inside wide high =
    let first : Inside out.first_column out.first_row out = record { column = (omega arith, omega (arith, wide)); row = (omega arith, omega (arith, high)) } in
    let last : Inside (out.first_column + out.width - 1) (out.first_row + out.height - 1) out =
    record { column = (omega (arith, wide), omega (arith, wide)); row = (omega (arith, high), omega (arith, high)) } in
    let start = inside out.first_column out.first_row first in
    let stop = inside (out.first_column + out.width - 1) (out.first_row + out.height - 1) last in
    (omega (arith, start.column, stop.column, wide), omega (arith, start.row, stop.row, high))

-- ---- the parts that are made

module _ (kind : AreaKind) (radius : ℕ) (policy : Abyss) (image : Image) (out : Rectangle) (is : IsArea radius policy)
    (inside : Includes (result_box int_meanings (operation_of kind radius policy) (image.box ∷ [])) out) where
  -- what a kernel writes of so many columns and rows
  abbrev Writes : List ℕ → Format → ℕ → ℕ → ℕ → List ℕ → Type 0
  Writes bytes format r w h read =
      (f : ℕ → ℕ → ℕ → ℕ) (u v : ℕ) → HoldsPart format (w + 2 * r) (h + 2 * r) read f u v
      → HoldsPart format w h bytes (λ s t c. square_value kind r (square_samples r f s t c)) u v

  pub part-made : (format : Format) (r w h : ℕ) (old read bytes : List ℕ) → format ≡ image.format → r ≡ radius → w ≡ out.width → h ≡ out.height → old ≡ read
      → HoldsGrown image radius policy out read → Writes bytes format r w h old → image_from_raw out format bytes ≡ cut (result_of int_meanings (operation_of kind radius policy) (image ∷ [])) out
  part-made format r w h old read bytes its_format its_radius its_width its_height is_read held writes =
      let a = subst (λ (x : Format). Writes bytes x r w h old) its_format writes in
      let b = subst (λ (x : ℕ). Writes bytes image.format x w h old) its_radius a in
      let d = subst (λ (x : ℕ). Writes bytes image.format radius x h old) its_width b in
      let e = subst (λ (x : ℕ). Writes bytes image.format radius out.width x old) its_height d in
      let all = subst (λ (x : List ℕ). Writes bytes image.format radius out.width out.height x) is_read e in
      ap (λ (f : Format). image_from_raw out f bytes) its_format
      ∙ squares-are kind radius policy image out is inside bytes (all (read_before radius image policy) out.first_column out.first_row held.samples)

  pub nothing-made : {E : Type 0} (format : Format) (made : Result Image E) → format ≡ image.format → ((u v : ℕ) → ¬ Inside u v out)
      → IfOk made (λ patch. patch ≡ blank out format) → IfOk made (λ patch. patch ≡ cut (result_of int_meanings (operation_of kind radius policy) (image ∷ [])) out)
  nothing-made format (Ok patch) its_format none made =
      made ∙ ap (blank out) its_format ∙ no-squares kind radius policy image out is inside none
  nothing-made format (Err refused) its_format none made = tt

pub count-made : (out : Rectangle) (format : Format) (w h n : ℕ) → w ≡ out.width → h ≡ out.height → n ≡ depth format * (h * (w * channels format)) → n ≡ byte_count out format
count-made out format w h n its_width its_height is =
    is ∙ ap (λ (x : ℕ). depth format * (h * (x * channels format))) its_width ∙ ap (λ (x : ℕ). depth format * (x * (out.width * channels format))) its_height ∙ omega arith
