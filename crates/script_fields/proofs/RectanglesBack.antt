-- A printed rectangle is read as the rectangle, and what is read is one that the command may have.
use Rattle.std.proofs.Common.{◌≡◌, ℕ, pos, ◌+◌, ◌^◌, ◌≤◌, nat_le, IsTrue, is_some, ◌&&◌, Bool, true, false, Result, Ok, Err, refl, sym, ap, ◌∙◌, subst, inl, inr, ◌⊎◌, arith}
use Rattle.std.proofs.lemmas.Bool.{le-leb, leb-true}
use Rattle.std.proofs.lemmas.Int.{ints}
use Rattle.plane_rect.specs.Rectangle.{IsCoordinate, IsExtent, IsNoCoordinate, IsNoExtent, IsRectangle, Rectangle, in_limits, is_coordinate, is_extent, new_rectangle, plane_coordinate, plane_index, rectangle, scaled}
use Rattle.plane_rect.specs.declared.rect.RectRefused.{RectRefused}
use Rattle.plane_rect.proofs.Rectangles.{coordinate_test, extent_test, rectangle-some, some_or_empty}
use Rattle.pixel_formats.specs.Limits.{max_frames, max_level, max_viewers}
use Rattle.script_words.proofs.Passing.{and_both, and_first, and_second}
use Rattle.script_fields.specs.Fields.{◌>>=◌, level_rect_of, passed, rect_in_limits, rect_of, watched_rect_of}
use Rattle.script_fields.specs.Limits.{IsLevelRect, may_watch}
use Rattle.script_fields.specs.declared.cause.ScriptCause.{ScriptCause}
use Rattle.script_fields.specs.declared.cause.ScriptCause.TheVariants as causes
use Rattle.script_fields.specs.declared.rectangles.RectNumbers.{RectNumbers}

-- the numbers of a rectangle
abbrev pub rect_numbers_of : Rectangle → RectNumbers
rect_numbers_of rect = record { x = plane_coordinate rect.first_column; y = plane_coordinate rect.first_row; w = pos rect.width; h = pos rect.height }

plane_index-plane_coordinate : (n : ℕ) → plane_index (plane_coordinate n) ≡ n
plane_index-plane_coordinate n = grind (arith, ints)

is_coordinate-column : (n : ℕ) → n ≤ 2 ^ 25 → is_coordinate (plane_coordinate n) ≡ true
is_coordinate-column n maximum = by_test (coordinate_test (plane_coordinate n))
  where
    by_test : (IsTrue (is_coordinate (plane_coordinate n)) × IsCoordinate (plane_coordinate n)) ⊎ ((is_coordinate (plane_coordinate n) ≡ false) × IsNoCoordinate (plane_coordinate n)) → is_coordinate (plane_coordinate n) ≡ true
    by_test (inl passes) = passes.0
    by_test (inr other) = absurd (elim other.1 [ inl low ↦ omega (arith, ints) | inr high ↦ omega (arith, ints) ])

is_extent-side : (n len : ℕ) → n + len ≤ 2 ^ 25 → is_extent (plane_coordinate n) (pos len) ≡ true
is_extent-side n len maximum = by_test (extent_test (plane_coordinate n) (pos len))
  where
    by_test : (IsTrue (is_extent (plane_coordinate n) (pos len)) × IsExtent (plane_coordinate n) (pos len)) ⊎ ((is_extent (plane_coordinate n) (pos len) ≡ false) × IsNoExtent (plane_coordinate n) (pos len)) → is_extent (plane_coordinate n) (pos len) ≡ true
    by_test (inl passes) = passes.0
    by_test (inr other) = absurd (elim other.1 [ inl low ↦ omega (arith, ints) | inr high ↦ omega (arith, ints) ])

rectangle-fields : (rect : Rectangle) → IsRectangle rect → rectangle rect.first_column rect.first_row rect.width rect.height ≡ rect
rectangle-fields rect is = elim (some_or_empty rect is) [
  | inl some ↦ rectangle-some rect.first_column rect.first_row rect.width rect.height some.0 some.1
  | inr none ↦ subst (λ (r : Rectangle). rectangle r.first_column r.first_row r.width r.height ≡ r) (sym none) refl
]

new_rectangle-numbers : (rect : Rectangle) → IsRectangle rect → new_rectangle (plane_coordinate rect.first_column) (plane_coordinate rect.first_row) (pos rect.width) (pos rect.height) ≡ Ok rect
new_rectangle-numbers rect is =
    let columns : rect.first_column + rect.width ≤ 2 ^ 25 = is.columns in
    let rows : rect.first_row + rect.height ≤ 2 ^ 25 = is.rows in
    rw (
      is_coordinate-column rect.first_column (omega arith),
      is_coordinate-column rect.first_row (omega arith),
      is_extent-side rect.first_column rect.width columns,
      is_extent-side rect.first_row rect.height rows,
      plane_index-plane_coordinate rect.first_column,
      plane_index-plane_coordinate rect.first_row,
    ) (ap Ok (rectangle-fields rect is))

pub rect_of-numbers : (rect : Rectangle) → IsRectangle rect → IsTrue (in_limits rect) → rect_of (rect_numbers_of rect) ≡ Ok rect
unfolding rect_in_limits
rect_of-numbers rect is limits =
    ap rect_in_limits (new_rectangle-numbers rect is) ∙ ap (λ (test : Bool). passed test causes.Rect rect) limits

pub level_rect_of-numbers : (level : ℕ) (rect : Rectangle) → IsRectangle rect → IsLevelRect level rect → level_rect_of level (rect_numbers_of rect) ≡ Ok rect
unfolding level_rect_of
level_rect_of-numbers level rect is limits =
    ap (λ (read : Result Rectangle ScriptCause). read >>= (λ (r : Rectangle). passed (nat_le level max_level && is_some (scaled level r)) causes.Rect r))
    (rect_of-numbers rect is limits.limits)
    ∙ ap (λ (test : Bool). passed test causes.Rect rect) (and_both (nat_le level max_level) (is_some (scaled level rect)) (le-leb level max_level limits.range) limits.scaled)

pub watched_rect_of-numbers : (viewers frames : ℕ) (rect : Rectangle) → IsRectangle rect → IsTrue (in_limits rect) → viewers ≤ max_viewers → frames ≤ max_frames
    → IsTrue (may_watch viewers frames rect) → watched_rect_of viewers frames (rect_numbers_of rect) ≡ Ok rect
unfolding watched_rect_of
watched_rect_of-numbers viewers frames rect is limits few_viewers few_frames watched =
    ap
    (λ (read : Result Rectangle ScriptCause). read
    >>= (λ (r : Rectangle). passed (nat_le viewers max_viewers && nat_le frames max_frames && may_watch viewers frames r) causes.Rect r))
    (rect_of-numbers rect is limits)
    ∙ ap (λ (test : Bool). passed test causes.Rect rect)
    (and_both (nat_le viewers max_viewers && nat_le frames max_frames) (may_watch viewers frames rect)
    (and_both (nat_le viewers max_viewers) (nat_le frames max_frames) (le-leb viewers max_viewers few_viewers) (le-leb frames max_frames few_frames)) watched)

-- ---- what is made is in limits

made-rect : (made : Result Rectangle RectRefused) (rect : Rectangle) → rect_in_limits made ≡ Ok rect → IsTrue (in_limits rect)
unfolding rect_in_limits
made-rect (Err refused) rect is = absurd (cc)
made-rect (Ok one) rect is = by_test (in_limits one) refl is
  where
    by_test : (test : Bool) → in_limits one ≡ test → passed test causes.Rect one ≡ Ok rect → IsTrue (in_limits rect)
    by_test false out is = absurd (cc)
    by_test true within is =
        let same : one ≡ rect = cc in
        subst (λ (r : Rectangle). IsTrue (in_limits r)) same within

pub rect_of-in_limits : (numbers : RectNumbers) (rect : Rectangle) → rect_of numbers ≡ Ok rect → IsTrue (in_limits rect)
rect_of-in_limits numbers rect is = made-rect (new_rectangle numbers.x numbers.y numbers.w numbers.h) rect is

-- a rectangle that a further test lets pass passes both
passed-both : (read : Result Rectangle ScriptCause) (test : Rectangle → Bool) (rect : Rectangle) → (read >>= λ r. passed (test r) causes.Rect r) ≡ Ok rect → (read ≡ Ok rect) × IsTrue (test rect)
passed-both (Err cause) test rect is = absurd (cc)
passed-both (Ok one) test rect is =
    let both = by_test (test one) refl is in
    (ap Ok both.0, both.1)
  where
    by_test : (ok : Bool) → test one ≡ ok → passed ok causes.Rect one ≡ Ok rect → (one ≡ rect) × IsTrue (test rect)
    by_test false out is = absurd (cc)
    by_test true passes is =
        let same : one ≡ rect = cc in
        (same, subst (λ (r : Rectangle). IsTrue (test r)) same passes)

pub level_rect_of-in_limits : (level : ℕ) (numbers : RectNumbers) (rect : Rectangle) → level_rect_of level numbers ≡ Ok rect → IsLevelRect level rect
unfolding level_rect_of
level_rect_of-in_limits level numbers rect is =
    let both = passed-both (rect_of numbers) (λ (r : Rectangle). nat_le level max_level && is_some (scaled level r)) rect is in
    record {
      range = leb-true level max_level (and_first _ _ both.1);
      limits = rect_of-in_limits numbers rect both.0;
      scaled = and_second (nat_le level max_level) _ both.1;
    }

pub watched_rect_of-in_limits : (viewers frames : ℕ) (numbers : RectNumbers) (rect : Rectangle) → watched_rect_of viewers frames numbers ≡ Ok rect → IsTrue (in_limits rect) × IsTrue (may_watch viewers frames rect)
unfolding watched_rect_of
watched_rect_of-in_limits viewers frames numbers rect is =
    let both = passed-both (rect_of numbers) (λ (r : Rectangle). nat_le viewers max_viewers && nat_le frames max_frames && may_watch viewers frames r) rect is in
    (rect_of-in_limits numbers rect both.0, and_second (nat_le viewers max_viewers && nat_le frames max_frames) _ both.1)

-- ---- the only cause

-- a reading has no other cause than a rectangle that is refused
abbrev pub HasRectCause : {A : Type 0} → Result A ScriptCause → Type 0
HasRectCause (Ok value) = Unit {0}
HasRectCause (Err cause) = cause ≡ causes.Rect

passed-cause : (test : Bool) (rect : Rectangle) → HasRectCause (passed test causes.Rect rect)
passed-cause true rect = tt
passed-cause false rect = refl

limits-cause : (made : Result Rectangle RectRefused) → HasRectCause (rect_in_limits made)
unfolding rect_in_limits
limits-cause (Ok rect) = passed-cause (in_limits rect) rect
limits-cause (Err refused) = refl

pub rect_of-cause : (numbers : RectNumbers) → HasRectCause (rect_of numbers)
rect_of-cause numbers = limits-cause (new_rectangle numbers.x numbers.y numbers.w numbers.h)

onward-cause : (read : Result Rectangle ScriptCause) (test : Rectangle → Bool) → HasRectCause read → HasRectCause (read >>= λ r. passed (test r) causes.Rect r)
onward-cause (Ok rect) test has = passed-cause (test rect) rect
onward-cause (Err cause) test has = has

pub level_rect_of-cause : (level : ℕ) (numbers : RectNumbers) → HasRectCause (level_rect_of level numbers)
unfolding level_rect_of
level_rect_of-cause level numbers = onward-cause (rect_of numbers) (λ (r : Rectangle). nat_le level max_level && is_some (scaled level r)) (rect_of-cause numbers)

pub watched_rect_of-cause : (viewers frames : ℕ) (numbers : RectNumbers) → HasRectCause (watched_rect_of viewers frames numbers)
unfolding watched_rect_of
watched_rect_of-cause viewers frames numbers =
    onward-cause (rect_of numbers) (λ (r : Rectangle). nat_le viewers max_viewers && nat_le frames max_frames && may_watch viewers frames r) (rect_of-cause numbers)
