-- The test that two operations are one.
use Rattle.std.proofs.Common.{◌≡◌, ℕ, Bool, true, false, ◌&&◌, eqb, refl}
use Rattle.std.specs.Ordering.{int_eq}
use Rattle.std.specs.Str.{bytes_eq}
use Rattle.std.proofs.lemmas.Bool.Decides.{Decides-eqb, Decides-int_eq}
use Rattle.std.proofs.lemmas.Slice.Eq.{bytes_eq-Decides}
use Rattle.plane_rect.specs.Rectangle.{same_rectangle}
use Rattle.plane_rect.specs.SameRectangle.{same_rectangle-itself, same_rectangle-true}
use Rattle.pixel_formats.specs.Format.{same_format}
use Rattle.pixel_formats.specs.declared.abyss.Abyss.{Abyss}
use Rattle.pixel_formats.specs.declared.abyss.Abyss.TheVariants as policies
use Rattle.pixel_formats.proofs.FormatLaws.{Decides-same_format}
use Rattle.model_images.proofs.Tests.{both}
use Rattle.model_operations.specs.declared.operation.IntOp.{IntOp}
use Rattle.model_operations.specs.declared.operation.IntOp.TheVariants.{Color, Checker, Convert, Invert, Threshold, Gain, Translate, Crop, Flip, BoxMean, Dilate, Erode, Add, Over, Mask}
use Rattle.model_graphs.specs.Laws.{IsEquality}
use Rattle.model_operations.specs.Meanings.{same_direction, same_operation, same_policy}

-- ---- arguments

policy-stated : (a b : Abyss) → same_policy a b ≡ true → a ≡ b
policy-stated policies.None policies.None e = refl
policy-stated policies.Clamp policies.Clamp e = refl
policy-stated policies.Loop policies.Loop e = refl
policy-stated policies.Black policies.Black e = refl
policy-stated policies.White policies.White e = refl
policy-stated _ _ e = absurd (cc)

policy-itself : (a : Abyss) → same_policy a a ≡ true
policy-itself policies.None = refl
policy-itself policies.Clamp = refl
policy-itself policies.Loop = refl
policy-itself policies.Black = refl
policy-itself policies.White = refl

direction-stated : (a b : Bool) → same_direction a b ≡ true → a ≡ b
direction-stated true true e = refl
direction-stated false false e = refl
direction-stated true false e = absurd (cc)
direction-stated false true e = absurd (cc)

direction-itself : (a : Bool) → same_direction a a ≡ true
direction-itself true = refl
direction-itself false = refl

number-itself : (n : ℕ) → eqb n n ≡ true
number-itself n = (Decides-eqb n n).1 refl

-- an area's radius and policy
area-stated : (n m : ℕ) (a b : Abyss) → (eqb n m && same_policy a b) ≡ true → (n ≡ m) × (a ≡ b)
area-stated n m a b e =
    let tests = both (eqb n m) (same_policy a b) e in
    ((Decides-eqb n m).0 tests.0, policy-stated a b tests.1)

area-itself : (n : ℕ) (a : Abyss) → (eqb n n && same_policy a a) ≡ true
area-itself n a = rw (number-itself n, policy-itself a) refl

-- ---- operations

pub stated : (f g : IntOp) → same_operation f g ≡ true → f ≡ g
stated (Color f r s) (Color g q t) e =
    let tests = both (same_format f g && same_rectangle r q) (bytes_eq s t) e in
    let first = both (same_format f g) (same_rectangle r q) tests.0 in
    let format : f ≡ g = (Decides-same_format f g).0 first.0 in
    let rectangle : r ≡ q = same_rectangle-true r q first.1 in
    let samples : s ≡ t = (bytes_eq-Decides s t).0 tests.1 in
    cc
stated (Checker f r n a b) (Checker g q m c d) e =
    let tests = both (same_format f g && same_rectangle r q && eqb n m && eqb a c) (eqb b d) e in
    let fourth = both (same_format f g && same_rectangle r q && eqb n m) (eqb a c) tests.0 in
    let third = both (same_format f g && same_rectangle r q) (eqb n m) fourth.0 in
    let first = both (same_format f g) (same_rectangle r q) third.0 in
    let format : f ≡ g = (Decides-same_format f g).0 first.0 in
    let rectangle : r ≡ q = same_rectangle-true r q first.1 in
    let size : n ≡ m = (Decides-eqb n m).0 third.1 in
    let one : a ≡ c = (Decides-eqb a c).0 fourth.1 in
    let other : b ≡ d = (Decides-eqb b d).0 tests.1 in
    cc
stated (Convert f) (Convert g) e = let format : f ≡ g = (Decides-same_format f g).0 e in cc
stated Invert Invert e = refl
stated (Threshold a) (Threshold b) e = let at : a ≡ b = (Decides-eqb a b).0 e in cc
stated (Gain a b) (Gain c d) e =
    let tests = both (eqb a c) (eqb b d) e in
    let one : a ≡ c = (Decides-eqb a c).0 tests.0 in
    let other : b ≡ d = (Decides-eqb b d).0 tests.1 in
    cc
stated (Translate a b) (Translate c d) e =
    let tests = both (int_eq a c) (int_eq b d) e in
    let one : a ≡ c = (Decides-int_eq a c).0 tests.0 in
    let other : b ≡ d = (Decides-int_eq b d).0 tests.1 in
    cc
stated (Crop r) (Crop q) e = let rectangle : r ≡ q = same_rectangle-true r q e in cc
stated (Flip a) (Flip b) e = let direction : a ≡ b = direction-stated a b e in cc
stated (BoxMean n a) (BoxMean m b) e = let same = area-stated n m a b e in cc
stated (Dilate n a) (Dilate m b) e = let same = area-stated n m a b e in cc
stated (Erode n a) (Erode m b) e = let same = area-stated n m a b e in cc
stated Add Add e = refl
stated Over Over e = refl
stated Mask Mask e = refl
stated _ _ e = absurd (cc)

itself : (f : IntOp) → same_operation f f ≡ true
itself (Color f r s) = rw ((Decides-same_format f f).1 refl, same_rectangle-itself r, (bytes_eq-Decides s s).1 refl) refl
itself (Checker f r n a b) = rw ((Decides-same_format f f).1 refl, same_rectangle-itself r, number-itself n, number-itself a, number-itself b) refl
itself (Convert f) = (Decides-same_format f f).1 refl
itself Invert = refl
itself (Threshold a) = number-itself a
itself (Gain a b) = rw (number-itself a, number-itself b) refl
itself (Translate a b) = rw ((Decides-int_eq a a).1 refl, (Decides-int_eq b b).1 refl) refl
itself (Crop r) = same_rectangle-itself r
itself (Flip a) = direction-itself a
itself (BoxMean n a) = area-itself n a
itself (Dilate n a) = area-itself n a
itself (Erode n a) = area-itself n a
itself Add = refl
itself Over = refl
itself Mask = refl

pub is_equality : IsEquality same_operation
is_equality = record { apart = stated; itself = itself }
