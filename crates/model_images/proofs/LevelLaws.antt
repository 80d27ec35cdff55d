-- The laws of levels.
use Rattle.std.proofs.Common.{◌≡◌, ℕ, zero, suc, ◌+◌, ◌-◌, ◌/◌, ◌<◌, ◌≤◌, ◌↔◌, ◌⊎◌, inl, inr, refl, sym, ap, ◌∙◌, subst, arith}
use Rattle.std.proofs.lemmas.Nat.{mul-le}
use Rattle.std.proofs.lemmas.Bool.{cases_lt}
use Rattle.plane_rect.specs.Rectangle.{origin, Rectangle, Inside, InsideHalved, IsRectangle, InLimits, empty, half, halved, area, end_column, end_row}
use Rattle.plane_rect.proofs.Moved.{halved-positions}
use Rattle.plane_rect.proofs.Rectangles.{Inside-spanning, rectangle-some, some_or_empty}
use Rattle.plane_rect.proofs.RectangleLaws.{IsRectangle-halved}
use Rattle.pixel_formats.specs.Format.{channels}
use Rattle.pixel_formats.specs.declared.format.Format.{Format}
use Rattle.model_images.specs.Agreement.{AgreeOutside}
use Rattle.model_images.specs.Image.{Image, IsImage, at}
use Rattle.model_images.proofs.Laws.{IsImage-image_from_fn, at-image_from_fn, at_no_channel, at_outside}
use Rattle.model_images.proofs.Positions.{by_positions}
use Rattle.model_images.specs.Level.{doubled, mean_at, halved_image, level}

pub level-zero : (image : Image) → level image 0 ≡ image
unfolding level
level-zero image = refl

pub level-next : (image : Image) (z : ℕ) → level image (z + 1) ≡ halved_image (level image z)
unfolding level
level-next image z = let next : z + 1 ≡ suc z = omega arith in ap (level image) next

pub IsImage-level : (image : Image) (z : ℕ) → IsImage image → IsImage (level image z)
unfolding level
IsImage-level image zero whole = whole
IsImage-level image (suc z) whole = IsImage-image_from_fn (halved (level image z).box) (level image z).format (mean_at (level image z))

pub level-format : (image : Image) (z : ℕ) → (level image z).format ≡ image.format
unfolding level
level-format image zero = refl
level-format image (suc z) = level-format image z

pub IsRectangle-level : (image : Image) (z : ℕ) → IsRectangle image.box → IsRectangle (level image z).box
unfolding level
IsRectangle-level image zero is = is
IsRectangle-level image (suc z) is = IsRectangle-halved (level image z).box (IsRectangle-level image z is)

pub at-halved_image : (image : Image) (u v c : ℕ) → Inside u v (halved image.box) → c < channels image.format → at (halved_image image) u v c ≡ mean_at image u v c
at-halved_image image u v c h k = at-image_from_fn (halved image.box) image.format (mean_at image) u v c h k

pub halved_image-even : (image : Image) (u v c sample : ℕ) → Inside u v (halved image.box) → c < channels image.format
    → at image (doubled u) (doubled v) c ≡ sample → at image (doubled u + 1) (doubled v) c ≡ sample
    → at image (doubled u) (doubled v + 1) c ≡ sample → at image (doubled u + 1) (doubled v + 1) c ≡ sample
    → at (halved_image image) u v c ≡ sample
halved_image-even image u v c sample h k p q r s =
    at-halved_image image u v c h k ∙ omega (arith, p, q, r, s)

pub halved_image-positions : (image : Image) (u v : ℕ) → IsRectangle image.box → Inside u v (halved_image image).box ↔ InsideHalved u v image.box
halved_image-positions image u v is = halved-positions u v image.box is

pub one_of_four : (n : ℕ) → (n ≡ doubled (half n)) ⊎ (n ≡ doubled (half n) + 1)
one_of_four n = grind arith

-- a rectangle of the plane has a position, and then its half has, but no more columns or rows
halved-some : (r : Rectangle) → 0 < r.width → 0 < r.height
    → (0 < (halved r).width) × ((halved r).width ≤ r.width) × (0 < (halved r).height) × ((halved r).height ≤ r.height)
halved-some r w h =
    let some = rectangle-some (half r.first_column) (half r.first_row) (half (end_column r + 1) - half r.first_column) (half (end_row r + 1) - half r.first_row) (omega arith) (omega arith) in
    rw some (omega arith, omega arith, omega arith, omega arith)

halved-empty : (r : Rectangle) → IsRectangle r → (halved r ≡ empty) ↔ (r ≡ empty)
halved-empty r is = elim (some_or_empty r is) [
  | inl some ↦
      let half_has = halved-some r some.0 some.1 in
      (λ e. absurd (omega (arith, half_has, ap (λ (q : Rectangle). q.width) e)), λ e. absurd (omega (arith, some, ap (λ (q : Rectangle). q.width) e)))
  | inr none ↦ (λ _. none, λ _. subst (λ (q : Rectangle). halved q ≡ empty) (sym none) refl)
]

pub InLimits-halved : (r : Rectangle) → IsRectangle r → InLimits r → InLimits (halved r)
InLimits-halved r is small = elim (some_or_empty r is) [
  | inl some ↦
      let less = halved-some r some.0 some.1 in
      let fewer : area (halved r) ≤ area r = mul-le (halved r).width (halved r).height r.width r.height less.1 less.3 in
      (omega (arith, less, small), omega (arith, less, small), omega (arith, fewer, small))
  | inr none ↦ subst (λ (q : Rectangle). InLimits (halved q)) (sym none) (omega arith, omega arith, omega arith)
]

pub InLimits-level : (image : Image) (z : ℕ) → IsRectangle image.box → InLimits image.box → InLimits (level image z).box
unfolding level
InLimits-level image zero is small = small
InLimits-level image (suc z) is small = InLimits-halved (level image z).box (IsRectangle-level image z is) (InLimits-level image z is small)

pub empty-level : (image : Image) (z : ℕ) → IsRectangle image.box → ((level image z).box ≡ empty) ↔ (image.box ≡ empty)
unfolding level
empty-level image zero is = (λ e. e, λ e. e)
empty-level image (suc z) is =
    let here = halved-empty (level image z).box (IsRectangle-level image z is) in
    let before = empty-level image z is in
    (λ e. before.0 (here.0 e), λ e. here.1 (before.1 e))

-- ---- how great the samples are

halved_image-most : (image : Image) (c most : ℕ) → ((u v : ℕ) → at image u v c ≤ most) → (u v : ℕ) → at (halved_image image) u v c ≤ most
halved_image-most image c most below u v = elim (cases_lt c (channels image.format)) [
  | inl k ↦ by_positions _ u v (halved image.box)
      (λ h. rw (at-halved_image image u v c h k) (omega (
        arith,
        below (doubled u) (doubled v),
        below (doubled u + 1) (doubled v),
        below (doubled u) (doubled v + 1),
        below (doubled u + 1) (doubled v + 1),
      )))
      (λ out. rw (at_outside (halved_image image) u v c out) (omega arith))
  | inr beyond ↦ rw (at_no_channel (halved_image image) u v c beyond) (omega arith)
]

pub level-most : (image : Image) (z c most : ℕ) → ((u v : ℕ) → at image u v c ≤ most) → (u v : ℕ) → at (level image z) u v c ≤ most
unfolding level
level-most image zero c most below = below
level-most image (suc z) c most below = halved_image-most (level image z) c most (level-most image z c most below)

-- ---- where a halved image changes

-- the half of each of the four positions of a position is that position
pub half-of_four : (n m : ℕ) → origin / 2 ≤ n → (m ≡ doubled n) ⊎ (m ≡ doubled n + 1) → n ≡ half m
half-of_four n m after (inl e) = omega arith
half-of_four n m after (inr e) = omega arith

halved_image-local : (a b : Image) (r : Rectangle) → a.box ≡ b.box → a.format ≡ b.format → IsRectangle r
    → ((u v c : ℕ) → ¬ Inside u v r → at a u v c ≡ at b u v c)
    → (u v c : ℕ) → ¬ Inside u v (halved r) → at (halved_image a) u v c ≡ at (halved_image b) u v c
halved_image-local a b r box format is same u v c out =
    by_positions _ u v (halved a.box)
    (λ h. elim (cases_lt c (channels a.format)) [
      | inl k ↦
          at-halved_image a u v c h k
          ∙ means h
          ∙ sym (at-halved_image b u v c (subst (λ (q : Rectangle). Inside u v (halved q)) box h) (subst (λ (f : Format). c < channels f) format k))
      | inr beyond ↦
          at_no_channel (halved_image a) u v c beyond
          ∙ sym (at_no_channel (halved_image b) u v c (subst (λ (f : Format). channels f ≤ c) format beyond))
    ])
    (λ none. at_outside (halved_image a) u v c none ∙ sym (at_outside (halved_image b) u v c (subst (λ (q : Rectangle). ¬ Inside u v (halved q)) box none)))
  where
    means : Inside u v (halved a.box) → mean_at a u v c ≡ mean_at b u v c
    means h =
        let spans = (Inside-spanning u v (half a.box.first_column) (half a.box.first_row) (half (end_column a.box + 1)) (half (end_row a.box + 1))).0 h in
        let equal : (m n : ℕ) → (m ≡ doubled u) ⊎ (m ≡ doubled u + 1) → (n ≡ doubled v) ⊎ (n ≡ doubled v + 1) → at a m n c ≡ at b m n c =
        λ m n p q. same m n c (λ there. out ((halved-positions u v r is).1 (m, n, there, half-of_four u m (omega (arith, spans)) p, half-of_four v n (omega (arith, spans)) q))) in
        let upper_left = equal (doubled u) (doubled v) (inl refl) (inl refl) in
        let upper_right = equal (doubled u + 1) (doubled v) (inr refl) (inl refl) in
        let lower_left = equal (doubled u) (doubled v + 1) (inl refl) (inr refl) in
        let lower_right = equal (doubled u + 1) (doubled v + 1) (inr refl) (inr refl) in
        rw (upper_left, upper_right, lower_left, lower_right) refl

pub halved_images-agree : (a b : Image) (r : Rectangle) → IsRectangle r → AgreeOutside a b r → AgreeOutside (halved_image a) (halved_image b) (halved r)
halved_images-agree a b r is agreed = record {
  box = ap halved agreed.box;
  format = agreed.format;
  samples = halved_image-local a b r agreed.box agreed.format is agreed.samples;
}
