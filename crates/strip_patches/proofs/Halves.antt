-- Columns and rows that are halved several times.
use Rattle.std.proofs.Common.{◌≡◌, ℕ, zero, suc, ◌+◌, ◌-◌, ◌*◌, ◌/◌, ◌^◌, ◌≤◌, ◌↔◌, refl, sym, ap, ◌∙◌, arith}
use Rattle.plane_rect.specs.Rectangle.{Inside, IsRectangle, Rectangle, coarse, half, halved, origin}
use Rattle.plane_rect.specs.Tile.{tile_of}
use Rattle.plane_rect.proofs.Moved.{halved-positions}
use Rattle.plane_rect.proofs.RectangleLaws.{IsRectangle-halved}
use Rattle.model_images.specs.Image.{Image}
use Rattle.model_images.specs.Level.{below, halved_image, level, level_box, source_of_level}
use Rattle.model_images.proofs.AgreeingLevels.{Inside-below}
use Rattle.strip_patches.specs.LevelStrips.{halves}

pub halves-more : (n a b : ℕ) → halves (halves n a) b ≡ halves n (a + b)
unfolding halves
halves-more n a zero = let none : a ≡ a + 0 = omega arith in ap (halves n) none
halves-more n a (suc b) =
    let next : suc (a + b) ≡ a + suc b = omega arith in
    ap half (halves-more n a b) ∙ ap (halves n) next

pub level-more : (image : Image) (a b : ℕ) → level (level image a) b ≡ level image (a + b)
unfolding level
level-more image a zero = let none : a ≡ a + 0 = omega arith in ap (level image) none
level-more image a (suc b) =
    let next : suc (a + b) ≡ a + suc b = omega arith in
    ap halved_image (level-more image a b) ∙ ap (level image) next

pub box-more : (r : Rectangle) (a b : ℕ) → level_box (level_box r a) b ≡ level_box r (a + b)
box-more r a zero = let none : a ≡ a + 0 = omega arith in ap (level_box r) none
box-more r a (suc b) =
    let next : suc (a + b) ≡ a + suc b = omega arith in
    ap halved (box-more r a b) ∙ ap (level_box r) next

half-coarse : (z n : ℕ) → z ≤ 7 → half (coarse z n) ≡ coarse (suc z) n
half-coarse zero n h = omega arith
half-coarse (suc zero) n h = omega arith
half-coarse (suc (suc zero)) n h = omega arith
half-coarse (suc (suc (suc zero))) n h = omega arith
half-coarse (suc (suc (suc (suc zero)))) n h = omega arith
half-coarse (suc (suc (suc (suc (suc zero))))) n h = omega arith
half-coarse (suc (suc (suc (suc (suc (suc zero)))))) n h = omega arith
half-coarse (suc (suc (suc (suc (suc (suc (suc zero))))))) n h = omega arith
half-coarse (suc (suc (suc (suc (suc (suc (suc (suc k)))))))) n h = absurd (omega arith)

-- what is halved so many times is divided
pub coarse-halves : (z n : ℕ) → z ≤ 8 → halves n z ≡ coarse z n
unfolding halves
coarse-halves zero n h = omega arith
coarse-halves (suc z) n h = ap half (coarse-halves z n (omega (arith, h))) ∙ half-coarse z n (omega (arith, h))

-- numbers that are divided to one are of one tile, up to 64
one-line : (z m n : ℕ) → z ≤ 6 → coarse z m ≡ coarse z n → tile_of m ≡ tile_of n
one-line zero m n h e = omega (arith, e)
one-line (suc zero) m n h e = omega (arith, e)
one-line (suc (suc zero)) m n h e = omega (arith, e)
one-line (suc (suc (suc zero))) m n h e = omega (arith, e)
one-line (suc (suc (suc (suc zero)))) m n h e = omega (arith, e)
one-line (suc (suc (suc (suc (suc zero))))) m n h e = omega (arith, e)
one-line (suc (suc (suc (suc (suc (suc zero)))))) m n h e = omega (arith, e)
one-line (suc (suc (suc (suc (suc (suc (suc k))))))) m n h e = absurd (omega arith)

pub same-line : (z m n : ℕ) → z ≤ 6 → halves m z ≡ halves n z → tile_of m ≡ tile_of n
same-line z m n h e = one-line z m n h (sym (coarse-halves z m (omega (arith, h))) ∙ e ∙ coarse-halves z n (omega (arith, h)))

-- the first column or row of which one is divided
abbrev pub first_coarse : ℕ → ℕ
first_coarse z = origin - origin / 2 ^ z

-- each from there on is one that was divided
divided : (z p : ℕ) → z ≤ 8 → first_coarse z ≤ p → (u : ℕ) × (coarse z u ≡ p)
divided zero p h from = (p, omega (arith, from))
divided (suc zero) p h from = (2 * (p - first_coarse 1), omega (arith, from))
divided (suc (suc zero)) p h from = (4 * (p - first_coarse 2), omega (arith, from))
divided (suc (suc (suc zero))) p h from = (8 * (p - first_coarse 3), omega (arith, from))
divided (suc (suc (suc (suc zero)))) p h from = (16 * (p - first_coarse 4), omega (arith, from))
divided (suc (suc (suc (suc (suc zero))))) p h from = (32 * (p - first_coarse 5), omega (arith, from))
divided (suc (suc (suc (suc (suc (suc zero)))))) p h from = (64 * (p - first_coarse 6), omega (arith, from))
divided (suc (suc (suc (suc (suc (suc (suc zero))))))) p h from = (128 * (p - first_coarse 7), omega (arith, from))
divided (suc (suc (suc (suc (suc (suc (suc (suc zero)))))))) p h from = (256 * (p - first_coarse 8), omega (arith, from))
divided (suc (suc (suc (suc (suc (suc (suc (suc (suc k))))))))) p h from = absurd (omega arith)

pub reached : (z p : ℕ) → z ≤ 8 → first_coarse z ≤ p → (u : ℕ) × (halves u z ≡ p)
reached z p h from = let found = divided z p h from in (found.0, coarse-halves z found.0 h ∙ found.1)

-- ---- rectangles

pub IsRectangle-level_box : (r : Rectangle) (z : ℕ) → IsRectangle r → IsRectangle (level_box r z)
IsRectangle-level_box r zero is = is
IsRectangle-level_box r (suc z) is = IsRectangle-halved (level_box r z) (IsRectangle-level_box r z is)

-- a position of a rectangle that was halved is that of one of its positions
pub box-positions : (z p q : ℕ) (r : Rectangle) → IsRectangle r
    → Inside p q (level_box r z) ↔ ((u : ℕ) × (v : ℕ) × Inside u v r × (p ≡ halves u z) × (q ≡ halves v z))
unfolding halves
box-positions zero p q r is = (λ h. (p, q, h, refl, refl), λ h. rw (h.3, h.4) h.2)
box-positions (suc z) p q r is =
    let here = halved-positions p q (level_box r z) (IsRectangle-level_box r z is) in (
      λ h. let found = here.0 h in
          let below = (box-positions z found.0 found.1 r is).0 found.2 in
          (below.0, below.1, below.2, found.3 ∙ ap half below.3, found.4 ∙ ap half below.4),
      λ h. here.1 (halves h.0 z, halves h.1 z, (box-positions z (halves h.0 z) (halves h.1 z) r is).1 (h.0, h.1, h.2, refl, refl), h.3, h.4),
    )

-- what is averaged for a rectangle of a level
pub source-positions : (z u v : ℕ) (r : Rectangle) → Inside u v (source_of_level r z) ↔ Inside (halves u z) (halves v z) r
unfolding halves
source-positions zero u v r = (λ h. h, λ h. h)
source-positions (suc z) u v r =
    let before = source-positions z u v (below r) in
    let here = Inside-below (halves u z) (halves v z) r in
    (λ h. here.0 (before.0 h), λ h. before.1 (here.1 h))
