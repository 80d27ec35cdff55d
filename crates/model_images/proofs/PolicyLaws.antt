-- The laws of the policies.
use Rattle.std.proofs.Common.{◌≡◌, ℕ, ◌+◌, ◌<◌, ◌≤◌, Bool, true, false, cond, refl, sym, ap, ◌∙◌, arith}
use Rattle.plane_rect.specs.Rectangle.{Rectangle, Inside, Within}
use Rattle.pixel_formats.specs.Format.{max_sample}
use Rattle.pixel_formats.specs.Recolor.{is_alpha}
use Rattle.model_images.specs.Image.{Image, at}
use Rattle.model_images.proofs.Samples.{inside_where}
use Rattle.model_images.proofs.Laws.{at_outside}
use Rattle.pixel_formats.specs.declared.abyss.Abyss.{Abyss}
use Rattle.pixel_formats.specs.declared.abyss.Abyss.TheVariants.{None, Clamp, Loop, Black, White}
use Rattle.model_images.specs.Abyss.{abyss_at, outside_at, black_sample, nearest, wrapped}
use Rattle.model_images.specs.Policies.{MovesInside, empty_sample}
use Rattle.model_images.proofs.Positions.{by_positions, not_inside}
use Rattle.model_images.proofs.Sides.{nearest-within, nearest-inside, wrapped-within, wrapped-inside, wrapped-periodic}

pub abyss_at-inside : (image : Image) (policy : Abyss) (u v c : ℕ) → Inside u v image.box → abyss_at image policy u v c ≡ at image u v c
unfolding abyss_at
abyss_at-inside image policy u v c h = let there = inside_where u v image.box h in rw there refl

pub abyss_at-outside : (image : Image) (policy : Abyss) (u v c : ℕ) → ¬ Inside u v image.box → abyss_at image policy u v c ≡ outside_at image policy u v c
unfolding abyss_at
abyss_at-outside image policy u v c out = let nowhere = not_inside u v image.box out in rw nowhere refl

pub none-everywhere : (image : Image) (u v c : ℕ) → abyss_at image None u v c ≡ at image u v c
none-everywhere image u v c =
    by_positions _ u v image.box (abyss_at-inside image None u v c)
    (λ out. abyss_at-outside image None u v c out ∙ sym (at_outside image u v c out))

-- ---- policies that move a position into the box, its column and its row by one rule

-- the sample of the position that such a policy reads
abbrev pub moved_sample : (ℕ → ℕ → ℕ → ℕ) → Image → ℕ → ℕ → ℕ → ℕ
moved_sample moved image u v c = at image (moved image.box.first_column image.box.width u) (moved image.box.first_row image.box.height v) c

moved-everywhere : (policy : Abyss) (moved : ℕ → ℕ → ℕ → ℕ) → ((start len n : ℕ) → Within start len n → moved start len n ≡ n)
    → ((image : Image) (u v c : ℕ) → outside_at image policy u v c ≡ moved_sample moved image u v c)
    → (image : Image) (u v c : ℕ) → abyss_at image policy u v c ≡ moved_sample moved image u v c
moved-everywhere policy moved stays outside image u v c =
    by_positions _ u v image.box
    (λ h.
    let column = stays image.box.first_column image.box.width u h.column in
    let row = stays image.box.first_row image.box.height v h.row in
    abyss_at-inside image policy u v c h
    ∙ sym (ap (λ (a : ℕ). at image a (moved image.box.first_row image.box.height v) c) column ∙ ap (λ (b : ℕ). at image u b c) row))
    (λ out. abyss_at-outside image policy u v c out ∙ outside image u v c)

pub clamp-everywhere : (image : Image) (u v c : ℕ) → abyss_at image Clamp u v c ≡ moved_sample nearest image u v c
clamp-everywhere = moved-everywhere Clamp nearest nearest-inside (λ image u v c. refl)

pub clamp-position : (r : Rectangle) (u v : ℕ) → 0 < r.width → 0 < r.height → Inside (nearest r.first_column r.width u) (nearest r.first_row r.height v) r
clamp-position r u v wide high = record { column = nearest-within r.first_column r.width u wide; row = nearest-within r.first_row r.height v high }

pub loop-everywhere : (image : Image) (u v c : ℕ) → abyss_at image Loop u v c ≡ moved_sample wrapped image u v c
loop-everywhere = moved-everywhere Loop wrapped wrapped-inside (λ image u v c. refl)

pub loop-position : (r : Rectangle) (u v : ℕ) → 0 < r.width → 0 < r.height → Inside (wrapped r.first_column r.width u) (wrapped r.first_row r.height v) r
loop-position r u v wide high = record { column = wrapped-within r.first_column r.width u wide; row = wrapped-within r.first_row r.height v high }

pub clamp-moves : MovesInside Clamp nearest
clamp-moves = record { sample = clamp-everywhere; position = clamp-position }

pub loop-moves : MovesInside Loop wrapped
loop-moves = record { sample = loop-everywhere; position = loop-position }

pub loop-columns : (image : Image) (u v c : ℕ) → 0 < image.box.width → abyss_at image Loop (u + image.box.width) v c ≡ abyss_at image Loop u v c
loop-columns image u v c wide =
    loop-everywhere image (u + image.box.width) v c
    ∙ ap (λ (a : ℕ). at image a (wrapped image.box.first_row image.box.height v) c) (wrapped-periodic image.box.first_column image.box.width u wide)
    ∙ sym (loop-everywhere image u v c)

pub loop-rows : (image : Image) (u v c : ℕ) → 0 < image.box.height → abyss_at image Loop u (v + image.box.height) c ≡ abyss_at image Loop u v c
loop-rows image u v c high =
    loop-everywhere image u (v + image.box.height) c
    ∙ ap (λ (b : ℕ). at image (wrapped image.box.first_column image.box.width u) b c) (wrapped-periodic image.box.first_row image.box.height v high)
    ∙ sym (loop-everywhere image u v c)

pub black-color : (image : Image) (u v c : ℕ) → ¬ Inside u v image.box → is_alpha image.format c ≡ false → abyss_at image Black u v c ≡ 0
black-color image u v c out color = abyss_at-outside image Black u v c out ∙ rw color refl

pub black-alpha : (image : Image) (u v c : ℕ) → ¬ Inside u v image.box → is_alpha image.format c ≡ true → abyss_at image Black u v c ≡ max_sample image.format
black-alpha image u v c out alpha = abyss_at-outside image Black u v c out ∙ rw alpha refl

pub white-outside : (image : Image) (u v c : ℕ) → ¬ Inside u v image.box → abyss_at image White u v c ≡ max_sample image.format
white-outside image u v c out = abyss_at-outside image White u v c out

-- an image without a position
module _ (image : Image) (empty : (u v : ℕ) → ¬ Inside u v image.box) (u v c : ℕ) where
  pub none-empty : abyss_at image None u v c ≡ 0
  none-empty = abyss_at-outside image None u v c (empty u v)

  pub clamp-empty : abyss_at image Clamp u v c ≡ 0
  clamp-empty = clamp-everywhere image u v c ∙ at_outside image _ _ c (empty _ _)

  pub loop-empty : abyss_at image Loop u v c ≡ 0
  loop-empty = loop-everywhere image u v c ∙ at_outside image _ _ c (empty _ _)

  pub black-empty : abyss_at image Black u v c ≡ black_sample image.format c
  black-empty = abyss_at-outside image Black u v c (empty u v)

  pub white-empty : abyss_at image White u v c ≡ max_sample image.format
  white-empty = abyss_at-outside image White u v c (empty u v)

pub abyss_at-empty : (image : Image) (policy : Abyss) → ((u v : ℕ) → ¬ Inside u v image.box) → (u v c : ℕ)
    → abyss_at image policy u v c ≡ empty_sample image.format policy c
abyss_at-empty image None empty = none-empty image empty
abyss_at-empty image Clamp empty = clamp-empty image empty
abyss_at-empty image Loop empty = loop-empty image empty
abyss_at-empty image Black empty = black-empty image empty
abyss_at-empty image White empty = white-empty image empty

-- samples up to a number are read as such under each policy, where the number is the largest sample or above it
pub abyss_at-most : (image : Image) (policy : Abyss) (c most : ℕ) → max_sample image.format ≤ most → ((u v : ℕ) → at image u v c ≤ most)
    → (u v : ℕ) → abyss_at image policy u v c ≤ most
abyss_at-most image None c most room below u v = rw (none-everywhere image u v c) (below u v)
abyss_at-most image Clamp c most room below u v = rw (clamp-everywhere image u v c) (below _ _)
abyss_at-most image Loop c most room below u v = rw (loop-everywhere image u v c) (below _ _)
abyss_at-most image Black c most room below u v =
    by_positions _ u v image.box
    (λ h. rw (abyss_at-inside image Black u v c h) (below u v))
    (λ out. rw (abyss_at-outside image Black u v c out) (black (is_alpha image.format c)))
  where
    black : (b : Bool) → cond b (max_sample image.format) 0 ≤ most
    black true = room
    black false = omega arith
abyss_at-most image White c most room below u v =
    by_positions _ u v image.box
    (λ h. rw (abyss_at-inside image White u v c h) (below u v))
    (λ out. rw (abyss_at-outside image White u v c out) room)
