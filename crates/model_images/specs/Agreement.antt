-- Images that agree.
use Rattle.std.specs.Prelude.{◌≡◌, ◌⊎◌, ℕ}
use Rattle.plane_rect.specs.Rectangle.{Rectangle, Inside}
use Rattle.model_images.specs.Image.{Image, at}

-- Two images have one box and one format, and the same samples at each position outside a rectangle.
pub record AgreeOutside (a b : Image) (r : Rectangle) : Type 0 where
  pub box : a.box ≡ b.box
  pub format : a.format ≡ b.format
  pub samples : (u v c : ℕ) → (Inside u v r → ⊥) → at a u v c ≡ at b u v c

-- Two images have one format, and the same samples everywhere, whatever their boxes.
pub record AgreeEverywhere (a b : Image) : Type 0 where
  pub format : a.format ≡ b.format
  pub samples : (u v c : ℕ) → at a u v c ≡ at b u v c

-- Two images have one format, and the same samples at each position outside a rectangle, whatever their boxes.
pub record AgreeElsewhere (a b : Image) (r : Rectangle) : Type 0 where
  pub format : a.format ≡ b.format
  pub samples : (u v c : ℕ) → (Inside u v r → ⊥) → at a u v c ≡ at b u v c

-- Two images have the same samples at each position of a rectangle.
abbrev pub AgreeOver : Image → Image → Rectangle → Type 0
AgreeOver a b r = (u v c : ℕ) → Inside u v r → at a u v c ≡ at b u v c

-- Each pixel of an image has its old samples or its new ones.
pub record IsOldOrNew (old new now : Image) : Type 0 where
  pub box : now.box ≡ old.box
  pub format : now.format ≡ old.format
  pub pixels : (u v : ℕ) → ((c : ℕ) → at now u v c ≡ at old u v c) ⊎ ((c : ℕ) → at now u v c ≡ at new u v c)
