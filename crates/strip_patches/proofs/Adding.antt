-- Strips that are added to a patch of a level.
use Rattle.std.proofs.Common.{◌≡◌, ℕ, zero, suc, ◌+◌, ◌-◌, ◌<◌, ◌≤◌, inl, inr, Bool, cond, length, map, Option, Some, None, refl, sym, ap, ◌∙◌, subst, arith}
use Rattle.std.specs.Prelude.{IsSome, slice_get, unwrap_or}
use Rattle.std.specs.List.{range_with_len}
use Rattle.std.proofs.lemmas.Bool.{cases_lt}
use Rattle.std.proofs.lemmas.Option.{same_Some, slice_get_within}
use Rattle.std.proofs.lemmas.List.{length-map}
use Rattle.std.proofs.lemmas.List.FromFn.{length-range_with_len}
use Rattle.plane_rect.specs.Rectangle.{InLimits, Inside, IsRectangle, Rectangle, empty, halved, meet, scaled}
use Rattle.plane_rect.specs.Tile.{tile_lines, tile_of, strip_rectangles, tile_line}
use Rattle.plane_rect.proofs.RectangleLaws.{IsRectangle-meet}
use Rattle.plane_rect.proofs.Rectangles.{Inside-meet}
use Rattle.pixel_formats.specs.Format.{channels}
use Rattle.pixel_formats.specs.declared.format.Format.{Format}
use Rattle.pixel_formats.specs.declared.format.Format.TheVariants.{Y8}
use Rattle.model_images.specs.Image.{Image, IsImage, at, image_from_fn, is_inside}
use Rattle.model_images.specs.Level.{level, level_box}
use Rattle.model_images.specs.Paint.{blank, cut, painted}
use Rattle.model_images.proofs.Agreeing.{at-cut}
use Rattle.model_images.proofs.AgreeingLevels.{level-box, levels-local}
use Rattle.model_images.proofs.Laws.{IsImage-image_from_fn, at-image_from_fn, generated_equal, image_from_fn-at}
use Rattle.model_images.proofs.LevelLaws.{IsImage-level, InLimits-level, level-format}
use Rattle.model_images.proofs.Positions.{by_positions, not_inside}
use Rattle.model_images.proofs.Samples.{inside_where}
use Rattle.strip_patches.specs.LevelStrips.{AreOfOne, HasStrips, IsRequest, LevelStrips, halves, source_of, strip_level}
use Rattle.strip_patches.specs.Nodes.{HasPart}
use Rattle.strip_patches.proofs.Halves.{box-more, box-positions, halves-more, level-more, same-line, source-positions}
use Rattle.strip_patches.proofs.Scaled.{scaled-back, scaled-positions}

-- ---- the strips of a rectangle

line-of : (f : ℕ → Rectangle) (n a k : ℕ) (r : Rectangle) → slice_get (map f (range_with_len a n)) k ≡ Some r → f (a + k) ≡ r
line-of f zero a k r e = absurd (cc e)
line-of f (suc n) a zero r e =
    let none : a + 0 ≡ a = omega arith in
    ap f none ∙ same_Some (f a) r e
line-of f (suc n) a (suc k) r e =
    let next : a + suc k ≡ a + 1 + k = omega arith in
    ap f next ∙ line-of f n (a + 1) k r e

pub length-strips : (s : Rectangle) → length (strip_rectangles s) ≡ tile_lines s
length-strips s =
    length-map (range_with_len (tile_of s.first_row) (tile_lines s)) (λ row. meet s (tile_line row))
    ∙ length-range_with_len (tile_of s.first_row) (tile_lines s)

-- the strip of a number has the positions of a row of tiles
pub strip-is : (s : Rectangle) (k : ℕ) (r : Rectangle) → slice_get (strip_rectangles s) k ≡ Some r → meet s (tile_line (tile_of s.first_row + k)) ≡ r
strip-is s k r e = line-of (λ row. meet s (tile_line row)) (tile_lines s) (tile_of s.first_row) k r e

pub strip-few : (s : Rectangle) (k : ℕ) (r : Rectangle) → slice_get (strip_rectangles s) k ≡ Some r → k < tile_lines s
strip-few s k r e =
    omega (
      arith,
      slice_get_within (strip_rectangles s) k r e,
      length-strips s,
    )

-- a row of tiles that meets a rectangle of the plane
IsRectangle-line : (s : Rectangle) (k : ℕ) → IsRectangle s → k < tile_lines s → IsRectangle (tile_line (tile_of s.first_row + k))
IsRectangle-line s k is few = record {
  columns = omega arith;
  rows = omega (arith, is.rows, few);
  empty_width = λ e. absurd (omega (arith, e));
  empty_height = λ e. absurd (omega (arith, e));
}

pub IsRectangle-strip : (s : Rectangle) (k : ℕ) → IsRectangle s → k < tile_lines s → IsRectangle (meet s (tile_line (tile_of s.first_row + k)))
IsRectangle-strip s k is few = IsRectangle-meet s (tile_line (tile_of s.first_row + k)) is (IsRectangle-line s k is few)

pub strip-positions : (s : Rectangle) (line u v : ℕ) → IsRectangle s → Inside u v s → tile_of v ≡ line → Inside u v (meet s (tile_line line))
strip-positions s line u v is there same =
    (Inside-meet u v s (tile_line line)).1 (
      there,
      record {
        column = (omega arith, omega (arith, is.columns, there.column));
        row = (omega (arith, same), omega (arith, same));
      },
    )

pub strip-line : (s : Rectangle) (line u v : ℕ) → Inside u v (meet s (tile_line line)) → tile_of v ≡ line
strip-line s line u v there =
    let here = ((Inside-meet u v s (tile_line line)).0 there).1 in
    omega (arith, here.row)

-- a row of the rectangle is in one of its strips
pub in-lines : (s : Rectangle) (u v : ℕ) → Inside u v s → tile_of v < tile_of s.first_row + tile_lines s
in-lines s u v there = omega (arith, there.row)

-- ---- one more strip

-- one position as a rectangle
abbrev one : ℕ → ℕ → Rectangle
one p q = record { first_column = p; first_row = q; width = 1; height = 1 }

in-one : (p q : ℕ) → Inside p q (one p q)
in-one p q = record { column = (omega arith, omega arith); row = (omega arith, omega arith) }

from-one : (p q m n : ℕ) → Inside m n (one p q) → (m ≡ p) × (n ≡ q)
from-one p q m n there = (omega (arith, there.column), omega (arith, there.row))

-- each position that is averaged with one of a rectangle is in it
pub record IsAligned (b : ℕ) (s : Rectangle) : Type 0 where
  pub aligned : (u v m n : ℕ) → Inside u v s → halves m b ≡ halves u b → halves n b ≡ halves v b → Inside m n s

module _ (image : Image) (is : IsRectangle image.box) (s : Rectangle) (is_s : IsRectangle s) (b : ℕ) (small : b ≤ 6) (aligned : IsAligned b s)
    (k : ℕ) (few : k < tile_lines s) where
  abbrev line : ℕ
  line = tile_of s.first_row + k

  abbrev strip : Rectangle
  strip = meet s (tile_line line)

  -- a strip has the samples of the image's level
  strip-samples : (u v c : ℕ) → Inside u v s → tile_of v ≡ line
      → at (level (cut image strip) b) (halves u b) (halves v b) c ≡ at (level image b) (halves u b) (halves v b) c
  strip-samples u v c there same =
      levels-local (cut image strip) image b (one (halves u b) (halves v b)) (IsRectangle-strip s k is_s few) is
      (λ m n j here.
      let found = from-one (halves u b) (halves v b) (halves m b) (halves n b) ((source-positions b m n (one (halves u b) (halves v b))).0 here) in
      at-cut image strip m n j
      (strip-positions s line m n is_s (aligned.aligned u v m n there found.0 found.1) (same-line b n v small found.1 ∙ same)))
      (halves u b) (halves v b) c (in-one (halves u b) (halves v b))

  -- The patch with one strip more has the samples of the image's level at the positions of one row of tiles more.
  module _ (patch new part : Image) (box : patch.box ≡ level_box s b) (format : patch.format ≡ image.format)
      (is_part : part ≡ level (cut image strip) b) (is_new : new ≡ painted patch part.box (at part)) where
    part-box : part.box ≡ level_box strip b
    part-box = ap (λ (x : Image). x.box) is_part ∙ level-box (cut image strip) b

    module _ (u v c : ℕ) (there : Inside u v s) (known : c < channels image.format) where
      value : at new (halves u b) (halves v b) c
          ≡ cond (is_inside (halves u b) (halves v b) part.box) (at part (halves u b) (halves v b) c) (at patch (halves u b) (halves v b) c)
      value =
          ap (λ (x : Image). at x (halves u b) (halves v b) c) is_new
          ∙ at-image_from_fn patch.box patch.format (λ u v c. cond (is_inside u v part.box) (at part u v c) (at patch u v c)) (halves u b) (halves v b) c
          (subst (λ (x : Rectangle). Inside (halves u b) (halves v b) x) (sym box) ((box-positions b (halves u b) (halves v b) s is_s).1 (u, v, there, refl, refl)))
          (subst (λ (f : Format). c < channels f) (sym format) known)

      -- a position that is painted is of the strip's row of tiles
      painted-line : Inside (halves u b) (halves v b) part.box → tile_of v ≡ line
      painted-line here =
          let found = (box-positions b (halves u b) (halves v b) strip (IsRectangle-strip s k is_s few)).0
          (subst (λ (x : Rectangle). Inside (halves u b) (halves v b) x) part-box here) in
          same-line b v found.1 small found.4 ∙ strip-line s line found.0 found.1 found.2

      line-painted : tile_of v ≡ line → Inside (halves u b) (halves v b) part.box
      line-painted same =
          subst (λ (x : Rectangle). Inside (halves u b) (halves v b) x) (sym part-box)
          ((box-positions b (halves u b) (halves v b) strip (IsRectangle-strip s k is_s few)).1 (u, v, strip-positions s line u v is_s there same, refl, refl))

      pub one-more : (tile_of v < line → at patch (halves u b) (halves v b) c ≡ at (level image b) (halves u b) (halves v b) c)
          → tile_of v < tile_of s.first_row + (k + 1) → at new (halves u b) (halves v b) c ≡ at (level image b) (halves u b) (halves v b) c
      one-more before below =
          by_positions (at new (halves u b) (halves v b) c ≡ at (level image b) (halves u b) (halves v b) c) (halves u b) (halves v b) part.box
          (λ here.
          value
          ∙ ap (λ (x : Bool). cond x (at part (halves u b) (halves v b) c) (at patch (halves u b) (halves v b) c)) (inside_where (halves u b) (halves v b) part.box here)
          ∙ ap (λ (x : Image). at x (halves u b) (halves v b) c) is_part
          ∙ strip-samples u v c there (painted-line here))
          (λ out. elim (cases_lt (tile_of v) line) [
            | inl old ↦
                value
                ∙ ap (λ (x : Bool). cond x (at part (halves u b) (halves v b) c) (at patch (halves u b) (halves v b) c)) (not_inside (halves u b) (halves v b) part.box out)
                ∙ before old
            | inr past ↦ absurd (out (line-painted (omega (arith, past, below))))
          ])

-- ---- the patch of the request

-- what is averaged to positions of a rectangle of a level is aligned at each level before
pub scaled-aligned : (z b : ℕ) (r s : Rectangle) → z ≤ 8 → b ≤ z → scaled z r ≡ Some s → IsAligned b s
scaled-aligned z b r s small before is = record {
  aligned = λ u v m n there column row.
      let positions = scaled-positions z r s small is in
      let up = z - b in
      let whole : b + up ≡ z = omega (arith, before) in
      let same : (x y : ℕ) → halves x b ≡ halves y b → halves y z ≡ halves x z = λ x y e.
      sym (halves-more y b up ∙ ap (halves y) whole) ∙ ap (λ (n : ℕ). halves n up) (sym e) ∙ (halves-more x b up ∙ ap (halves x) whole) in
      (positions m n).1
      (subst (λ (p : ℕ). Inside p (halves n z) r) (same m u column)
      (subst (λ (q : ℕ). Inside (halves u z) q r) (same n v row) ((positions u v).0 there)));
}

-- a level of a part of an image is a part of the image's level
pub level-of_part : (image : Image) (z : ℕ) (r s : Rectangle) → z ≤ 8 → scaled z r ≡ Some s → IsRectangle image.box → IsRectangle r → IsRectangle s
    → level (cut image s) z ≡ cut (level image z) r
level-of_part image z r s small is is_image is_r is_s =
    let part = level (cut image s) z in
    let box : part.box ≡ r = level-box (cut image s) z ∙ scaled-back z r s small is is_r is_s in
    let format : part.format ≡ (level image z).format = level-format (cut image s) z ∙ sym (level-format image z) in
    sym (image_from_fn-at part (IsImage-level (cut image s) z (IsImage-image_from_fn s image.format (at image))))
    ∙ generated_equal part.box part.format (at part) (at (level image z))
    (λ p q c there known.
    levels-local (cut image s) image z r is_s is_image
    (λ u v j below. at-cut image s u v j ((scaled-positions z r s small is u v).1 ((source-positions z u v r).0 below)))
    p q c (subst (λ (x : Rectangle). Inside p q x) box there))
    ∙ ap (λ (x : Rectangle). image_from_fn x part.format (at (level image z))) box
    ∙ ap (λ (f : Format). image_from_fn r f (at (level image z))) format

-- once each strip was added, the patch is the level of what the image has of the rectangle of level 0
pub all-added : (image patch : Image) (s : Rectangle) (b : ℕ) → b ≤ 6 → IsAligned b s → IsRectangle image.box → IsRectangle s → IsImage patch
    → patch.box ≡ level_box s b → patch.format ≡ image.format
    → ((u v c : ℕ) → Inside u v s → tile_of v < tile_of s.first_row + tile_lines s → c < channels image.format
    → at patch (halves u b) (halves v b) c ≡ at (level image b) (halves u b) (halves v b) c)
    → patch ≡ level (cut image s) b
all-added image patch s b small aligned is is_s whole box format samples =
    let part = level (cut image s) b in
    let part_box : part.box ≡ level_box s b = level-box (cut image s) b in
    sym (image_from_fn-at patch whole)
    ∙ generated_equal patch.box patch.format (at patch) (at part)
    (λ p q c there known.
    let found = (box-positions b p q s is_s).0 (subst (λ (x : Rectangle). Inside p q x) box there) in
    let known_here : c < channels image.format = subst (λ (f : Format). c < channels f) format known in
    ap (λ (n : ℕ). at patch n q c) found.3
    ∙ ap (λ (n : ℕ). at patch (halves found.0 b) n c) found.4
    ∙ samples found.0 found.1 c found.2 (in-lines s found.0 found.1 found.2) known_here
    ∙ sym (levels-local (cut image s) image b (one (halves found.0 b) (halves found.1 b)) is_s is
    (λ m n j here.
    let from = from-one (halves found.0 b) (halves found.1 b) (halves m b) (halves n b) ((source-positions b m n (one (halves found.0 b) (halves found.1 b))).0 here) in
    at-cut image s m n j (aligned.aligned found.0 found.1 m n found.2 from.0 from.1))
    (halves found.0 b) (halves found.1 b) c (in-one (halves found.0 b) (halves found.1 b)))
    ∙ sym (ap (λ (n : ℕ). at part n q c) found.3 ∙ ap (λ (n : ℕ). at part (halves found.0 b) n c) found.4))
    ∙ ap (λ (x : Rectangle). image_from_fn x patch.format (at part)) (box ∙ sym part_box)
    ∙ ap (λ (f : Format). image_from_fn part.box f (at part)) (format ∙ sym (level-format (cut image s) b))
    ∙ image_from_fn-at part (IsImage-level (cut image s) b (IsImage-image_from_fn s image.format (at image)))

-- ---- the same of requests

pub source-some : (found : Option Rectangle) → IsSome found → found ≡ Some (unwrap_or found empty)
source-some None some = absurd (cc some)
source-some (Some s) some = refl

pub source-is : (strips : LevelStrips) → IsRequest strips → scaled strips.at_level strips.rect ≡ Some (source_of strips)
source-is strips is = source-some (scaled strips.at_level strips.rect) is.source

pub none-added : (image : Image) (strips : LevelStrips) → IsRectangle image.box → strips.patch.format ≡ image.format → HasStrips image 0 strips
none-added image strips rectangle format = record {
  rectangle = rectangle;
  format = format;
  samples = λ u v c there below known. absurd (omega (arith, below, there.row));
}

pub strip-added : (image part : Image) (k : ℕ) (r : Rectangle) (old new : LevelStrips) → IsRequest old → AreOfOne old new → HasStrips image k old
    → slice_get (strip_rectangles (source_of old)) k ≡ Some r → part ≡ level (cut image r) (strip_level old.at_level)
    → new.patch ≡ painted old.patch part.box (at part) → HasStrips image (k + 1) new
strip-added image part k r old new is one_request has found is_part is_new =
    let s = source_of old in
    let b = strip_level old.at_level in
    let strip : meet s (tile_line (tile_of s.first_row + k)) ≡ r = strip-is s k r found in
    let small : b ≤ 6 = omega arith in
    let aligned : IsAligned b s = scaled-aligned old.at_level b old.rect s is.small (omega arith) (source-is old is) in
    let request : (new_rect : Rectangle) (new_level : ℕ) → new_rect ≡ old.rect → new_level ≡ old.at_level
    → ((u v c : ℕ) → Inside u v s → tile_of v < tile_of s.first_row + (k + 1) → c < channels image.format
    → at new.patch (halves u b) (halves v b) c ≡ at (level image b) (halves u b) (halves v b) c)
    → HasStrips image (k + 1) (record { rect = new_rect; at_level = new_level; patch = new.patch }) =
    λ new_rect new_level same_rect same_level samples.
    rw (same_rect, same_level) (record { rectangle = has.rectangle; format = one_request.format ∙ has.format; samples = samples }) in
    request new.rect new.at_level one_request.rect one_request.at_level
    (λ u v c there below known.
    one-more image has.rectangle s is.source_rectangle b small aligned k (strip-few s k r found) old.patch new.patch part is.box has.format
    (is_part ∙ ap (λ (x : Rectangle). level (cut image x) b) (sym strip)) is_new u v c there known
    (λ before. has.samples u v c there before known) below)

-- At level 0 the strips are in the patch as they are.
pub strip-put : (image : Image) (k : ℕ) (r rect : Rectangle) (z : ℕ) (patch new : Image) → z ≡ 0
    → IsRequest (record { rect = rect; at_level = z; patch = patch }) → new.box ≡ patch.box → new.format ≡ patch.format
    → HasStrips image k (record { rect = rect; at_level = z; patch = patch })
    → slice_get (strip_rectangles (source_of (record { rect = rect; at_level = z; patch = patch }))) k ≡ Some r
    → ((u v : ℕ) → Inside u v r → Inside u v image.box) → HasPart image r patch new
    → HasStrips image (k + 1) (record { rect = rect; at_level = z; patch = new })
unfolding halves level
strip-put image k r rect (suc z) patch new e is box format has found within part = absurd (omega (arith, e))
strip-put image k r rect zero patch new e is box format has found within part = record {
  rectangle = has.rectangle;
  format = format ∙ has.format;
  samples = λ u v c there below known. elim (part.samples u v c (here u v there) (known-here c known)) [
    | inl same ↦ same
    | inr kept ↦ kept.0 ∙ before u v c there below known kept.1
  ];
}
  where
    s : Rectangle
    s = source_of (record { rect = rect; at_level = 0; patch = patch })

    here : (u v : ℕ) → Inside u v s → Inside u v new.box
    here u v there = subst (λ (x : Rectangle). Inside u v x) (sym (box ∙ is.box)) there

    known-here : (c : ℕ) → c < channels image.format → c < channels new.format
    known-here c known = subst (λ (f : Format). c < channels f) (sym (format ∙ has.format)) known

    -- a row of this strip has only positions that the tiles have
    before : (u v c : ℕ) → Inside u v s → tile_of v < tile_of s.first_row + (k + 1) → c < channels image.format
        → (¬ Inside u v (meet r image.box)) → at patch u v c ≡ at image u v c
    before u v c there below known out = elim (cases_lt (tile_of v) (tile_of s.first_row + k)) [
      | inl old ↦ has.samples u v c there old known
      | inr past ↦
          let inside = subst (λ (x : Rectangle). Inside u v x) (strip-is s k r found)
          (strip-positions s (tile_of s.first_row + k) u v is.source_rectangle there (omega (arith, past, below))) in
          absurd (out ((Inside-meet u v r image.box).1 (inside, within u v inside)))
    ]

pub request-finished : (image patch : Image) (strips : LevelStrips) (rest : ℕ) → IsRequest strips
    → HasStrips image (length (strip_rectangles (source_of strips))) strips → rest + strip_level strips.at_level ≡ strips.at_level
    → patch ≡ level strips.patch rest → patch ≡ cut (level image strips.at_level) strips.rect
request-finished image patch strips rest is has levels is_patch =
    let s = source_of strips in
    let z = strips.at_level in
    let b = strip_level z in
    let aligned : IsAligned b s = scaled-aligned z b strips.rect s is.small (omega arith) (source-is strips is) in
    let sum : b + rest ≡ z = omega (arith, levels) in
    let added : strips.patch ≡ level (cut image s) b =
    all-added image strips.patch s b (omega arith) aligned has.rectangle is.source_rectangle is.whole is.box has.format
    (λ u v c there below known. has.samples u v c there (omega (arith, below, length-strips s)) known) in
    is_patch
    ∙ ap (λ (x : Image). level x rest) added
    ∙ level-more (cut image s) b rest
    ∙ ap (level (cut image s)) sum
    ∙ level-of_part image z strips.rect s is.small (source-is strips is) has.rectangle is.rectangle is.source_rectangle

pub finished-box : (patch : Image) (strips : LevelStrips) (rest : ℕ) → IsRequest strips → rest + strip_level strips.at_level ≡ strips.at_level
    → patch ≡ level strips.patch rest → patch.box ≡ strips.rect
finished-box patch strips rest is levels is_patch =
    let s = source_of strips in
    let z = strips.at_level in
    let b = strip_level z in
    let sum : b + rest ≡ z = omega (arith, levels) in
    ap (λ (x : Image). x.box) is_patch
    ∙ level-box strips.patch rest
    ∙ ap (λ (x : Rectangle). level_box x rest) is.box
    ∙ box-more s b rest
    ∙ ap (level_box s) sum
    ∙ scaled-back z strips.rect s is.small (source-is strips is) is.rectangle is.source_rectangle

-- ---- the patch that is changed

-- a patch over the same rectangle takes the place of all
pub painted-all : (patch part : Image) → part.box ≡ patch.box → part.format ≡ patch.format → IsImage part → part ≡ painted patch part.box (at part)
painted-all patch part box format whole =
    sym (image_from_fn-at part whole)
    ∙ generated_equal part.box part.format (at part) (λ u v c. cond (is_inside u v part.box) (at part u v c) (at patch u v c))
    (λ u v c there known. sym (ap (λ (x : Bool). cond x (at part u v c) (at patch u v c)) (inside_where u v part.box there)))
    ∙ ap (λ (r : Rectangle). image_from_fn r part.format (λ u v c. cond (is_inside u v part.box) (at part u v c) (at patch u v c))) box
    ∙ ap (λ (f : Format). image_from_fn patch.box f (λ u v c. cond (is_inside u v part.box) (at part u v c) (at patch u v c))) format

-- a request to which a strip was added
pub request-still : (rect : Rectangle) (z : ℕ) (patch new part : Image) → IsRequest (record { rect = rect; at_level = z; patch = patch })
    → new ≡ painted patch part.box (at part) → IsRequest (record { rect = rect; at_level = z; patch = new })
request-still rect z patch new part is is_new = record {
  small = is.small;
  source = is.source;
  rectangle = is.rectangle;
  source_rectangle = is.source_rectangle;
  box = ap (λ (x : Image). x.box) is_new ∙ is.box;
  whole = subst IsImage (sym is_new) (IsImage-image_from_fn patch.box patch.format (λ u v c. cond (is_inside u v part.box) (at part u v c) (at patch u v c)));
}

-- a request whose patch is whole
pub request-whole : (rect : Rectangle) (z : ℕ) (patch new : Image) → IsRequest (record { rect = rect; at_level = z; patch = patch })
    → new.box ≡ patch.box → IsImage new → IsRequest (record { rect = rect; at_level = z; patch = new })
request-whole rect z patch new is box whole = record {
  small = is.small;
  source = is.source;
  rectangle = is.rectangle;
  source_rectangle = is.source_rectangle;
  box = box ∙ is.box;
  whole = whole;
}

pub request-first : (rect source : Rectangle) (z : ℕ) (patch : Image) → z ≤ 8 → scaled z rect ≡ Some source → IsRectangle rect → IsRectangle source
    → patch.box ≡ level_box source (strip_level z) → IsImage patch → IsRequest (record { rect = rect; at_level = z; patch = patch })
request-first rect source z patch small is is_rect is_source box whole =
    let its : unwrap_or (scaled z rect) empty ≡ source = ap (λ (o : Option Rectangle). unwrap_or o empty) is in
    record {
      small = small;
      source = subst (λ (o : Option Rectangle). IsSome o) (sym is) refl;
      rectangle = is_rect;
      source_rectangle = subst IsRectangle (sym its) is_source;
      box = box ∙ sym (ap (λ (r : Rectangle). level_box r (strip_level z)) its);
      whole = whole;
    }

-- ---- one halving more

pub box-next : (r : Rectangle) (z : ℕ) → level_box r (z + 1) ≡ halved (level_box r z)
box-next r z = let next : z + 1 ≡ suc z = omega arith in ap (level_box r) next

pub InLimits-level_box : (r : Rectangle) (z : ℕ) → IsRectangle r → InLimits r → InLimits (level_box r z)
InLimits-level_box r z is small = subst InLimits (level-box (blank r Y8) z) (InLimits-level (blank r Y8) z is small)
