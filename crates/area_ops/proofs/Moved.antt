-- Parts of images that are moved, and read under a policy.
use Rattle.std.proofs.Common.{◌≡◌, ℕ, ◌+◌, ◌-◌, ◌*◌, ◌<◌, ◌≤◌, ◌&&◌, Bool, true, false, cond, leb, IsTrue, refl, sym, ap, ◌∙◌, arith}
use Rattle.std.proofs.lemmas.Bool.Decides.{nat_tests}
use Rattle.plane_rect.specs.Rectangle.{Inside, Rectangle, offset}
use Rattle.pixel_formats.specs.Format.{channels, depth}
use Rattle.pixel_formats.specs.Limits.{suits_areas}
use Rattle.pixel_formats.specs.Row.{sample_at}
use Rattle.pixel_formats.specs.declared.abyss.Abyss.{Abyss}
use Rattle.pixel_formats.specs.declared.abyss.Abyss.TheVariants.{None, Clamp, Loop, Black, White}
use Rattle.model_images.specs.Abyss.{abyss_at, nearest, outside_at}
use Rattle.model_images.specs.FromRaw.{image_from_raw}
use Rattle.model_images.specs.Image.{Image, at}
use Rattle.model_images.specs.Raw.{raw}
use Rattle.model_images.proofs.FromRawLaws.{at-image_from_raw}
use Rattle.model_images.proofs.PolicyLaws.{abyss_at-inside, abyss_at-outside}
use Rattle.model_images.proofs.Positions.{by_positions}
use Rattle.model_images.proofs.RawLaws.{raw-samples}
use Rattle.model_images.proofs.Sides.{nearest-within}
use Rattle.model_operations.specs.Windows.{read_before}
use Rattle.area_ops.specs.Grown.{IsNear, near_part}
use Rattle.area_ops.proofs.Near.{AreNearSides, all-column, all-inside, all-row, from-counted, nearest-counted, to-counted}

-- the raw bytes of a part of an image, over a rectangle of the same size
module _ (image : Image) (part moved : Rectangle) (width : moved.width ≡ part.width) (height : moved.height ≡ part.height) where
  back-inside : (u v : ℕ) → Inside u v moved → Inside (part.first_column + (u - moved.first_column)) (part.first_row + (v - moved.first_row)) part
  back-inside u v there =
      record {
        column = (omega arith, omega (arith, there.column, width));
        row = (omega arith, omega (arith, there.row, height));
      }

  back-offset : (u v : ℕ) → offset moved u v ≡ offset part (part.first_column + (u - moved.first_column)) (part.first_row + (v - moved.first_row))
  back-offset u v =
      let column : part.first_column + (u - moved.first_column) - part.first_column ≡ u - moved.first_column = omega arith in
      let row : part.first_row + (v - moved.first_row) - part.first_row ≡ v - moved.first_row = omega arith in
      ap (λ (n : ℕ). (v - moved.first_row) * n + (u - moved.first_column)) width
      ∙ ap (λ (n : ℕ). n * part.width + (u - moved.first_column)) (sym row)
      ∙ ap (λ (n : ℕ). (part.first_row + (v - moved.first_row) - part.first_row) * part.width + n) (sym column)

  pub moved-at : (u v c : ℕ) → Inside u v moved → c < channels image.format
      → at (image_from_raw moved image.format (raw image part)) u v c
      ≡ at image (part.first_column + (u - moved.first_column)) (part.first_row + (v - moved.first_row)) c
  moved-at u v c there known =
      at-image_from_raw moved image.format (raw image part) u v c there known
      ∙ ap (λ (n : ℕ). sample_at (depth image.format) (raw image part) (n * channels image.format + c)) (back-offset u v)
      ∙ raw-samples image part (part.first_column + (u - moved.first_column)) (part.first_row + (v - moved.first_row)) c (back-inside u v there) known

-- the tests that a column and a row aren't before the plane's corner
after-both : (r u v : ℕ) → (leb r u && leb r v) ≡ true → (r ≤ u) × (r ≤ v)
after-both r u v e = (grind (arith, nat_tests), grind (arith, nat_tests))

after-tests : (r u v : ℕ) → r ≤ u → r ≤ v → (leb r u && leb r v) ≡ true
after-tests r u v column row = grind (arith, nat_tests)

-- what a policy reads of what is near of an image, where a part counts from the corner, is what it reads of the image
module _ (radius : ℕ) (image : Image) (policy : Abyss) (part near counted : Rectangle) (suits : IsTrue (suits_areas policy))
    (sides : AreNearSides radius part image.box near counted) (x y c : ℕ) (column : x < part.width + 2 * radius) (row : y < part.height + 2 * radius)
    (known : c < channels image.format) where
  abbrev moved : Image
  moved = image_from_raw counted image.format (raw image near)

  -- the column and the row in the image
  abbrev u : ℕ
  u = part.first_column + x - radius

  abbrev v : ℕ
  v = part.first_row + y - radius

  to-near : radius ≤ part.first_column + x → radius ≤ part.first_row + y → Inside u v image.box
      → Inside x y counted × (near.first_column + (x - counted.first_column) ≡ u) × (near.first_row + (y - counted.first_row) ≡ v)
  to-near right below there =
      let columns = to-counted radius part.first_column part.width image.box.first_column image.box.width near.first_column near.width counted.first_column
      sides.columns x column right there.column in
      let rows = to-counted radius part.first_row part.height image.box.first_row image.box.height near.first_row near.height counted.first_row
      sides.rows y row below there.row in
      (record { column = (columns.0.0, omega (arith, columns.0.1, sides.width)); row = (rows.0.0, omega (arith, rows.0.1, sides.height)) }, columns.1, rows.1)

  from-near : Inside x y counted → (radius ≤ part.first_column + x) × (radius ≤ part.first_row + y) × Inside u v image.box
  from-near there =
      let columns = from-counted radius part.first_column part.width image.box.first_column image.box.width near.first_column near.width counted.first_column
      sides.columns x column (there.column.0, omega (arith, there.column.1, sides.width)) in
      let rows = from-counted radius part.first_row part.height image.box.first_row image.box.height near.first_row near.height counted.first_row
      sides.rows y row (there.row.0, omega (arith, there.row.1, sides.height)) in
      (columns.0, rows.0, record { column = columns.1; row = rows.1 })

  clamped-near : outside_at moved Clamp x y c ≡ outside_at image Clamp u v c
  clamped-near =
      let s = nearest counted.first_column counted.width x in
      let t = nearest counted.first_row counted.height y in
      let wide : 0 < counted.width = omega (arith, sides.width, sides.columns.some) in
      let high : 0 < counted.height = omega (arith, sides.height, sides.rows.some) in
      let there : Inside s t counted =
      record { column = nearest-within counted.first_column counted.width x wide; row = nearest-within counted.first_row counted.height y high } in
      let columns : near.first_column + (s - counted.first_column) ≡ nearest image.box.first_column image.box.width u =
      ap (λ (n : ℕ). near.first_column + (nearest counted.first_column n x - counted.first_column)) sides.width
      ∙ nearest-counted radius part.first_column part.width image.box.first_column image.box.width near.first_column near.width counted.first_column sides.columns x column in
      let rows : near.first_row + (t - counted.first_row) ≡ nearest image.box.first_row image.box.height v =
      ap (λ (n : ℕ). near.first_row + (nearest counted.first_row n y - counted.first_row)) sides.height
      ∙ nearest-counted radius part.first_row part.height image.box.first_row image.box.height near.first_row near.height counted.first_row sides.rows y row in
      moved-at image near counted sides.width sides.height s t c there known
      ∙ ap (λ (n : ℕ). at image n (near.first_row + (t - counted.first_row)) c) columns
      ∙ ap (λ (n : ℕ). at image (nearest image.box.first_column image.box.width u) n c) rows

  outside-near : (p : Abyss) → IsTrue (suits_areas p) → outside_at moved p x y c ≡ outside_at image p u v c
  outside-near None its = refl
  outside-near Clamp its = clamped-near
  outside-near Loop its = absurd (cc its)
  outside-near Black its = refl
  outside-near White its = refl

  after-near : radius ≤ part.first_column + x → radius ≤ part.first_row + y → abyss_at moved policy x y c ≡ abyss_at image policy u v c
  after-near right below =
      by_positions _ u v image.box
      (λ there.
      let near_there = to-near right below there in
      abyss_at-inside moved policy x y c near_there.0
      ∙ moved-at image near counted sides.width sides.height x y c near_there.0 known
      ∙ ap (λ (n : ℕ). at image n (near.first_row + (y - counted.first_row)) c) near_there.1
      ∙ ap (λ (n : ℕ). at image u n c) near_there.2
      ∙ sym (abyss_at-inside image policy u v c there))
      (λ out.
      abyss_at-outside moved policy x y c (λ there. out (from-near there).2)
      ∙ outside-near policy suits
      ∙ sym (abyss_at-outside image policy u v c out))

  read-if : (b : Bool) → (leb radius (part.first_column + x) && leb radius (part.first_row + y)) ≡ b
      → abyss_at moved policy x y c ≡ cond b (abyss_at image policy u v c) (outside_at image policy u v c)
  read-if true e = let after = after-both radius (part.first_column + x) (part.first_row + y) e in after-near after.0 after.1
  read-if false e =
      abyss_at-outside moved policy x y c
      (λ there. let from = from-near there in
      absurd (cc (after-tests radius (part.first_column + x) (part.first_row + y) from.0 from.1)))
      ∙ outside-near policy suits

  pub read-near : abyss_at moved policy x y c ≡ read_before radius image policy (part.first_column + x) (part.first_row + y) c
  read-near = read-if (leb radius (part.first_column + x) && leb radius (part.first_row + y)) refl

-- where all of a grown part is in an image's box, no policy is asked
module _ (radius : ℕ) (image : Image) (policy : Abyss) (part : Rectangle) (near : IsNear radius image.box part)
    (width : (near_part radius image.box part).width ≡ part.width + 2 * radius) (height : (near_part radius image.box part).height ≡ part.height + 2 * radius) where
  pub read-all : (x y c : ℕ) → x < part.width + 2 * radius → y < part.height + 2 * radius
      → at image ((near_part radius image.box part).first_column + x) ((near_part radius image.box part).first_row + y) c
      ≡ read_before radius image policy (part.first_column + x) (part.first_row + y) c
  read-all x y c column row =
      let a = (near_part radius image.box part).first_column in
      let b = (near_part radius image.box part).first_row in
      let left : a + radius ≡ part.first_column = all-column radius image.box part near width height in
      let top : b + radius ≡ part.first_row = all-row radius image.box part near width height in
      let u : ℕ = part.first_column + x - radius in
      let v : ℕ = part.first_row + y - radius in
      let is_column : a + x ≡ u = omega (arith, left) in
      let is_row : b + y ≡ v = omega (arith, top) in
      let tests : (leb radius (part.first_column + x) && leb radius (part.first_row + y)) ≡ true =
      after-tests radius (part.first_column + x) (part.first_row + y) (omega (arith, left)) (omega (arith, top)) in
      sym (abyss_at-inside image policy (a + x) (b + y) c (all-inside radius image.box part near width height x y column row))
      ∙ ap (λ (n : ℕ). abyss_at image policy n (b + y) c) is_column
      ∙ ap (λ (n : ℕ). abyss_at image policy u n c) is_row
      ∙ sym (ap (λ (t : Bool). cond t (abyss_at image policy u v c) (outside_at image policy u v c)) tests)
