-- The raw bytes of what is read, with others after them.
use Rattle.std.proofs.Common.{◌≡◌, ℕ, ◌+◌, ◌-◌, ◌*◌, ◌<◌, ◌≤◌, List, ◌++◌, length, replicate, Result, Ok, Err, Vec, Global, IsTrue, sym, ap, ◌∙◌, subst, arith, length-append}
use Rattle.std.specs.Result.{IfOk}
use Rattle.std.proofs.lemmas.List.{get_or_append_left}
use Rattle.std.proofs.lemmas.Nat.{mul-add-lt, mul-le}
use Rattle.std.proofs.lemmas.Simd.{length-replicate}
use Rattle.plane_rect.specs.Rectangle.{InLimits, Inside, Rectangle, offset, spanning}
use Rattle.pixel_formats.specs.Format.{channels, depth, pixel_bytes}
use Rattle.pixel_formats.specs.Limits.{suits_areas}
use Rattle.pixel_formats.specs.Row.{pixel_at}
use Rattle.pixel_formats.specs.declared.abyss.Abyss.{Abyss}
use Rattle.pixel_formats.specs.declared.abyss.Abyss.TheVariants.{None}
use Rattle.pixel_formats.specs.declared.format.Format.{Format}
use Rattle.pixel_formats.proofs.FormatLaws.{by_depth, sample_equal}
use Rattle.model_images.specs.Abyss.{abyss_at}
use Rattle.model_images.specs.FromRaw.{byte_count, image_from_raw}
use Rattle.model_images.specs.Image.{Image, at, image_from_fn}
use Rattle.model_images.specs.Paint.{cut}
use Rattle.model_images.specs.Raw.{raw}
use Rattle.model_images.proofs.ByteLaws.{length-raw_with, raw_with-none}
use Rattle.model_images.proofs.Laws.{at-image_from_fn}
use Rattle.model_images.proofs.RawLaws.{raw-samples}
use Rattle.patch_abyss.proofs.Parts.{byte_index, byte_within}
use Rattle.patch_abyss.proofs.TilesOfPatches.{raw-part}
use Rattle.area_ops.specs.Grown.{HoldsGrown, IsNear, counted_part, near_part}
use Rattle.area_ops.proofs.Near.{near-sides, spanning-some}
use Rattle.area_ops.proofs.Moved.{read-all, read-near}

length-raw : (image : Image) (r : Rectangle) → length (raw image r) ≡ byte_count r image.format
length-raw image r = ap length (sym (raw_with-none image r)) ∙ length-raw_with image None r

-- a pixel among the first n
in-first : (f : Format) (a b : List ℕ) (n : ℕ) → length a ≡ n * pixel_bytes f → (k c : ℕ) → k < n → c < channels f → pixel_at f (a ++ b) k c ≡ pixel_at f a k c
in-first f a b n long k c below known =
    let m = channels f in
    let d = depth f in
    sample_equal d (a ++ b) a (k * m + c) (k * m + c)
    (λ t few.
    get_or_append_left a b 0 (d * (k * m + c) + t)
    (omega (arith, byte_index k m d c t, long, mul-add-lt k (m * d) (d * c + t) n below (byte_within m d c t known few))))

-- as many columns and rows from the corner on
pub corner-is : (w h : ℕ) → 0 < w → 0 < h → spanning 0 0 w h ≡ record { first_column = 0; first_row = 0; width = w; height = h }
corner-is w h wide high =
    let width : w - 0 ≡ w = omega arith in
    let height : h - 0 ≡ h = omega arith in
    spanning-some 0 0 w h wide high
    ∙ ap (λ (n : ℕ). record { first_column = 0; first_row = 0; width = n; height = h - 0 }) width
    ∙ ap (λ (n : ℕ). record { first_column = 0; first_row = 0; width = w; height = n }) height

few_zeros : (f : Format) → depth f * 16 ≤ 64
few_zeros f = by_depth (λ d. d * 16 ≤ 64) (omega arith) (omega arith) (omega arith) f

-- the raw bytes of an image that is generated over a rectangle, with zeros after them
module _ (f : Format) (r : Rectangle) (g : ℕ → ℕ → ℕ → ℕ) where
  abbrev image : Image
  image = image_from_fn r f g

  pub padded-room : depth f * (r.height * (r.width * channels f) + 16) ≤ length (raw image r ++ replicate 64 0)
  padded-room =
      omega (arith, length-append (raw image r) (replicate 64 0), length-replicate {A = ℕ} 64 0, length-raw image r, few_zeros f)

  pub padded-samples : (x y c : ℕ) → x < r.width → y < r.height → c < channels f
      → pixel_at f (raw image r ++ replicate 64 0) (y * r.width + x) c ≡ g (r.first_column + x) (r.first_row + y) c
  padded-samples x y c column row known =
      let u = r.first_column + x in
      let v = r.first_row + y in
      let there : Inside u v r = record { column = (omega arith, omega (arith, column)); row = (omega arith, omega (arith, row)) } in
      let index : y * r.width + x ≡ offset r u v =
      ap (λ (n : ℕ). n * r.width + x) (omega arith) ∙ ap (λ (n : ℕ). (v - r.first_row) * r.width + n) (omega arith) in
      let below : y * r.width + x < r.width * r.height = omega (arith, mul-add-lt y r.width x r.height row column) in
      in-first f (raw image r) (replicate 64 0) (r.width * r.height) (length-raw image r) (y * r.width + x) c below known
      ∙ ap (λ (k : ℕ). pixel_at f (raw image r) k c) index
      ∙ raw-samples image r u v c there known
      ∙ at-image_from_fn r f g u v c there known

-- the bytes of what is read of what is near of an image
module _ (radius : ℕ) (image : Image) (policy : Abyss) (part : Rectangle) (suits : IsTrue (suits_areas policy)) (near : IsNear radius image.box part) where
  abbrev w : ℕ
  w = part.width + 2 * radius

  abbrev h : ℕ
  h = part.height + 2 * radius

  abbrev there : Rectangle
  there = near_part radius image.box part

  abbrev moved : Image
  moved = image_from_raw (counted_part radius part there) image.format (raw image there)

  abbrev corner : Rectangle
  corner = record { first_column = 0; first_row = 0; width = w; height = h }

  abbrev read : Image
  read = image_from_fn corner image.format (abyss_at moved policy)

  read-holds : HoldsGrown image radius policy part (raw read read.box ++ replicate 64 0)
  read-holds = record {
    room = padded-room image.format corner (abyss_at moved policy);
    samples = record {
      samples = λ x y c column row known.
          padded-samples image.format corner (abyss_at moved policy) x y c column row known
          ∙ ap (λ (n : ℕ). abyss_at moved policy n (0 + y) c) (omega arith)
          ∙ ap (λ (n : ℕ). abyss_at moved policy x n c) (omega arith)
          ∙ read-near radius image policy part there (counted_part radius part there) suits (near-sides radius image.box part near) x y c column row known;
    };
  }

  wide : 0 < w
  wide = omega (arith, near.columns)

  high : 0 < h
  high = omega (arith, near.rows)

  -- the same of the patches that are made
  pub holds-grown : (p m q : Image) (bytes : List ℕ) → p ≡ cut image there
      → m ≡ image_from_raw (counted_part radius part p.box) p.format (raw p p.box)
      → q ≡ image_from_fn (spanning 0 0 w h) m.format (abyss_at m policy)
      → bytes ≡ raw q q.box ++ replicate 64 0 → HoldsGrown image radius policy part bytes
  holds-grown p m q bytes is_part is_moved is_read is =
      let same_moved : m ≡ moved =
      is_moved
      ∙ ap (λ (i : Image). image_from_raw (counted_part radius part i.box) i.format (raw i i.box)) is_part
      ∙ ap (λ (xs : List ℕ). image_from_raw (counted_part radius part there) image.format xs) (raw-part image there) in
      let same_read : q ≡ read =
      is_read
      ∙ ap (λ (i : Image). image_from_fn (spanning 0 0 w h) i.format (abyss_at i policy)) same_moved
      ∙ ap (λ (r : Rectangle). image_from_fn r image.format (abyss_at moved policy)) (corner-is w h wide high) in
      subst (HoldsGrown image radius policy part) (sym (is ∙ ap (λ (i : Image). raw i i.box ++ replicate 64 0) same_read)) read-holds

  pub grown-made : {E : Type 0} (p m q : Image) (made : Result (Vec ℕ Global) E) → p ≡ cut image there
      → m ≡ image_from_raw (counted_part radius part p.box) p.format (raw p p.box)
      → q ≡ image_from_fn (spanning 0 0 w h) m.format (abyss_at m policy)
      → IfOk made (λ bytes. bytes.items ≡ raw q q.box ++ replicate 64 0) → IfOk made (λ bytes. HoldsGrown image radius policy part bytes.items)
  grown-made p m q (Ok bytes) is_part is_moved is_read is = holds-grown p m q bytes.items is_part is_moved is_read is
  grown-made p m q (Err refused) is_part is_moved is_read is = tt

  -- the same where all of the grown part is near
  pub all-holds : there.width ≡ w → there.height ≡ h → HoldsGrown image radius policy part (raw (cut image there) there ++ replicate 64 0)
  all-holds width height = record {
    room =
        subst (λ (n : ℕ). depth image.format * (h * (n * channels image.format) + 16) ≤ length (raw (cut image there) there ++ replicate 64 0)) width
        (subst (λ (n : ℕ). depth image.format * (n * (there.width * channels image.format) + 16) ≤ length (raw (cut image there) there ++ replicate 64 0)) height
        (padded-room image.format there (at image)));
    samples = record {
      samples = λ x y c column row known.
          ap (λ (n : ℕ). pixel_at image.format (raw (cut image there) there ++ replicate 64 0) (y * n + x) c) (sym width)
          ∙ padded-samples image.format there (at image) x y c (omega (arith, width, column)) (omega (arith, height, row)) known
          ∙ read-all radius image policy part near width height x y c column row;
    };
  }

  pub all-made : {E : Type 0} (p : Image) (made : Result (Vec ℕ Global) E) → p ≡ cut image there → there.width ≡ w → there.height ≡ h
      → IfOk made (λ bytes. bytes.items ≡ raw p p.box ++ replicate 64 0) → IfOk made (λ bytes. HoldsGrown image radius policy part bytes.items)
  all-made p (Ok bytes) is_part width height is =
      subst (HoldsGrown image radius policy part) (sym (is ∙ ap (λ (i : Image). raw i i.box ++ replicate 64 0) is_part)) (all-holds width height)
  all-made p (Err refused) is_part width height is = tt

  pub InLimits-grown : (r : Rectangle) → r ≡ spanning 0 0 w h → radius ≤ 64 → part.width ≤ 64 → part.height ≤ 64 → InLimits r
  InLimits-grown r is few columns rows =
      let width : w ≤ 192 = omega arith in
      let height : h ≤ 192 = omega arith in
      subst InLimits (sym (is ∙ corner-is w h wide high)) (omega (arith, width), omega (arith, height), omega (arith, mul-le w h 192 192 width height))
