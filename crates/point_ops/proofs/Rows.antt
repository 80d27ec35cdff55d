-- Rows of pixels that follow one another.
use Rattle.std.proofs.Common.{◌≡◌, ℕ, ◌+◌, ◌-◌, ◌*◌, ◌/◌, ◌<◌, inl, inr, List, ◌++◌, length, get_or, sym, ap, ◌∙◌, arith, length-append}
use Rattle.std.proofs.lemmas.Bool.{cases_lt}
use Rattle.std.proofs.lemmas.List.{get_or-append-add, get_or_append_left}
use Rattle.std.proofs.lemmas.Nat.{mul-add-lt}
use Rattle.pixel_formats.specs.Format.{channels, depth, pixel_bytes}
use Rattle.pixel_formats.specs.Row.{HasPixels, Pixel, pixel_at, pixel_count}
use Rattle.pixel_formats.specs.declared.format.Format.{Format}
use Rattle.pixel_formats.specs.declared.format.Format.TheVariants.{Y8}
use Rattle.pixel_formats.proofs.FormatLaws.{sample_equal}
use Rattle.sample_rows.proofs.RowLaws.{pixel_count_of}
use Rattle.patch_abyss.proofs.Parts.{byte_index, byte_within}

more-pixels : (f : Format) (n l : ℕ) → (n * pixel_bytes f + l) / pixel_bytes f ≡ n + l / pixel_bytes f
more-pixels Y8 n l = omega arith
more-pixels f n l = omega arith

module _ (f : Format) (a b : List ℕ) (n : ℕ) (long : length a ≡ n * pixel_bytes f) where
  in-first : (k c : ℕ) → k < n → c < channels f → pixel_at f (a ++ b) k c ≡ pixel_at f a k c
  in-first k c below known =
      let m = channels f in
      let d = depth f in
      sample_equal d (a ++ b) a (k * m + c) (k * m + c)
      (λ t few.
      get_or_append_left a b 0 (d * (k * m + c) + t)
      (omega (arith, byte_index k m d c t, long, mul-add-lt k (m * d) (d * c + t) n below (byte_within m d c t known few))))

  in-second : (k c : ℕ) → c < channels f → pixel_at f (a ++ b) (n + k) c ≡ pixel_at f b k c
  in-second k c known =
      let m = channels f in
      let d = depth f in
      sample_equal d (a ++ b) b ((n + k) * m + c) (k * m + c)
      (λ t few.
      let index : d * ((n + k) * m + c) + t ≡ length a + (d * (k * m + c) + t) = omega (arith, byte_index (n + k) m d c t, byte_index k m d c t, long) in
      ap (λ (i : ℕ). get_or (a ++ b) i 0) index ∙ get_or-append-add a b (d * (k * m + c) + t) 0)

  pub HasPixels-append : (pixels : ℕ → Pixel) → HasPixels f a pixels → HasPixels f b (λ k. pixels (n + k)) → HasPixels f (a ++ b) pixels
  HasPixels-append pixels first second k c below known = elim (cases_lt k n) [
    | inl lt ↦ in-first k c lt known ∙ first k c (omega (arith, lt, pixel_count_of f a n long)) known
    | inr past ↦
        let is : k ≡ n + (k - n) = omega (arith, past) in
        let count : pixel_count f (a ++ b) ≡ n + pixel_count f b =
        ap (λ (l : ℕ). l / pixel_bytes f) (length-append a b ∙ ap (λ (l : ℕ). l + length b) long) ∙ more-pixels f n (length b) in
        ap (λ (i : ℕ). pixel_at f (a ++ b) i c) is
        ∙ in-second (k - n) c known
        ∙ second (k - n) c (omega (arith, past, count, below)) known
        ∙ ap (λ (i : ℕ). pixels i c) (sym is)
  ]
