-- What becomes of pixels depends on nothing but their channels.
use Rattle.std.proofs.Common.{◌≡◌, ℕ, ◌+◌, ◌-◌, ◌<◌, Bool, true, false, ◌&&◌, cond, eqb, ltb, refl, ap, ◌∙◌, arith}
use Rattle.std.proofs.lemmas.Bool.Decides.{nat_tests}
use Rattle.pixel_formats.specs.Average.{mean_of_three}
use Rattle.pixel_formats.specs.Convert.{color_of, converted_pixel, gray_of, is_gray, rescaled}
use Rattle.pixel_formats.specs.Format.{channels, depth, has_alpha, max_sample}
use Rattle.pixel_formats.specs.Gain.{gained}
use Rattle.pixel_formats.specs.Invert.{inverted}
use Rattle.pixel_formats.specs.Recolor.{cap, is_alpha, recolored}
use Rattle.pixel_formats.specs.Row.{Pixel}
use Rattle.pixel_formats.specs.Threshold.{thresholded}
use Rattle.pixel_formats.specs.declared.format.Format.{Format}
use Rattle.pixel_formats.proofs.FormatLaws.{by_alpha, by_channels, some_channels}
use Rattle.point_ops.specs.Changes.{changed_format, changed_pixel}
use Rattle.point_ops.specs.declared.change.Change.{Change}
use Rattle.point_ops.specs.declared.change.Change.TheVariants.{Convert, Invert, Threshold, Gain}

-- two pixels have the same samples in so many channels
abbrev pub Agree : ℕ → Pixel → Pixel → Type 0
Agree n p q = (c : ℕ) → c < n → p c ≡ q c

pub last_channel : (f : Format) → channels f - 1 < channels f
last_channel f = omega (arith, some_channels f)

cap-agrees : (f : Format) (p q : Pixel) → Agree (channels f) p q → cap f p ≡ cap f q
cap-agrees f p q agree = ap (λ (x : ℕ). cond (has_alpha f) x (max_sample f)) (agree (channels f - 1) (last_channel f))

pub recolored-agrees : (f : Format) (change : ℕ → ℕ → ℕ) (p q : Pixel) (c : ℕ) → Agree (channels f) p q → c < channels f
    → recolored f change p c ≡ recolored f change q c
recolored-agrees f change p q c agree known =
    ap (λ (x : ℕ). cond (is_alpha f c) x (change (cap f p) x)) (agree c known)
    ∙ ap (λ (x : ℕ). cond (is_alpha f c) (q c) (change x (q c))) (cap-agrees f p q agree)

-- a color channel of a format of three colors
color_channel : (to : Format) (c : ℕ) → c < channels to → is_alpha to c ≡ false → is_gray to ≡ false → c < 3
color_channel to c =
    by_alpha (λ n alpha. c < n → (alpha && eqb (c + 1) n) ≡ false → ltb n 3 ≡ false → c < 3)
    (λ known color colors. absurd (cc colors))
    (λ known color colors. absurd (cc colors))
    (λ known color colors. known)
    (λ known color colors. grind (arith, nat_tests))
    to

three_channels : (from : Format) → is_gray from ≡ false → 2 < channels from
three_channels =
    by_channels (λ n. ltb n 3 ≡ false → 2 < n) (λ colors. absurd (cc colors)) (λ colors. absurd (cc colors)) (λ colors. omega arith) (λ colors. omega arith)

module _ (from to : Format) (p q : Pixel) (c : ℕ) (agree : Agree (channels from) p q) (known : c < channels to) where
  first : p 0 ≡ q 0
  first = agree 0 (some_channels from)

  gray-agrees : (gray : Bool) → is_gray from ≡ gray → cond gray (p 0) (mean_of_three (p 0) (p 1) (p 2)) ≡ cond gray (q 0) (mean_of_three (q 0) (q 1) (q 2))
  gray-agrees true is = first
  gray-agrees false is =
      let three = three_channels from is in
      ap (λ (x : ℕ). mean_of_three x (p 1) (p 2)) first
      ∙ ap (λ (x : ℕ). mean_of_three (q 0) x (p 2)) (agree 1 (omega (arith, three)))
      ∙ ap (λ (x : ℕ). mean_of_three (q 0) (q 1) x) (agree 2 three)

  color-agrees : (gray : Bool) → is_gray from ≡ gray → c < 3 → cond gray (p 0) (p c) ≡ cond gray (q 0) (q c)
  color-agrees true is color = first
  color-agrees false is color = agree c (omega (arith, three_channels from is))

  channel-agrees : (alpha gray : Bool) → is_alpha to c ≡ alpha → is_gray to ≡ gray
      → cond alpha (cap from p) (cond gray (gray_of from p) (color_of from p c)) ≡ cond alpha (cap from q) (cond gray (gray_of from q) (color_of from q c))
  channel-agrees true gray its of = cap-agrees from p q agree
  channel-agrees false true its of = gray-agrees (is_gray from) refl
  channel-agrees false false its of = color-agrees (is_gray from) refl (color_channel to c known its of)

  pub converted-agrees : converted_pixel from to p c ≡ converted_pixel from to q c
  converted-agrees = ap (rescaled (depth from) (depth to)) (channel-agrees (is_alpha to c) (is_gray to) refl refl)

pub changed-agrees : (change : Change) (from : Format) (p q : Pixel) (c : ℕ) → Agree (channels from) p q → c < channels (changed_format change from)
    → changed_pixel change from p c ≡ changed_pixel change from q c
changed-agrees (Convert to) from p q c agree known = converted-agrees from to p q c agree known
changed-agrees Invert from p q c agree known = recolored-agrees from inverted p q c agree known
changed-agrees (Threshold level) from p q c agree known = recolored-agrees from (thresholded level) p q c agree known
changed-agrees (Gain num den) from p q c agree known = recolored-agrees from (gained num den) p q c agree known
