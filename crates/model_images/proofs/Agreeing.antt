-- The laws of images that agree, and of parts of images.
use Rattle.std.proofs.Common.{◌≡◌, ℕ, ◌<◌, ◌≤◌, inl, inr, refl, sym, ap, ◌∙◌, subst}
use Rattle.std.proofs.lemmas.Bool.{cases_lt}
use Rattle.plane_rect.specs.Rectangle.{AreDisjoint, Rectangle, Includes, Inside}
use Rattle.pixel_formats.specs.Format.{channels}
use Rattle.pixel_formats.specs.declared.format.Format.{Format}
use Rattle.model_images.specs.Agreement.{AgreeElsewhere, AgreeEverywhere, AgreeOutside, IsOldOrNew}
use Rattle.model_images.specs.Image.{Image, IsImage, at, image_from_fn}
use Rattle.model_images.specs.Paint.{cut}
use Rattle.model_images.specs.Raw.{raw}
use Rattle.model_images.proofs.Laws.{at-image_from_fn, at_no_channel, at_outside, generated_equal, same_images}
use Rattle.model_images.proofs.Positions.{by_positions}
use Rattle.model_images.proofs.RawLaws.{raw-over}

-- images of one format are equal at a position where they are in each channel
pub at-by_channels : (a b : Image) (u v c : ℕ) → a.format ≡ b.format → (c < channels a.format → at a u v c ≡ at b u v c) → at a u v c ≡ at b u v c
at-by_channels a b u v c same equal = elim (cases_lt c (channels a.format)) [
  | inl few ↦ equal few
  | inr past ↦ at_no_channel a u v c past ∙ sym (at_no_channel b u v c (subst (λ (f : Format). channels f ≤ c) same past))
]

pub everywhere-equal : (a b : Image) → IsImage a → IsImage b → a.box ≡ b.box → AgreeEverywhere a b → a ≡ b
everywhere-equal a b whole_a whole_b box agreed =
    same_images a b whole_a whole_b (record { box = box; format = agreed.format; samples = λ u v c out. agreed.samples u v c })

pub everywhere-raw : (a b : Image) (r : Rectangle) → AgreeEverywhere a b → raw a r ≡ raw b r
everywhere-raw a b r agreed = raw-over a b r agreed.format (λ u v c there. agreed.samples u v c)

pub elsewhere-raw : (a b : Image) (r part : Rectangle) → AgreeElsewhere a b r → AreDisjoint part r → raw a part ≡ raw b part
elsewhere-raw a b r part agreed apart = raw-over a b part agreed.format (λ u v c there. agreed.samples u v c (apart u v there))

pub everywhere-cut : (a b : Image) (box : Rectangle) → AgreeEverywhere a b → cut a box ≡ cut b box
everywhere-cut a b box agreed =
    generated_equal box a.format (at a) (at b) (λ u v c there known. agreed.samples u v c)
    ∙ ap (λ (f : Format). image_from_fn box f (at b)) agreed.format

-- ---- parts

pub at-cut : (image : Image) (box : Rectangle) (u v c : ℕ) → Inside u v box → at (cut image box) u v c ≡ at image u v c
at-cut image box u v c h =
    at-by_channels (cut image box) image u v c refl (at-image_from_fn box image.format (at image) u v c h)

-- a part of a part is a part
pub cut-cut : (image : Image) (box part : Rectangle) → Includes box part → cut (cut image box) part ≡ cut image part
cut-cut image box part inside =
    generated_equal part image.format (at (cut image box)) (at image) (λ u v c h. λ _. at-cut image box u v c (inside u v h))

pub cut-wider : (image : Image) (box : Rectangle) → Includes box image.box → AgreeEverywhere (cut image box) image
cut-wider image box wide = record {
  format = refl;
  samples = λ u v c. by_positions _ u v box (at-cut image box u v c)
      (λ out. at_outside (cut image box) u v c out ∙ sym (at_outside image u v c (λ there. out (wide u v there))));
}

-- ---- old or new samples

pub old_or_new-outside : (old new now : Image) (r : Rectangle) → AgreeOutside old new r → IsOldOrNew old new now → AgreeOutside old now r
old_or_new-outside old new now r agreed between = record {
  box = sym between.box;
  format = sym between.format;
  samples = λ u v c out. elim (between.pixels u v) [
    | inl same ↦ sym (same c)
    | inr other ↦ agreed.samples u v c out ∙ sym (other c)
  ];
}

pub ruleset part_laws = (at-cut, cut-wider)
