-- That `==` is the test by which meanings distinguish operations.
use Rattle.std.proofs.Common.{◌≡◌, true, false, ◌&&◌, eqb, refl, sym, ◌∙◌}
use Rattle.std.specs.Str.{bytes_eq}
use Rattle.std.proofs.Math.Bool.{and_assoc}
use Rattle.plane_rect.specs.Rectangle.{same_rectangle}
use Rattle.pixel_formats.specs.Format.{same_format}
use Rattle.pixel_formats.specs.contracts.format.FormatPartialEq.TheImpl as formats
use Rattle.pixel_formats.specs.declared.format.Format.{Format}
use Rattle.pixel_formats.specs.declared.format.Format.TheVariants.{Y8, YA8, RGB8, RGBA8, Y16, YA16, RGB16, RGBA16, Y32, YA32, RGB32, RGBA32}
use Rattle.pixel_formats.specs.contracts.abyss.AbyssPartialEq.TheImpl as abysses
use Rattle.pixel_formats.specs.declared.abyss.Abyss.{Abyss}
use Rattle.pixel_formats.specs.declared.abyss.Abyss.TheVariants as policies
use Rattle.model_operations.specs.Meanings.{same_operation, same_policy}
use Rattle.model_operations.specs.contracts.operation.IntOpPartialEq.TheImpl as operations
use Rattle.model_operations.specs.declared.operation.IntOp.{IntOp}
use Rattle.model_operations.specs.declared.operation.IntOp.TheVariants.{Color, Checker, Convert, Invert, Threshold, Gain, Translate, Crop, Flip, BoxMean, Dilate, Erode, Add, Over, Mask}

eq-format : (a b : Format) → formats.ghosts.eq a b ≡ same_format a b
eq-format Y8 Y8 = refl
eq-format YA8 YA8 = refl
eq-format RGB8 RGB8 = refl
eq-format RGBA8 RGBA8 = refl
eq-format Y16 Y16 = refl
eq-format YA16 YA16 = refl
eq-format RGB16 RGB16 = refl
eq-format RGBA16 RGBA16 = refl
eq-format Y32 Y32 = refl
eq-format YA32 YA32 = refl
eq-format RGB32 RGB32 = refl
eq-format RGBA32 RGBA32 = refl
eq-format _ _ = refl

eq-policy : (a b : Abyss) → abysses.ghosts.eq a b ≡ same_policy a b
eq-policy policies.None policies.None = refl
eq-policy policies.Clamp policies.Clamp = refl
eq-policy policies.Loop policies.Loop = refl
eq-policy policies.Black policies.Black = refl
eq-policy policies.White policies.White = refl
eq-policy _ _ = refl

pub eq-operation : (a b : IntOp) → operations.ghosts.eq a b ≡ same_operation a b
eq-operation (Color f r s) (Color g q t) = rw (eq-format f g) (sym (and_assoc (same_format f g) (same_rectangle r q) (bytes_eq s t)))
eq-operation (Checker f r n a b) (Checker g q m c d) =
    let prefix = same_format f g && same_rectangle r q in
    rw (eq-format f g) (
    sym (and_assoc (same_format f g) (same_rectangle r q) (eqb n m && (eqb a c && eqb b d)))
    ∙ sym (and_assoc prefix (eqb n m) (eqb a c && eqb b d))
    ∙ sym (and_assoc (prefix && eqb n m) (eqb a c) (eqb b d))
    )
eq-operation (Convert f) (Convert g) = eq-format f g
eq-operation Invert Invert = refl
eq-operation (Threshold a) (Threshold b) = refl
eq-operation (Gain a b) (Gain c d) = refl
eq-operation (Translate a b) (Translate c d) = refl
eq-operation (Crop r) (Crop q) = refl
eq-operation (Flip true) (Flip true) = refl
eq-operation (Flip true) (Flip false) = refl
eq-operation (Flip false) (Flip true) = refl
eq-operation (Flip false) (Flip false) = refl
eq-operation (BoxMean n a) (BoxMean m b) = rw (eq-policy a b) refl
eq-operation (Dilate n a) (Dilate m b) = rw (eq-policy a b) refl
eq-operation (Erode n a) (Erode m b) = rw (eq-policy a b) refl
eq-operation Add Add = refl
eq-operation Over Over = refl
eq-operation Mask Mask = refl
eq-operation _ _ = refl
