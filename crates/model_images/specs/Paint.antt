-- Images that are made of others.
use Rattle.std.specs.Prelude.{ℕ, if◌then◌else◌, List}
use Rattle.plane_rect.specs.Rectangle.{Rectangle, empty}
use Rattle.pixel_formats.specs.Row.{Pixel}
use Rattle.pixel_formats.specs.Invert.{inverted_pixel}
use Rattle.pixel_formats.specs.declared.format.Format.{Format}
use Rattle.pixel_formats.specs.declared.format.Format.TheVariants.{Y8}
use Rattle.model_images.specs.Image.{Image, at, image_from_fn, is_inside}
use Rattle.model_images.specs.FromRaw.{pixels_from_raw}

-- the image of zeros
abbrev pub blank : Rectangle → Format → Image
blank box format = image_from_fn box format (λ u v c. 0)

-- the image of no position, which is taken where there is none
abbrev pub no_image : Image
no_image = blank empty Y8

-- the image over another box: zeros where it has nothing
abbrev pub cut : Image → Rectangle → Image
cut image box = image_from_fn box image.format (at image)

-- the image with the samples that f gives over a rectangle, and else its own
abbrev pub painted : Image → Rectangle → (ℕ → ℕ → Pixel) → Image
painted image rectangle f =
    image_from_fn image.box image.format (λ u v c. if is_inside u v rectangle then f u v c else at image u v c)

-- the image with the samples that are decoded from raw bytes over a rectangle, and else its own
abbrev pub put_raw : Image → Rectangle → List ℕ → Image
put_raw image rectangle bytes = painted image rectangle (pixels_from_raw rectangle image.format bytes)

-- the image of the same box and format, each pixel changed by itself
abbrev pub recolored_image : (Format → Pixel → Pixel) → Image → Image
recolored_image change image = image_from_fn image.box image.format (λ u v. change image.format (at image u v))

-- each color subtracted from its cap, and alpha as it is
abbrev pub inverted_image : Image → Image
inverted_image image = recolored_image inverted_pixel image
