-- Images that agree outside a rectangle.
use Rattle.std.proofs.Common.{◌≡◌, false, sym, ap, ◌∙◌, subst}
use Rattle.std.specs.List.{flat_map}
use Rattle.plane_rect.specs.Rectangle.{Rectangle, Inside, hull, meet}
use Rattle.plane_rect.specs.Tile.{Tile, tile_square, meets}
use Rattle.plane_rect.proofs.Rectangles.{Inside-meet}
use Rattle.plane_rect.proofs.RectangleLaws.{Includes-hull_left, Includes-hull_right}
use Rattle.plane_rect.proofs.Differences.{no_positions}
use Rattle.pixel_formats.specs.Format.{channels, depth}
use Rattle.pixel_formats.specs.declared.format.Format.{Format}
use Rattle.model_images.specs.Image.{Image, at, sampled}
use Rattle.model_images.specs.Raw.{raw, sample_bytes}
use Rattle.model_images.specs.Agreement.{AgreeOutside}
use Rattle.model_images.proofs.Laws.{at_outside, sampled_equal}
use Rattle.model_images.proofs.Positions.{by_positions}
use Rattle.model_states.specs.Neighbors.{SamplesAgreeOutside}

-- outside their box all images are 0
pub agree-meet : (a b : Image) (r : Rectangle) → AgreeOutside a b r → AgreeOutside a b (meet r b.box)
agree-meet a b r agreed =
    record {
      box = agreed.box;
      format = agreed.format;
      samples = λ u v c out.
          by_positions (at a u v c ≡ at b u v c) u v b.box
          (λ inside. agreed.samples u v c (λ changed. out ((Inside-meet u v r b.box).1 (changed, inside))))
          (λ outside.
          at_outside a u v c (λ inside. outside (subst (λ (box : Rectangle). Inside u v box) agreed.box inside))
          ∙ sym (at_outside b u v c outside));
    }

-- so two images agree outside what includes both boxes
pub agree-boxes : (a b : Image) → SamplesAgreeOutside a b (hull a.box b.box)
agree-boxes a b u v c out =
    at_outside a u v c (λ inside. out (Includes-hull_left a.box b.box u v inside))
    ∙ sym (at_outside b u v c (λ inside. out (Includes-hull_right a.box b.box u v inside)))

-- a tile that does not meet the rectangle has the same bytes in both
pub same_tile_bytes : (a b : Image) (r : Rectangle) (t : Tile) → AgreeOutside a b r → meets t r ≡ false → raw a (tile_square t) ≡ raw b (tile_square t)
unfolding raw
same_tile_bytes a b r t agreed apart =
    ap (λ (format : Format). flat_map (sample_bytes (depth format)) (sampled (tile_square t) (channels format) (at a))) agreed.format
    ∙ ap (λ samples. flat_map (sample_bytes (depth b.format)) samples)
    (sampled_equal (tile_square t) (channels b.format) (at a) (at b)
    (λ u v c there less. agreed.samples u v c (λ changed. no_positions u v (meet (tile_square t) r) apart ((Inside-meet u v (tile_square t) r).1 (there, changed)))))
