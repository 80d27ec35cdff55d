-- The tiles of buffers of zeros.
use Rattle.std.proofs.Common.{◌≡◌, ℕ, ◌*◌, List, [], ◌∷◌, Bool, true, false, cond, replicate, Some, None, refl, sym, ap, ◌∙◌}
use Rattle.std.specs.Prelude.{IsSome, unwrap_or}
use Rattle.std.specs.Str.{bytes_eq}
use Rattle.plane_rect.specs.Tile.{Tile, tile_square}
use Rattle.pixel_formats.specs.Format.{pixel_bytes}
use Rattle.model_images.specs.Image.{Image, at}
use Rattle.model_images.specs.Paint.{blank, no_image}
use Rattle.model_images.specs.Raw.{tile_bytes}
use Rattle.model_images.proofs.Laws.{at-image_from_fn, at_outside}
use Rattle.model_images.proofs.Positions.{by_positions}
use Rattle.model_images.proofs.RawLaws.{raw-zeros}
use Rattle.model_graphs.specs.Evaluation.{buffer_image}
use Rattle.model_graphs.specs.Facts.{fact_of}
use Rattle.model_graphs.specs.declared.buffer.BufferFact.{BufferFact}
use Rattle.test_kit.specs.BlankBuffers.{blank_images}

-- the only buffer is that of a name which some buffer has
named : (fact : BufferFact) (b : Bool) → IsSome (cond b (Some fact) None)
    → unwrap_or (cond b (Some (blank fact.bounds fact.format)) None) no_image ≡ blank fact.bounds fact.format
named fact true some = refl
named fact false none = absurd (cc none)

pub blank-tile : (fact : BufferFact) (buffer : List ℕ) (tile : Tile) → IsSome (fact_of (fact ∷ []) buffer)
    → replicate (4096 * pixel_bytes fact.format) 0 ≡ tile_bytes (buffer_image (blank_images fact) buffer) tile
blank-tile fact buffer tile some =
    let image = blank fact.bounds fact.format in
    sym
    (ap (λ (shown : Image). tile_bytes shown tile) (named fact (bytes_eq buffer fact.name) some)
    ∙ raw-zeros image (tile_square tile)
    (λ u v c there known. by_positions (at image u v c ≡ 0) u v fact.bounds
    (λ inside. at-image_from_fn fact.bounds fact.format (λ u v c. 0) u v c inside known)
    (λ out. at_outside image u v c out)))
