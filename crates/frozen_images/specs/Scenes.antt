-- Buffers whose images are frozen, over whatever chain.
use Rattle.std.specs.Prelude.{◌≡◌, [], ◌∷◌, List, map, Some}
use Rattle.std.proofs.Common.{refl, inr, arith, ap}
use Rattle.chain_owners.specs.Held.{Held}
use Rattle.chain_owners.specs.Owners.{Owns}
use Rattle.model_images.specs.Image.{Image}
use Rattle.model_images.specs.Tiles.{held_image}
use Rattle.model_graphs.specs.declared.buffer.BufferFact.{BufferFact}
use Rattle.model_graphs.specs.Evaluation.{Buffers}
use Rattle.model_graphs.specs.Facts.{AreImagesOf, Facts, shape_of_fact}
use Rattle.model_graphs.specs.Shapes.{Shapes}
use Rattle.op_contracts.specs.Sources.{AreExposed}
use Rattle.frozen_images.specs.Frozen.{FrozenTiles, bytes_in}

-- what is known of a buffer, and its image by tiles
pub record NamedTiles : Type 0 where
  pub fact : BufferFact
  pub image : FrozenTiles

-- the image has the buffer's box and format
pub record SuitsFact (buffer : NamedTiles) : Type 0 where
  pub bounds : buffer.image.box ≡ buffer.fact.bounds
  pub format : buffer.image.format ≡ buffer.fact.format

-- the image that the tiles are over the buffer's box
abbrev pub buffer_image_of : NamedTiles → Image
buffer_image_of buffer = held_image buffer.fact.bounds buffer.fact.format (bytes_in buffer.image)

-- what is known of buffers, in their order
abbrev pub facts_in : List NamedTiles → Facts
facts_in buffers = map (λ (buffer : NamedTiles). buffer.fact) buffers

-- their images, by their names
abbrev pub images_in : List NamedTiles → Buffers
images_in buffers = map (λ (buffer : NamedTiles). (buffer.fact.name, buffer_image_of buffer)) buffers

shapes-shown : (buffers : List NamedTiles) → AreImagesOf (facts_in buffers) (images_in buffers)
shapes-shown [] = refl
shapes-shown (buffer ∷ buffers) =
    ap (λ (shapes : Shapes). (buffer.fact.name, shape_of_fact buffer.fact) ∷ shapes) (shapes-shown buffers)

pub frozen-exposed : (buffers : List NamedTiles) (held : Held) → AreExposed (facts_in buffers) held (Some (images_in buffers))
frozen-exposed buffers held = record { shapes = shapes-shown buffers; known = λ some. refl }

pub owns-none : (held : Held) → Owns held []
owns-none held = record { counted = λ name. inr (omega arith) }
