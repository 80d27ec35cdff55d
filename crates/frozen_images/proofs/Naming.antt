-- Frozen buffers by their names.
use Rattle.std.proofs.Common.{◌≡◌, ℕ, ◌*◌, List, [], ◌∷◌, Bool, true, false, cond, length, Option, Some, None, refl, sym, ap, ◌∙◌, subst}
use Rattle.std.specs.Prelude.{IfSome, IsSome, option_map, unwrap_or}
use Rattle.std.specs.List.{find}
use Rattle.std.specs.Map.{lookup}
use Rattle.std.specs.Str.{bytes_eq}
use Rattle.plane_rect.specs.Rectangle.{Rectangle}
use Rattle.plane_rect.specs.Tile.{Tile}
use Rattle.pixel_formats.specs.Format.{pixel_bytes}
use Rattle.pixel_formats.specs.declared.format.Format.{Format}
use Rattle.model_images.specs.Image.{Image}
use Rattle.model_images.specs.Paint.{no_image}
use Rattle.model_images.specs.Raw.{tile_bytes}
use Rattle.model_images.specs.Tiles.{held_image}
use Rattle.model_images.proofs.ByteLaws.{length-tile_bytes}
use Rattle.model_graphs.specs.declared.buffer.BufferFact.{BufferFact}
use Rattle.model_graphs.specs.Facts.{fact_of}
use Rattle.op_contracts.specs.Sources.{HasBufferLength, IsTileOf}
use Rattle.frozen_images.specs.Frozen.{bytes_in, frozen_image}
use Rattle.frozen_images.specs.Scenes.{NamedTiles, SuitsFact, buffer_image_of, facts_in, images_in}

-- the first buffer of a name
abbrev pub named : List NamedTiles → List ℕ → Option NamedTiles
named buffers name = find (λ (buffer : NamedTiles). bytes_eq name buffer.fact.name) buffers

choose : {X Y : Type 0} (f : X → Y) (b : Bool) (x : X) (rest : Option X) (others : Option Y) → others ≡ option_map f rest
    → cond b (Some (f x)) others ≡ option_map f (cond b (Some x) rest)
choose f true x rest others is = refl
choose f false x rest others is = is

fact-named : (buffers : List NamedTiles) (name : List ℕ) → fact_of (facts_in buffers) name ≡ option_map (λ (buffer : NamedTiles). buffer.fact) (named buffers name)
fact-named [] name = refl
fact-named (buffer ∷ buffers) name =
    choose (λ (b : NamedTiles). b.fact) (bytes_eq name buffer.fact.name) buffer (named buffers name) (fact_of (facts_in buffers) name) (fact-named buffers name)

image-named : (buffers : List NamedTiles) (name : List ℕ) → lookup (bytes_eq name) (images_in buffers) ≡ option_map buffer_image_of (named buffers name)
image-named [] name = refl
image-named (buffer ∷ buffers) name =
    choose buffer_image_of (bytes_eq name buffer.fact.name) buffer (named buffers name) (lookup (bytes_eq name) (images_in buffers)) (image-named buffers name)

pub some-of : {X Y : Type 0} (f : X → Y) (found : Option X) → IsSome (option_map f found) → IsSome found
some-of f None some = absurd (cc some)
some-of f (Some x) some = refl

-- a buffer that is known is among them
pub known-named : (buffers : List NamedTiles) (name : List ℕ) → IsSome (fact_of (facts_in buffers) name) → IsSome (named buffers name)
known-named buffers name some =
    some-of (λ (b : NamedTiles). b.fact) (named buffers name)
    (subst (λ (found : Option BufferFact). IsSome found) (fact-named buffers name) some)

-- its image is that of its tiles
frozen-shown : (buffer : NamedTiles) → SuitsFact buffer → frozen_image buffer.image ≡ buffer_image_of buffer
frozen-shown buffer suits =
    ap (λ (r : Rectangle). held_image r buffer.image.format (bytes_in buffer.image)) suits.bounds
    ∙ ap (λ (f : Format). held_image buffer.fact.bounds f (bytes_in buffer.image)) suits.format

module _ (buffers : List NamedTiles) (name : List ℕ) (buffer : NamedTiles) (found : named buffers name ≡ Some buffer) (suits : SuitsFact buffer)
    (at : Tile) (bytes : List ℕ) (is : bytes ≡ tile_bytes (frozen_image buffer.image) at) where
  pub tile-named : IsTileOf (Some (images_in buffers)) name at bytes
  tile-named =
      is
      ∙ ap (λ (image : Image). tile_bytes image at) (frozen-shown buffer suits)
      ∙ sym (ap (λ (o : Option Image). tile_bytes (unwrap_or o no_image) at) (image-named buffers name ∙ ap (option_map buffer_image_of) found))

  pub length-named : HasBufferLength (facts_in buffers) name bytes
  length-named =
      subst (λ (o : Option BufferFact). IfSome o (λ fact. length bytes ≡ 4096 * pixel_bytes fact.format))
      (sym (fact-named buffers name ∙ ap (option_map (λ (b : NamedTiles). b.fact)) found))
      (ap length is ∙ length-tile_bytes (frozen_image buffer.image) at ∙ ap (λ (f : Format). 4096 * pixel_bytes f) suits.format)
