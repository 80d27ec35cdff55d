-- Lines of tiles of a root, and the parts that they make.
use Rattle.std.proofs.Common.{◌≡◌, ℕ, ◌+◌, ◌-◌, ◌*◌, ◌<◌, ◌≤◌, All, List, [], ◌∷◌, ◌++◌, length, get_or, Option, Some, None, inl, inr, refl, sym, ap, ◌∙◌, arith}
use Rattle.std.specs.Prelude.{IfSome}
use Rattle.std.specs.Option.{option_map}
use Rattle.std.proofs.Math.ListN.{length-append}
use Rattle.std.proofs.lemmas.Bool.{cases_lt}
use Rattle.std.proofs.lemmas.List.{get_or-append_right, get_or_append_left}
use Rattle.std.proofs.lemmas.List.Elements.{All-push}
use Rattle.level_tables.specs.Over.{IsTileOfLevel}
use Rattle.model_images.specs.FromRaw.{pixels_from_raw}
use Rattle.model_images.specs.Image.{Image}
use Rattle.model_images.specs.Raw.{tile_bytes}
use Rattle.model_images.proofs.LevelLaws.{level-zero}
use Rattle.model_images.proofs.RawLaws.{raw-samples}
use Rattle.pixel_formats.specs.Format.{pixel_bytes}
use Rattle.pixel_formats.specs.declared.format.Format.{Format}
use Rattle.plane_rect.specs.Rectangle.{Rectangle, end_column}
use Rattle.plane_rect.specs.Tile.{tile_at, tile_end, tile_of, tile_square}
use Rattle.plane_rect.proofs.TileLists.{Inside-tile_square}
use Rattle.patch_abyss.specs.Lines.{HasLine}

-- where an image is known, bytes are those of one of its tiles
abbrev pub IsKnownTile : Option Image → ℕ → ℕ → List ℕ → Type 0
IsKnownTile image column line bytes = IfSome image (λ known. bytes ≡ tile_bytes known (record { column = column; row = line }))

-- the tiles of a line from that of a part's first column up to a column
pub record IsFilled (format : Format) (image : Option Image) (part : Rectangle) (line column : ℕ) (tiles : List (List ℕ)) : Type 0 where
  pub count : length tiles ≡ column - tile_of part.first_column
  pub lengths : All (λ bytes. length bytes ≡ 4096 * pixel_bytes format) tiles
  pub known : (j : ℕ) → j < length tiles → IsKnownTile image (tile_of part.first_column + j) line (get_or tiles j [])

known-at : (image : Option Image) (column column' line : ℕ) (bytes bytes' : List ℕ) → column ≡ column' → bytes ≡ bytes'
    → IsKnownTile image column line bytes → IsKnownTile image column' line bytes'
known-at None column column' line bytes bytes' at same is = tt
known-at (Some image) column column' line bytes bytes' at same is =
    sym same ∙ is ∙ ap (λ (u : ℕ). tile_bytes image (record { column = u; row = line })) at

pub known-first : (image : Option Image) (column line : ℕ) (bytes : List ℕ)
    → IsTileOfLevel image 0 (record { column = column; row = line }) bytes → IsKnownTile image column line bytes
known-first None column line bytes is = tt
known-first (Some image) column line bytes is = is ∙ ap (λ (i : Image). tile_bytes i (record { column = column; row = line })) (level-zero image)

pub IsFilled-none : (format : Format) (image : Option Image) (part : Rectangle) (line column : ℕ) → column ≡ tile_of part.first_column
    → IsFilled format image part line column []
IsFilled-none format image part line column is = record {
  count = omega (arith, is);
  lengths = λ k d lt. absurd (omega arith);
  known = λ j lt. absurd (omega arith);
}

pub IsFilled-more : (format : Format) (image : Option Image) (part : Rectangle) (line column : ℕ) (tiles : List (List ℕ)) (tile : List ℕ)
    → tile_of part.first_column ≤ column → length tile ≡ 4096 * pixel_bytes format → IsKnownTile image column line tile
    → IsFilled format image part line column tiles → IsFilled format image part line (column + 1) (tiles ++ tile ∷ [])
IsFilled-more format image part line column tiles tile le whole is h =
    let first = tile_of part.first_column in
    let long : length (tiles ++ tile ∷ []) ≡ length tiles + 1 = length-append tiles (tile ∷ []) in
    record {
      count = omega (arith, long, h.count);
      lengths = All-push (λ bytes. length bytes ≡ 4096 * pixel_bytes format) tiles tile h.lengths whole;
      known = λ j lt. elim (cases_lt j (length tiles)) [
        | inl earlier ↦ known-at image (first + j) (first + j) line (get_or tiles j []) _ refl (sym (get_or_append_left tiles (tile ∷ []) [] j earlier)) (h.known j earlier)
        | inr last ↦
            let at_last : j ≡ length tiles = omega (arith, long) in
            let there : column ≡ first + j = omega (arith, at_last, h.count) in
            let none : j - length tiles ≡ 0 = omega (arith, at_last) in
            known-at image column (first + j) line tile _ there
            (sym (get_or-append_right tiles (tile ∷ []) (length tiles) j [] refl last ∙ ap (λ (i : ℕ). get_or (tile ∷ []) i []) none)) is
      ];
    }

-- a whole line has the pixels of the image
pub IsFilled-line : (format : Format) (image : Option Image) (part : Rectangle) (line column : ℕ) (tiles : List (List ℕ))
    → column ≡ tile_end (end_column part) → IsFilled format image part line column tiles → IfSome image (λ known. HasLine known part line tiles)
IsFilled-line format None part line column tiles all h = tt
IsFilled-line format (Some image) part line column tiles all h = λ u v c there is known.
    let j = tile_of u - tile_of part.first_column in
    let lt : j < length tiles = omega (arith, all, h.count, there.column.0, there.column.1) in
    let column_is : tile_of part.first_column + j ≡ tile_of u = omega (arith, there.column.0) in
    ap (λ (bytes : List ℕ). pixels_from_raw (tile_square (tile_at u v)) image.format bytes u v c)
    (known-at (Some image) (tile_of part.first_column + j) (tile_of u) line (get_or tiles j []) (get_or tiles j []) column_is refl (h.known j lt)
    ∙ ap (λ (row : ℕ). tile_bytes image (record { column = tile_of u; row = row })) (sym is))
    ∙ raw-samples image (tile_square (tile_at u v)) u v c ((Inside-tile_square u v (tile_at u v)).1 refl) known

-- what holds of an image where it is known
pub if-known : {X : Type 0} (content : Option X) (image : Image) (P Q : Image → Type 0) → IfSome (option_map (λ (x : X). image) content) P
    → (P image → Q image) → IfSome (option_map (λ (x : X). image) content) Q
if-known None image P Q is gives = tt
if-known (Some x) image P Q is gives = gives is

pub both-known : {X : Type 0} (content : Option X) (image : Image) (P Q R : Image → Type 0) → IfSome (option_map (λ (x : X). image) content) P
    → IfSome (option_map (λ (x : X). image) content) Q → (P image → Q image → R image) → IfSome (option_map (λ (x : X). image) content) R
both-known None image P Q R p q gives = tt
both-known (Some x) image P Q R p q gives = gives p q

pub always-known : {X : Type 0} (content : Option X) (image : Image) (P : Image → Type 0) → P image → IfSome (option_map (λ (x : X). image) content) P
always-known None image P is = tt
always-known (Some x) image P is = is
