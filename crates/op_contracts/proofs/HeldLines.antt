-- Lines of tiles that windows have.
use Rattle.std.proofs.Common.{◌≡◌, ℕ, ◌+◌, ◌-◌, ◌<◌, ◌≤◌, List, [], ◌∷◌, ◌++◌, Some, length, get_or, refl, sym, ap, ◌∙◌, inl, inr, arith}
use Rattle.std.proofs.Math.ListN.{length-append}
use Rattle.std.proofs.lemmas.Bool.{cases_lt}
use Rattle.std.proofs.lemmas.List.{get_or-append_right, get_or_append_left, get_or_default}
use Rattle.plane_rect.specs.Rectangle.{Includes, Rectangle}
use Rattle.plane_rect.specs.Tile.{tile_at, tile_of}
use Rattle.model_graphs.specs.Windows.{IsWholeWindow, Window, tiles_of, window_image}
use Rattle.patch_abyss.specs.Lines.{AreLineTiles, HasLine}
use Rattle.op_contracts.specs.HeldBytes.{HasTiles}
use Rattle.op_contracts.proofs.Shown.{found-long, shown-of}

-- a line of tiles up to a column
pub record IsFilled (window : Window) (part : Rectangle) (line column : ℕ) (tiles : List (List ℕ)) : Type 0 where
  pub count : length tiles ≡ column - tile_of part.first_column
  pub each : (j : ℕ) → j < length tiles
      → tiles_of window (record { column = tile_of part.first_column + j; row = line }) ≡ Some (get_or tiles j [])

pub IsFilled-none : (window : Window) (part : Rectangle) (line column : ℕ) → column ≡ tile_of part.first_column → IsFilled window part line column []
IsFilled-none window part line column is = record { count = omega (arith, is); each = λ j lt. absurd (omega arith) }

pub IsFilled-more : (window : Window) (part : Rectangle) (line column : ℕ) (tiles : List (List ℕ)) (tile : List ℕ) → tile_of part.first_column ≤ column
    → tiles_of window (record { column = column; row = line }) ≡ Some tile → IsFilled window part line column tiles
    → IsFilled window part line (column + 1) (tiles ++ tile ∷ [])
IsFilled-more window part line column tiles tile le found h =
    let first = tile_of part.first_column in
    let long : length (tiles ++ tile ∷ []) ≡ length tiles + 1 = length-append tiles (tile ∷ []) in
    record {
      count = omega (arith, long, h.count);
      each = λ j lt. elim (cases_lt j (length tiles)) [
        | inl earlier ↦ h.each j earlier ∙ ap Some (sym (get_or_append_left tiles (tile ∷ []) [] j earlier))
        | inr last ↦
            let at_last : j ≡ length tiles = omega (arith, long) in
            let there : first + j ≡ column = omega (arith, at_last, h.count) in
            let none : j - length tiles ≡ 0 = omega (arith, at_last) in
            ap (λ (u : ℕ). tiles_of window (record { column = u; row = line })) there ∙ found
            ∙ ap Some (sym (get_or-append_right tiles (tile ∷ []) (length tiles) j [] refl last ∙ ap (λ (i : ℕ). get_or (tile ∷ []) i []) none))
      ];
    }

-- each tile of a line has as many bytes as a tile
pub HasTiles-long : (window : Window) (part : Rectangle) (line : ℕ) (tiles : List (List ℕ)) → IsWholeWindow window → HasTiles window part line tiles
    → AreLineTiles window.format part tiles
HasTiles-long window part line tiles whole has = record {
  count = has.count;
  lengths = λ k d lt.
      ap length (get_or_default tiles k d [] lt)
      ∙ found-long window.format (record { column = tile_of part.first_column + k; row = line }) window.tiles (get_or tiles k []) whole.lengths (has.each k lt);
}

-- the tiles of a line have what the window shows
pub HasTiles-line : (window : Window) (part : Rectangle) (line : ℕ) (tiles : List (List ℕ)) → Includes window.bounds part → HasTiles window part line tiles
    → HasLine (window_image window) part line tiles
HasTiles-line window part line tiles inside has = λ u v c there is known.
    let j = tile_of u - tile_of part.first_column in
    let lt : j < length tiles = omega (arith, has.count, there.column.0, there.column.1) in
    let column_is : tile_of part.first_column + j ≡ tile_of u = omega (arith, there.column.0) in
    let found : tiles_of window (tile_at u v) ≡ Some (get_or tiles j []) =
    ap (λ (i : ℕ). tiles_of window (record { column = i; row = tile_of v })) (sym column_is)
    ∙ ap (λ (i : ℕ). tiles_of window (record { column = tile_of part.first_column + j; row = i })) is
    ∙ has.each j lt in
    sym (shown-of window u v c (Some (get_or tiles j [])) (inside u v there) known found)
