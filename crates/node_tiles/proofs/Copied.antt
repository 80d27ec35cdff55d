-- Tiles that are those of a window.
use Rattle.std.proofs.Common.{◌≡◌, ℕ, List, All, Bool, Bor, true, false, not, get_or, Option, Some, None, IfSome, refl, sym, ap, ◌∙◌, subst}
use Rattle.std.specs.Prelude.{slice_get}
use Rattle.std.specs.Option.{option_copied}
use Rattle.plane_rect.specs.Rectangle.{Includes, Rectangle}
use Rattle.plane_rect.specs.Tile.{Tile, tile_square}
use Rattle.model_images.specs.Paint.{cut}
use Rattle.model_images.specs.Raw.{tile_bytes}
use Rattle.model_images.specs.Tiles.{AreTileBytes}
use Rattle.model_graphs.specs.Meanings.{Meanings, result_box}
use Rattle.model_graphs.specs.Windows.{IsWholeWindow, Window, tiles_of}
use Rattle.op_contracts.specs.Applying.{CopiesInput, result_of_windows, window_bounds}
use Rattle.op_contracts.proofs.Applied.{get-there, got-below}
use Rattle.op_contracts.proofs.Copied.{copied-tile}
use Rattle.std.proofs.lemmas.Option.{same_Some}
use Rattle.node_tiles.specs.Jobs.{IsApplicable}

pub true-unless : (b : Bool) → false ≡ (not b) → b ≡ true
true-unless true is = refl
true-unless false is = absurd (cc)

-- the tile that an operation makes, where it copies an input over the whole tile
pub copied-is : {Op : Type 0} (meanings : Meanings Op) (operation : Op) (boxes : List Rectangle) (windows : List Window) (input : ℕ) (window : Window) (part : Rectangle) (tile : Tile) (bytes : List ℕ)
    → IsApplicable meanings operation boxes windows part → CopiesInput meanings operation boxes part input → slice_get windows input ≡ Some window
    → part ≡ tile_square tile → tiles_of window tile ≡ Some bytes → AreTileBytes window.format bytes
    → bytes ≡ tile_bytes (cut (result_of_windows meanings operation windows) part) tile
copied-is meanings operation boxes windows input window part tile bytes applicable copies there square held are =
    let own = applicable.boxes_are in
    sym (ap (λ r. tile_bytes (cut (result_of_windows meanings operation windows) r) tile) square
    ∙ copied-tile meanings operation windows input window there tile
    (subst (λ (r : Rectangle). CopiesInput meanings operation (window_bounds windows) r input) square (subst (λ (bs : List Rectangle). CopiesInput meanings operation bs part input) own copies))
    applicable.format bytes held are.whole are.small
    (subst (Includes (result_box meanings operation (window_bounds windows))) square (subst (λ (bs : List Rectangle). Includes (result_box meanings operation bs) part) own applicable.inside)))

-- what holds of each window holds of the one of a number
pub window-whole : (windows : List Window) (input : ℕ) (window : Window) → slice_get windows input ≡ Some window → All IsWholeWindow windows → IsWholeWindow window
window-whole windows input window there whole =
    let below = got-below windows input window there in
    subst IsWholeWindow (same_Some (get_or windows input window) window (sym (get-there windows input window below) ∙ there)) (whole input window below)

-- what holds of the bytes that are found
pub some-copied : (A P : List ℕ → Type 0) (found : Option (Bor (List ℕ))) → IfSome found (λ t. A t.now)
    → ((bytes : List ℕ) → option_copied found ≡ Some bytes → A bytes → P bytes) → IfSome found (λ t. P t.now)
some-copied A P (Some t) are leads = leads t.now refl are
some-copied A P None are leads = tt
