-- Tiles that are collected one by one.
use Rattle.std.proofs.Common.{◌≡◌, ℕ, zero, suc, List, [], ◌∷◌, ◌++◌, All, Option, Some, length, sym, ap, ◌∙◌, subst, arith, append_assoc}
use Rattle.std.specs.Prelude.{slice_get}
use Rattle.std.proofs.lemmas.List.{map-append}
use Rattle.std.proofs.lemmas.List.Elements.{All-append}
use Rattle.plane_rect.specs.Tile.{Tile}
use Rattle.model_graphs.specs.declared.node.Body.{Body}
use Rattle.model_graphs.specs.Evaluation.{Buffers}
use Rattle.model_graphs.specs.Facts.{Facts}
use Rattle.op_contracts.specs.TileList.{tiles_in}
use Rattle.node_tiles.specs.Held.{HeldTiles}
use Rattle.plane_rect.specs.Rectangle.{Rectangle}
use Rattle.model_graphs.specs.declared.node.NodeFact.{NodeFact}
use Rattle.model_graphs.specs.Windows.{Window}
use Rattle.node_tiles.specs.Inputs.{AreInputTiles, AreThere, IsInputTile, IsInputWindow, IsThere}

pub all-one : {X : Type 0} (P : X → Type 0) (x : X) → P x → All P (x ∷ [])
all-one P x is zero d less = is
all-one P x is (suc k) d less = absurd (omega (arith, less))

pub all-more : {X : Type 0} (P : X → Type 0) (xs ys : List X) (x : X) → ys ≡ xs ++ x ∷ [] → All P xs → P x → All P ys
all-more P xs ys x is all one = subst (λ zs. All P zs) (sym is) (All-append P xs (x ∷ []) all (all-one P x one))

pub tiles-more : (entries more : List (Tile × List ℕ)) (entry : Tile × List ℕ) (left rest all : List Tile) → left ≡ entry.0 ∷ rest
    → more ≡ entries ++ entry ∷ [] → tiles_in entries ++ left ≡ all → tiles_in more ++ rest ≡ all
tiles-more entries more entry left rest all first is whole =
    ap (λ (es : List (Tile × List ℕ)). tiles_in es ++ rest) is
    ∙ ap (λ (ts : List Tile). ts ++ rest) (map-append (λ (e : Tile × List ℕ). e.0) entries (entry ∷ []))
    ∙ append_assoc (tiles_in entries) (entry.0 ∷ []) rest
    ∙ ap (λ (ts : List Tile). tiles_in entries ++ ts) (sym first)
    ∙ whole

-- what holds of each element by its index holds of one more
pub each-more : {X : Type 0} (P : ℕ → X → Type 0) (xs : List X) (x : X) → ((i : ℕ) (y : X) → slice_get xs i ≡ Some y → P i y) → P (length xs) x
    → (i : ℕ) (y : X) → slice_get (xs ++ x ∷ []) i ≡ Some y → P i y
each-more P [] x each one zero y e = let same : x ≡ y = cc in subst (P 0) same one
each-more P [] x each one (suc i) y e = absurd (cc e)
each-more P (z ∷ xs) x each one zero y e = each 0 y e
each-more P (z ∷ xs) x each one (suc i) y e = each-more (λ j. P (suc j)) xs x (λ j. each (suc j)) one i y e

pub inputs-more : {Op : Type 0} (facts : Facts) (images : Option Buffers) (held : HeldTiles) (body : Body Op) (node : ℕ) (entries more : List (Tile × List ℕ)) (entry : Tile × List ℕ)
    → more ≡ entries ++ entry ∷ [] → AreInputTiles facts images held body node entries → IsInputTile facts images held body node entry.0 entry.1
    → AreInputTiles facts images held body node more
inputs-more facts images held body node entries more entry is all one =
    all-more (λ (e : Tile × List ℕ). IsInputTile facts images held body node e.0 e.1) entries more entry is all one

-- over the same buffers a tile is the same
module _ {Op : Type 0} (facts facts' : Facts) (same : facts' ≡ facts) (held : HeldTiles) where
  pub there-still : (body : Body Op) (node : ℕ) (tile : Tile) → IsThere facts held body node tile → IsThere facts' held body node tile
  there-still body node tile is = subst (λ (fs : Facts). IsThere fs held body node tile) (sym same) is

  pub all-there-still : (body : Body Op) (node : ℕ) (need : Rectangle) → AreThere facts held body node need → AreThere facts' held body node need
  all-there-still body node need is = subst (λ (fs : Facts). AreThere fs held body node need) (sym same) is

  pub input-from : (body : Body Op) (node : ℕ) (tile : Tile) (images images' : Option Buffers) (bytes : List ℕ) → images' ≡ images
      → IsInputTile facts' images' held body node tile bytes → IsInputTile facts images held body node tile bytes
  input-from body node tile images images' bytes also is =
      subst (λ (fs : Facts). IsInputTile fs images held body node tile bytes) same
      (subst (λ (o : Option Buffers). IsInputTile facts' o held body node tile bytes) also is)

  pub window-from : (node : ℕ) (fact : NodeFact Op) (images images' : Option Buffers) (need : Rectangle) (window : Window) → images' ≡ images
      → IsInputWindow facts' images' held fact node need window → IsInputWindow facts images held fact node need window
  window-from node fact images images' need window also is =
      subst (λ (fs : Facts). IsInputWindow fs images held fact node need window) same
      (subst (λ (o : Option Buffers). IsInputWindow facts' o held fact node need window) also is)
