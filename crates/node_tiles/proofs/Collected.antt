-- Windows that are collected one by one.
use Rattle.std.proofs.Common.{◌≡◌, ℕ, List, [], ◌∷◌, ◌++◌, Option, Some, length, get_or, sym, ap, ◌∙◌, subst}
use Rattle.std.specs.Prelude.{slice_get}
use Rattle.std.proofs.lemmas.Option.{same_Some}
use Rattle.plane_rect.specs.Rectangle.{Rectangle}
use Rattle.model_graphs.specs.declared.node.NodeFact.{NodeFact}
use Rattle.model_graphs.specs.Evaluation.{Buffers}
use Rattle.model_graphs.specs.Facts.{Facts}
use Rattle.model_graphs.specs.Meanings.{Meanings}
use Rattle.model_graphs.specs.Windows.{Window}
use Rattle.roi_planner.specs.Inputs.{Inputs}
use Rattle.node_tiles.specs.Held.{HeldTiles}
use Rattle.node_tiles.specs.Inputs.{IsInputWindow, required_of}
use Rattle.node_tiles.proofs.Entries.{each-more}

module _ {Op : Type 0} (meanings : Meanings Op) (facts : Facts) (images : Option Buffers) (held : HeldTiles) (nodes : List (NodeFact Op)) (operation : Op) (inputs : Inputs) (part : Rectangle) where
  -- the window of the input of a number
  abbrev pub IsNumbered : ℕ → Window → Type 0
  IsNumbered i window =
      (fact : NodeFact Op) → slice_get nodes (get_or inputs.positions i 0) ≡ Some fact
      → IsInputWindow facts images held fact (get_or inputs.positions i 0) (required_of meanings operation inputs part i) window

  pub windows-more : (windows more : List Window) (window : Window) (i : ℕ) → length windows ≡ i → more ≡ windows ++ window ∷ []
      → ((k : ℕ) (w : Window) → slice_get windows k ≡ Some w → IsNumbered k w)
      → (fact : NodeFact Op) → slice_get nodes (get_or inputs.positions i 0) ≡ Some fact
      → IsInputWindow facts images held fact (get_or inputs.positions i 0) (required_of meanings operation inputs part i) window
      → (k : ℕ) (w : Window) → slice_get more k ≡ Some w → IsNumbered k w
  windows-more windows more window i count is each fact found one k w e =
      let last : IsNumbered i window = λ other there.
      subst (λ (f : NodeFact Op). IsInputWindow facts images held f (get_or inputs.positions i 0) (required_of meanings operation inputs part i) window)
      (same_Some fact other (sym found ∙ there)) one in
      each-more IsNumbered windows window each (subst (λ (n : ℕ). IsNumbered n window) (sym count) last) k w
      (ap (λ (ws : List Window). slice_get ws k) (sym is) ∙ e)
