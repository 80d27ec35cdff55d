-- What is asked of nodes, one rectangle after another.
use Rattle.std.proofs.Common.{◌≡◌, ◌≢◌, ℕ, suc, ◌+◌, ◌<◌, ◌≤◌, Bool, false, cond, eqb, List, [], ◌∷◌, ◌++◌, filter, length, get_or, set, map, take, refl, sym, ap, ◌∙◌, subst, arith, append_assoc, inl, inr}
use Rattle.std.specs.List.{enumerate_from, flat_map}
use Rattle.std.proofs.Math.Seq.{take-suc}
use Rattle.std.proofs.lemmas.Bool.{cases_eq, eq-eqb}
use Rattle.std.proofs.lemmas.Bool.Decides.{nat_tests}
use Rattle.std.proofs.lemmas.Grind.{flat_map-append}
use Rattle.std.proofs.lemmas.List.{append-nil, get_or-map, get_or-set_other, get_or-set_same, length-map, length-set, map-append, take_all}
use Rattle.std.proofs.lemmas.List.Elements.{filter-append}
use Rattle.std.proofs.lemmas.List.FromFn.{get_or-enumerate_from, length-enumerate_from}
use Rattle.plane_rect.specs.Rectangle.{Rectangle, meet}
use Rattle.plane_rect.specs.Tile.{Tile, tile_square}
use Rattle.model_graphs.specs.Meanings.{Meanings}
use Rattle.model_states.specs.Need.{Asked, asked_of}
use Rattle.roi_planner.specs.Asked.{AreAsked, MeetSameTiles, asked_of_part, asked_of_tiles}
use Rattle.roi_planner.specs.Inputs.{Inputs}
use Rattle.roi_planner.proofs.Joined.{same-append, same-itself, same-then}

-- ---- one rectangle more

asked_of-append : (xs ys : List Asked) (node : ℕ) → asked_of (xs ++ ys) node ≡ asked_of xs node ++ asked_of ys node
asked_of-append xs ys node =
    let of_node : Asked → Bool = λ a. eqb a.0 node in
    let only : Asked → Rectangle = λ a. a.1 in
    ap (map only) (filter-append of_node xs ys) ∙ map-append only (filter of_node xs) (filter of_node ys)

asked-here : (node : ℕ) (rect : Rectangle) → asked_of ((node, rect) ∷ []) node ≡ rect ∷ []
asked-here node rect =
    let one : List Asked = (node, rect) ∷ [] in
    ap (λ (s : Bool). map (λ (a : Asked). a.1) (cond s one [])) (eq-eqb node node refl)

asked-elsewhere : (node other : ℕ) (rect : Rectangle) → node ≢ other → asked_of ((node, rect) ∷ []) other ≡ []
asked-elsewhere node other rect apart =
    let one : List Asked = (node, rect) ∷ [] in
    let test : eqb node other ≡ false = grind (arith, nat_tests) in
    ap (λ (s : Bool). map (λ (a : Asked). a.1) (cond s one [])) test

pub asked-one : (regions : List (List Rectangle)) (region : List Rectangle) (asked : List Asked) (node : ℕ) (rect : Rectangle) →
    AreAsked regions asked → node < length regions → MeetSameTiles region (get_or regions node [] ++ rect ∷ []) →
    AreAsked (set regions node region) (asked ++ (node, rect) ∷ [])
asked-one regions region asked node rect are inside added = record {
  each = λ n less.
      let more : List Asked = (node, rect) ∷ [] in
      let among : n < length regions = omega (arith, less, length-set regions node region) in
      elim (cases_eq n node) [
        | inl here ↦
            let new : get_or (set regions node region) n [] ≡ region = ap (λ k. get_or (set regions node region) k []) here ∙ get_or-set_same regions node region [] inside in
            let all : asked_of (asked ++ more) n ≡ asked_of asked node ++ rect ∷ [] =
            ap (asked_of (asked ++ more)) here ∙ asked_of-append asked more node ∙ ap (λ rs. asked_of asked node ++ rs) (asked-here node rect) in
            let same = same-then region (get_or regions node [] ++ rect ∷ []) (asked_of asked node ++ rect ∷ []) added
            (same-append (get_or regions node []) (asked_of asked node) (rect ∷ []) (rect ∷ []) (are.each node inside) (same-itself (rect ∷ []))) in
            subst (MeetSameTiles (get_or (set regions node region) n [])) (sym all)
            (subst (λ (a : List Rectangle). MeetSameTiles a (asked_of asked node ++ rect ∷ [])) (sym new) same)
        | inr there ↦
            let new : get_or (set regions node region) n [] ≡ get_or regions n [] = get_or-set_other regions node n region [] there in
            let all : asked_of (asked ++ more) n ≡ asked_of asked n =
            asked_of-append asked more n ∙ ap (λ rs. asked_of asked n ++ rs) (asked-elsewhere node n rect (λ e. there (sym e))) ∙ append-nil (asked_of asked n) in
            subst (MeetSameTiles (get_or (set regions node region) n [])) (sym all)
            (subst (λ (a : List Rectangle). MeetSameTiles a (asked_of asked n)) (sym new) (are.each n among))
      ];
}

-- ---- what a part asks, and what tiles ask

module _ {Op : Type 0} (meanings : Meanings Op) (operation : Op) (inputs : Inputs) where
  -- what a part asks of an input
  abbrev asks : Rectangle → ℕ × ℕ → Asked
  asks part input = (input.1, meanings.required operation inputs.boxes input.0 part)

  length-asked_of_part : (part : Rectangle) → length (asked_of_part meanings operation inputs part) ≡ length inputs.positions
  length-asked_of_part part =
      length-map (enumerate_from 0 inputs.positions) (asks part) ∙ length-enumerate_from 0 inputs.positions

  -- what a part asks of the input of a number
  part-at : (part : Rectangle) (i position : ℕ) (rect : Rectangle) → i < length inputs.positions → position ≡ get_or inputs.positions i position →
      rect ≡ meanings.required operation inputs.boxes i part → get_or (asked_of_part meanings operation inputs part) i (position, rect) ≡ (position, rect)
  part-at part i position rect inside is of =
      let first : ℕ × ℕ = (0, position) in
      let here : Asked = (position, rect) in
      let start : 0 + i ≡ i = omega arith in
      get_or-map (asks part) (enumerate_from 0 inputs.positions) i first here (omega (arith, inside, length-enumerate_from 0 inputs.positions))
      ∙ ap (asks part) (get_or-enumerate_from 0 inputs.positions i first inside)
      ∙ ap (λ (n : ℕ). asks part (n, get_or inputs.positions i position)) start
      ∙ ap (λ (n : ℕ). asks part (i, n)) (sym is)
      ∙ ap (λ (r : Rectangle). (position, r)) (sym of)

  -- one input more
  pub part-more : (part : Rectangle) (asked : List Asked) (i : ℕ) (position : ℕ) (rect : Rectangle) → i < length inputs.positions → position ≡ get_or inputs.positions i position →
      rect ≡ meanings.required operation inputs.boxes i part →
      (asked ++ take i (asked_of_part meanings operation inputs part)) ++ (position, rect) ∷ []
      ≡ asked ++ take (i + 1) (asked_of_part meanings operation inputs part)
  part-more part asked i position rect inside is of =
      let full = asked_of_part meanings operation inputs part in
      let here : Asked = (position, rect) in
      let next : suc i ≡ i + 1 = omega arith in
      append_assoc asked (take i full) (here ∷ [])
      ∙ ap (λ (a : List Asked). asked ++ a)
      (ap (λ (a : Asked). take i full ++ a ∷ []) (sym (part-at part i position rect inside is of))
      ∙ sym (take-suc full i here (omega (arith, inside, length-asked_of_part part)))
      ∙ ap (λ (n : ℕ). take n full) next)

  pub part-all : (part : Rectangle) (asked : List Asked) (i : ℕ) → length inputs.positions ≤ i →
      asked ++ take i (asked_of_part meanings operation inputs part) ≡ asked ++ asked_of_part meanings operation inputs part
  part-all part asked i past = ap (λ (a : List Asked). asked ++ a) (take_all i (asked_of_part meanings operation inputs part) (omega (arith, past, length-asked_of_part part)))

  -- one tile more
  pub tiles-more : (box : Rectangle) (asked : List Asked) (tiles : List Tile) (i : ℕ) (tile : Tile) (part : Rectangle) → i < length tiles → tile ≡ get_or tiles i tile →
      part ≡ meet (tile_square tile) box →
      (asked ++ asked_of_tiles meanings operation inputs box (take i tiles)) ++ asked_of_part meanings operation inputs part
      ≡ asked ++ asked_of_tiles meanings operation inputs box (take (i + 1) tiles)
  tiles-more box asked tiles i tile part inside is of =
      let by_tile : Tile → List Asked = λ tile. asked_of_part meanings operation inputs (meet (tile_square tile) box) in
      let next : suc i ≡ i + 1 = omega arith in
      append_assoc asked (flat_map by_tile (take i tiles)) (asked_of_part meanings operation inputs part)
      ∙ ap (λ (a : List Asked). asked ++ a)
      (ap (λ (r : Rectangle). flat_map by_tile (take i tiles) ++ asked_of_part meanings operation inputs r) of
      ∙ ap (λ (a : List Asked). flat_map by_tile (take i tiles) ++ a) (sym (append-nil (by_tile tile)))
      ∙ sym (flat_map-append by_tile (take i tiles) (tile ∷ []))
      ∙ ap (λ (t : Tile). flat_map by_tile (take i tiles ++ t ∷ [])) is
      ∙ ap (flat_map by_tile) (sym (take-suc tiles i tile inside))
      ∙ ap (λ (n : ℕ). flat_map by_tile (take n tiles)) next)
