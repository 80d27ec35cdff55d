-- The strips of a request, one after another.
use Rattle.std.proofs.Common.{◌≡◌, ℕ, suc, ◌+◌, ◌-◌, ◌<◌, List, [], ◌∷◌, ◌++◌, map, take, drop, drop-cons, length, get_or, append-nil, sym, ap, ◌∙◌, arith}
use Rattle.std.proofs.Math.Seq.{take-suc}
use Rattle.std.proofs.lemmas.Grind.{flat_map-append}
use Rattle.std.proofs.lemmas.List.{length-drop, map-append, take-append-drop, take_all}
use Rattle.model_graphs.specs.declared.node.NodeFact.{NodeFact}
use Rattle.model_graphs.specs.Facts.{specs_of}
use Rattle.model_states.specs.declared.strip.Strip.{Strip}
use Rattle.model_states.specs.Cache.{Pair, needed_pairs, pair_of}
use Rattle.model_states.specs.Need.{Needed}
use Rattle.strip_renders.specs.Strips.{needed_from, needs_of, pairs_needed}

-- the strips after one
pub later-is : (plan : List Strip) (i : ℕ) → take (length plan - (i + 1)) (drop (i + 1) plan) ≡ drop (i + 1) plan
later-is plan i = take_all (length plan - (i + 1)) (drop (i + 1) plan) (omega (arith, length-drop (i + 1) plan))

module _ {Op : Type 0} (nodes : List (NodeFact Op)) where
  -- the pairs of these strips
  abbrev pub pairs_of : List Strip → List Pair
  pairs_of strips = needed_pairs (specs_of nodes) strips

  pairs-append : (first second : List Strip) → pairs_of (first ++ second) ≡ pairs_of first ++ pairs_of second
  pairs-append first second =
      let of_strip : Strip → List Needed = λ strip. strip.need in
      ap (map (pair_of (specs_of nodes))) (flat_map-append of_strip first second)
      ∙ map-append (pair_of (specs_of nodes)) (needs_of first) (needs_of second)

  pairs-one : (strip : Strip) → pairs_of (strip ∷ []) ≡ pairs_needed nodes strip.need
  pairs-one strip = ap (pairs_needed nodes) (append-nil strip.need)

  -- those of a strip and of the strips after it
  pub pairs-from : (strip : Strip) (later : List Strip) → pairs_needed nodes (needed_from strip later 0) ≡ pairs_needed nodes strip.need ++ pairs_of later
  pairs-from strip later = map-append (pair_of (specs_of nodes)) strip.need (needs_of later)

  module _ (plan : List Strip) (i : ℕ) (strip : Strip) (later : List Strip) (inside : i < length plan) (is : strip ≡ get_or plan i strip) (after : later ≡ drop (i + 1) plan) where
    next : i + 1 ≡ suc i
    next = omega arith

    from-strip : drop i plan ≡ strip ∷ later
    from-strip =
        drop-cons plan i strip inside
        ∙ ap (λ (s : Strip). s ∷ drop (suc i) plan) (sym is)
        ∙ ap (λ (n : ℕ). strip ∷ drop n plan) (sym next)
        ∙ ap (λ (list : List Strip). strip ∷ list) (sym after)

    -- those of one strip more
    pub pairs-more : pairs_of (take (i + 1) plan) ≡ pairs_of (take i plan) ++ pairs_needed nodes strip.need
    pairs-more =
        ap (λ (n : ℕ). pairs_of (take n plan)) next
        ∙ ap pairs_of (take-suc plan i strip inside)
        ∙ ap (λ (s : Strip). pairs_of (take i plan ++ s ∷ [])) (sym is)
        ∙ pairs-append (take i plan) (strip ∷ [])
        ∙ ap (λ (ps : List Pair). pairs_of (take i plan) ++ ps) (pairs-one strip)

    -- all are those before a strip, its own and those after it
    pub pairs-parted : pairs_of plan ≡ pairs_of (take i plan) ++ (pairs_needed nodes strip.need ++ pairs_of later)
    pairs-parted =
        ap pairs_of (sym (take-append-drop i plan))
        ∙ pairs-append (take i plan) (drop i plan)
        ∙ ap (λ (rest : List Strip). pairs_of (take i plan) ++ pairs_of rest) from-strip
        ∙ ap (λ (ps : List Pair). pairs_of (take i plan) ++ ps) (pairs-from strip later)

    -- what is needed from the strip on
    pub needs-from : needs_of (drop i plan) ≡ needed_from strip later 0
    needs-from = ap needs_of from-strip
