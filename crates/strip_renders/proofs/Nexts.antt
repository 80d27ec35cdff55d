-- Tiles that were made ahead for the first of the tiles that are needed from now on.
use Rattle.std.proofs.Common.{◌≡◌, ℕ, suc, ◌+◌, ◌≤◌, List, [], ◌∷◌, ◌++◌, drop, length, Option, Some, None, refl, sym, ap, ◌∙◌, subst, arith}
use Rattle.std.specs.Prelude.{slice_get}
use Rattle.std.specs.List.{IsDistinct}
use Rattle.std.proofs.lemmas.List.{drop_all, length-append, length-drop, length-map}
use Rattle.std.proofs.lemmas.Option.{same_Some}
use Rattle.model_graphs.specs.declared.node.NodeFact.{NodeFact}
use Rattle.model_graphs.specs.Facts.{specs_of}
use Rattle.model_states.specs.Cache.{Pair, itself, pair_of, recent, same_pair}
use Rattle.model_states.specs.declared.strip.Strip.{Strip}
use Rattle.model_states.specs.Need.{Needed}
use Rattle.strip_renders.specs.Ahead.{AreAhead, AreNext, IsTaken, MadeTiles, needed_in}
use Rattle.strip_renders.specs.Strips.{needed_from, needs_of, pairs_needed}
use Rattle.strip_renders.proofs.AheadLaws.{ahead-more, distinct-apart, distinct-none, distinct-others, drop-at, sub-fewer, sub-none, taken-among}

-- the tile at an index is the first of those that are needed from there on
pub needed-next : (strip : Strip) (later : List Strip) (i : ℕ) (n : Needed) → slice_get strip.need i ≡ Some n → needed_from strip later i ≡ n ∷ needed_from strip later (i + 1)
needed-next strip later i n found =
    let next : suc i ≡ i + 1 = omega arith in
    ap (λ (list : List Needed). list ++ needs_of later) (drop-at strip.need i n found) ∙ ap (λ (k : ℕ). n ∷ needed_from strip later k) next

-- fewer are needed from an index on
pub left-few : (strip : Strip) (later : List Strip) (i : ℕ) → i ≤ length strip.need → length (needed_from strip later i) + i ≡ length (needed_from strip later 0)
left-few strip later i within =
    omega (arith, within, length-append (drop i strip.need) (needs_of later), length-append strip.need (needs_of later), length-drop i strip.need)

-- past the strip those of the strips after it
pub needed-past : (strip : Strip) (later : List Strip) (i : ℕ) → length strip.need ≤ i → needed_from strip later i ≡ needs_of later
needed-past strip later i past = ap (λ (list : List Needed). list ++ needs_of later) (drop_all i strip.need past)

module _ {Op : Type 0} (nodes : List (NodeFact Op)) where
  -- where nothing is ahead
  pub next-none : (pairs : List Pair) (needed : List Needed) (made : MadeTiles) → made ≡ [] → AreNext nodes pairs needed made
  next-none pairs needed made none = record {
    first = [];
    others = needed;
    parts = refl;
    once = distinct-none same_pair (pair_of (specs_of nodes));
    ahead = subst (AreAhead nodes pairs []) (sym none) (record { among = tt; absent = tt; lengths = tt });
  }

  -- no more are ahead than are needed
  pub next-few : (pairs : List Pair) (needed : List Needed) (made : MadeTiles) → AreNext nodes pairs needed made → length made ≤ length needed
  next-few pairs needed made are =
      let few = sub-fewer (needed_in made) are.first are.ahead.among in
      omega (arith, few, length-map made (λ (m : Needed × List ℕ). m.0), ap length are.parts, length-append are.first are.others)

  -- a tile is taken at its turn
  module _ (n : Needed) (rest : List Needed) (pairs : List Pair) (old new : MadeTiles) (made : Option (List ℕ)) (taken : IsTaken old new n made) where
    -- where none is ahead
    nothing : (made : Option (List ℕ)) → IsTaken old new n made → AreAhead nodes pairs [] old → new ≡ []
    nothing None taken ahead = taken.0 ∙ empty old (sub-none (needed_in old) ahead.among)
      where
        empty : (list : MadeTiles) → needed_in list ≡ [] → list ≡ []
        empty [] is = refl
        empty (m ∷ list) is = absurd (cc is)
    nothing (Some bytes) taken ahead = let is = sub-none (needed_in old) ahead.among in absurd (cc (sym (ap needed_in taken) ∙ is))

    same-first : (x : Needed) (first others : List Needed) → n ∷ rest ≡ (x ∷ first) ++ others → x ≡ n
    same-first x first others parts = same_Some x n (sym (ap (λ (list : List Needed). slice_get list 0) parts))

    pub next-fewer : AreNext nodes pairs (n ∷ rest) old → length new ≤ length rest
    next-fewer are = by are.first are.parts are.ahead
      where
        by : (first : List Needed) → n ∷ rest ≡ first ++ are.others → AreAhead nodes pairs first old → length new ≤ length rest
        by [] parts ahead = omega (arith, ap length (nothing made taken ahead))
        by (x ∷ first) parts ahead =
            let own : AreAhead nodes pairs (n ∷ first) old = subst (λ (m : Needed). AreAhead nodes pairs (m ∷ first) old) (same-first x first are.others parts) ahead in
            let few = sub-fewer (needed_in new) first (taken-among n first old new made taken own.among) in
            omega (arith, few, length-map new (λ (m : Needed × List ℕ). m.0), ap length parts, length-append (x ∷ first) are.others)

    -- when its pair was looked up the others still wait
    pub next-more : (capacity : Option ℕ) (after : List Pair) → after ≡ recent itself itself capacity pairs (pair_of (specs_of nodes) n)
        → AreNext nodes pairs (n ∷ rest) old → AreNext nodes after rest new
    next-more capacity after looked are = by are.first are.parts are.once are.ahead
      where
        by : (first : List Needed) → n ∷ rest ≡ first ++ are.others → IsDistinct same_pair (pairs_needed nodes first) → AreAhead nodes pairs first old → AreNext nodes after rest new
        by [] parts once ahead = next-none after rest new (nothing made taken ahead)
        by (x ∷ first) parts once ahead =
            let same : x ≡ n = same-first x first are.others parts in
            let own : AreAhead nodes pairs (n ∷ first) old = subst (λ (m : Needed). AreAhead nodes pairs (m ∷ first) old) same ahead in
            let distinct : IsDistinct same_pair (pairs_needed nodes (n ∷ first)) = subst (λ (m : Needed). IsDistinct same_pair (pairs_needed nodes (m ∷ first))) same once in
            let apart = distinct-apart same_pair (pair_of (specs_of nodes)) n first distinct in
            record {
              first = first;
              others = are.others;
              parts = ap (drop 1) parts;
              once = distinct-others same_pair (pair_of (specs_of nodes)) n first distinct;
              ahead = ahead-more nodes n first old new made taken capacity pairs after apart looked own;
            }
