-- What one turn of a strip's loop leaves.
use Rattle.std.proofs.Common.{◌≡◌, ℕ, suc, ◌+◌, ◌<◌, ◌++◌, Bool, true, false, List, [], ◌∷◌, length, get_or, take, Option, Some, None, refl, sym, ap, ◌∙◌, subst, arith}
use Rattle.std.specs.Prelude.{is_some, slice_get}
use Rattle.std.proofs.Math.Seq.{take-suc}
use Rattle.std.proofs.lemmas.List.{map-append}
use Rattle.std.proofs.lemmas.List.Sums.{fold-append}
use Rattle.std.proofs.lemmas.Option.{get_or_from_slice_get, same_Some, slice_get-get_or, slice_get_within}
use Rattle.model_graphs.specs.declared.node.NodeFact.{NodeFact}
use Rattle.model_graphs.specs.Evaluation.{Buffers}
use Rattle.model_graphs.specs.Facts.{specs_of}
use Rattle.model_graphs.specs.Meanings.{Meanings}
use Rattle.model_states.specs.Cache.{AreRight, Cached, Counted, Pair, all_looked_up, applied_more, by_pair, find_pair, itself, looked_up, pair_of, recent, reused_more, uncounted, with_bytes}
use Rattle.model_states.specs.Need.{Needed}
use Rattle.node_tiles.specs.Held.{HeldTiles}
use Rattle.node_tiles.specs.Stated.{AreTilesOf, HaveLengths, scene_of}
use Rattle.node_tiles.proofs.Reading.{reads-none}
use Rattle.strip_renders.specs.Ahead.{IsSpentFor}
use Rattle.strip_renders.specs.Moments.{AreOver, IsLeft, Keeps, Moment, RenderState}
use Rattle.strip_renders.specs.Strips.{AreKnownRight, HoldsNeed, IsRendered, counted, list_after, pairs_needed}
use Rattle.strip_renders.proofs.Moments.{keeps-reads, source_of}

-- ---- needed tiles by their index

pub needed-at : (items need : List Needed) (i : ℕ) (n : Needed) → items ≡ need → i < length items → n ≡ get_or items i n → slice_get need i ≡ Some n
needed-at items need i n same less is = subst (λ (list : List Needed). slice_get list i ≡ Some n) same (slice_get-get_or items i n less ∙ ap Some (sym is))

pub take-more : (need : List Needed) (i : ℕ) (n : Needed) → slice_get need i ≡ Some n → take (i + 1) need ≡ take i need ++ n ∷ []
take-more need i n found =
    let next : i + 1 ≡ suc i = omega arith in
    ap (λ (k : ℕ). take k need) next
    ∙ take-suc need i n (slice_get_within need i n found)
    ∙ ap (λ (m : Needed). take i need ++ m ∷ []) (get_or_from_slice_get need i n n found)

pub pairs-take : {Op : Type 0} (nodes : List (NodeFact Op)) (need : List Needed) (i : ℕ) (n : Needed) → slice_get need i ≡ Some n
    → pairs_needed nodes (take (i + 1) need) ≡ pairs_needed nodes (take i need) ++ pair_of (specs_of nodes) n ∷ []
pairs-take nodes need i n found = ap (pairs_needed nodes) (take-more need i n found) ∙ map-append (pair_of (specs_of nodes)) (take i need) (n ∷ [])

-- ---- counts

-- a tile was found, or it was evaluated
abbrev pub IsCountedMore : Bool → ℕ → ℕ → ℕ → ℕ → Type 0
IsCountedMore true applied reused applied' reused' = (applied' ≡ applied) × (reused' ≡ reused + 1)
IsCountedMore false applied reused applied' reused' = (applied' ≡ applied + 1) × (reused' ≡ reused)

pub index-more : (found : Bool) (applied reused applied' reused' i : ℕ) → IsCountedMore found applied reused applied' reused' → applied + reused ≡ i → applied' + reused' ≡ i + 1
index-more true applied reused applied' reused' i more is = omega (arith, more.0, more.1, is)
index-more false applied reused applied' reused' i more is = omega (arith, more.0, more.1, is)

-- where the permits of tiles that are held ahead are spent already
pub permits-more : (found : Bool) (applied reused applied' reused' first mid last held held' : ℕ) → IsCountedMore found applied reused applied' reused'
    → mid + applied + held ≡ first → IsSpentFor (mid + held) (last + held') found → last + applied' + held' ≡ first
permits-more true applied reused applied' reused' first mid last held held' more before spent = omega (arith, more.0, before, spent)
permits-more false applied reused applied' reused' first mid last held held' more before spent = omega (arith, more.0, before, spent)

-- one more pair is looked up
module _ (capacity : Option ℕ) (mid last : List Pair) (pair : Pair) (found : Bool) (applied reused applied' reused' : ℕ) where
  counts-more : (found : Bool) (o : Option Pair) → found ≡ is_some o → IsCountedMore found applied reused applied' reused' → (applied' ≡ applied_more applied o) × (reused' ≡ reused_more reused o)
  counts-more true None there more = absurd (cc there)
  counts-more true (Some x) there more = more
  counts-more false None there more = more
  counts-more false (Some x) there more = absurd (cc there)

  one-more : last ≡ recent itself itself capacity mid pair → found ≡ is_some (find_pair itself mid pair) → IsCountedMore found applied reused applied' reused'
      → counted last applied' reused' ≡ looked_up itself itself capacity (counted mid applied reused) pair
  one-more list there more =
      let counts = counts-more found (find_pair itself mid pair) there more in
      ap (λ (pairs : List Pair). counted pairs applied' reused') list
      ∙ ap (λ (n : ℕ). counted (recent itself itself capacity mid pair) n reused') counts.0
      ∙ ap (λ (n : ℕ). counted (recent itself itself capacity mid pair) (applied_more applied (find_pair itself mid pair)) n) counts.1

  pub pairs-more : (first pairs : List Pair) → counted mid applied reused ≡ all_looked_up itself itself capacity (uncounted first) pairs
      → last ≡ recent itself itself capacity mid pair → found ≡ is_some (find_pair itself mid pair) → IsCountedMore found applied reused applied' reused'
      → counted last applied' reused' ≡ all_looked_up itself itself capacity (uncounted first) (pairs ++ pair ∷ [])
  pairs-more first pairs before list there more =
      one-more list there more
      ∙ ap (λ (c : Counted Pair). looked_up itself itself capacity c pair) before
      ∙ sym (fold-append (looked_up itself itself capacity) (uncounted first) pairs (pair ∷ []))

-- ---- bytes

module _ {Op : Type 0} (meanings : Meanings Op) (nodes : List (NodeFact Op)) (images : Buffers) where
  list-more : (capacity : Option ℕ) (list : List Cached) (pairs : List Pair) (pair : Pair)
      → list_after meanings nodes images capacity (list_after meanings nodes images capacity list pairs) (pair ∷ []) ≡ list_after meanings nodes images capacity list (pairs ++ pair ∷ [])
  list-more capacity list pairs pair =
      ap (λ (c : Counted Cached). c.list)
      (sym (fold-append (looked_up by_pair (with_bytes meanings (scene_of nodes images)) capacity) (uncounted list) pairs (pair ∷ [])))

  pub rendered-more : (first mid last : Moment) (list : List Cached) (pairs : List Pair) (pair : Pair) (held : HeldTiles) → mid.capacity ≡ first.capacity
      → IsRendered meanings nodes images mid last (list_after meanings nodes images first.capacity list pairs) (pair ∷ []) held
      → IsRendered meanings nodes images first last list (pairs ++ pair ∷ []) held
  rendered-more first mid last list pairs pair held capacity more = record {
    cached = more.cached
        ∙ ap (λ (c : Option ℕ). Some (list_after meanings nodes images c (list_after meanings nodes images first.capacity list pairs) (pair ∷ []))) capacity
        ∙ ap Some (list-more first.capacity list pairs pair);
    tiles = more.tiles;
  }

  -- a list that is known is the right one
  pub right-list : (cached : Option (List Cached)) (list : List Cached) → AreKnownRight meanings nodes images cached → cached ≡ Some list → AreRight meanings (scene_of nodes images) list
  right-list cached list right is =
      subst (AreRight meanings (scene_of nodes images)) (same_Some right.list list (sym right.known ∙ is)) right.right

-- ---- what is kept

pub keeps-none : (now : Moment) → Keeps 0 now now
keeps-none now = keeps-reads now now (reads-none (source_of now)) refl refl

pub left-none : (now : RenderState) → AreOver now → IsLeft 0 now now
left-none now over = record { keeps = keeps-none now.seen; over = over; valid = λ valid. valid }

-- no tile is needed yet
pub need-none : {Op : Type 0} (nodes : List (NodeFact Op)) (held : HeldTiles) → held ≡ [] → HoldsNeed nodes [] held
need-none nodes held none = record {
  each = λ k n found. absurd (cc found);
  lengths = subst (HaveLengths nodes) (sym none) (record { each = λ node tile bytes found. absurd (cc found) });
}

pub no-tiles : {Op : Type 0} (meanings : Meanings Op) (nodes : List (NodeFact Op)) (images : Buffers) (held : HeldTiles) → held ≡ [] → AreTilesOf meanings nodes images held
no-tiles meanings nodes images held none =
    subst (AreTilesOf meanings nodes images) (sym none) (record { each = λ node tile bytes found. absurd (cc found) })
