-- Tiles that are held, and one more.
use Rattle.std.proofs.Common.{◌≡◌, ℕ, Bool, true, false, cond, List, [], ◌∷◌, ◌++◌, length, Some, inl, inr, refl, sym, ap, ◌∙◌, subst, arith}
use Rattle.std.specs.Prelude.{IsSome}
use Rattle.std.specs.Cmp.{IsEquivalence}
use Rattle.std.specs.Map.{lookup}
use Rattle.std.proofs.lemmas.Bool.{cases_Bool}
use Rattle.std.proofs.lemmas.Bool.Decides.{nat_tests}
use Rattle.std.proofs.lemmas.Option.{same_Some}
use Rattle.indexmap.specs.IndexMap.{insert_entry}
use Rattle.plane_rect.specs.SameTile.{same_tile-true}
use Rattle.plane_rect.specs.Tile.{Tile, same_tile}
use Rattle.model_graphs.specs.declared.node.NodeFact.{NodeFact}
use Rattle.model_graphs.specs.Evaluation.{Buffers}
use Rattle.model_graphs.specs.Meanings.{Meanings}
use Rattle.model_states.specs.Need.{Needed}
use Rattle.node_tiles.specs.declared.strip_tiles.NodeTile.{NodeTile}
use Rattle.node_tiles.specs.Held.{HeldTiles, held_bytes, node_tile, same_node_tile}
use Rattle.node_tiles.specs.Stated.{AreTilesOf, HaveLengths, bytes_at, length_at}
use Rattle.node_tiles.proofs.Entries.{each-more}
use Rattle.strip_renders.specs.Strips.{HoldsMore, HoldsNeed}

same_node_tile-true : (a b : NodeTile) → same_node_tile a b ≡ true → a ≡ b
same_node_tile-true a b e =
    let node : a.node ≡ b.node = grind (arith, nat_tests) in
    let same : same_tile a.at b.at ≡ true = grind (arith, nat_tests) in
    let at : a.at ≡ b.at = same_tile-true a.at b.at same in
    let joined : (of : ℕ → Tile → NodeTile) → of a.node a.at ≡ of b.node b.at = λ of. cc in
    joined (λ node at. node_tile node at)

same_node_tile-laws : IsEquivalence same_node_tile
same_node_tile-laws = record {
  refl = λ a. grind (arith, nat_tests);
  symm = λ a b. grind (arith, nat_tests);
  congr = λ a b c e. ap (λ (t : NodeTile). same_node_tile t c) (same_node_tile-true a b e);
}

lookup-more : (held : HeldTiles) (k : NodeTile) (v : List ℕ) (q : NodeTile)
    → lookup (same_node_tile q) (insert_entry same_node_tile held k v) ≡ cond (same_node_tile q k) (Some v) (lookup (same_node_tile q) held)
lookup-more [] k v q = refl
lookup-more (e ∷ held) k v q = elim (cases_Bool (same_node_tile k e.0)) [
  | inl hit ↦
      let same : e.0 ≡ k = sym (same_node_tile-true k e.0 hit) in
      rw (hit, same) (elim (cases_Bool (same_node_tile q k)) [ inl here ↦ rw here refl | inr other ↦ rw other refl ])
  | inr miss ↦ rw miss (elim (cases_Bool (same_node_tile q e.0)) [
    | inl here ↦
        let same : q ≡ e.0 = same_node_tile-true q e.0 here in
        let other : same_node_tile q k ≡ false = rw same (same_node_tile-laws.symm e.0 k ∙ miss) in
        rw (here, other) refl
    | inr other ↦ rw other (lookup-more held k v q)
  ])
]

module _ (held : HeldTiles) (n : ℕ) (t : Tile) (v : List ℕ) where
  abbrev more : HeldTiles
  more = insert_entry same_node_tile held (node_tile n t) v

  looked : (node : ℕ) (tile : Tile) → held_bytes more node tile ≡ cond (same_node_tile (node_tile node tile) (node_tile n t)) (Some v) (held_bytes held node tile)
  looked node tile = lookup-more held (node_tile n t) v (node_tile node tile)

  -- what holds of each held tile, and of one more, holds of all
  more-all : (P : ℕ → Tile → List ℕ → Type 0) → ((node : ℕ) (tile : Tile) (bytes : List ℕ) → held_bytes held node tile ≡ Some bytes → P node tile bytes) → P n t v
      → (node : ℕ) (tile : Tile) (bytes : List ℕ) → held_bytes more node tile ≡ Some bytes → P node tile bytes
  more-all P each one node tile bytes is = by (same_node_tile (node_tile node tile) (node_tile n t)) refl (sym (looked node tile) ∙ is)
    where
      by : (b : Bool) → same_node_tile (node_tile node tile) (node_tile n t) ≡ b → cond b (Some v) (held_bytes held node tile) ≡ Some bytes → P node tile bytes
      by true e there =
          let same : node_tile node tile ≡ node_tile n t = same_node_tile-true (node_tile node tile) (node_tile n t) e in
          subst (λ (k : NodeTile). P k.node k.at bytes) (sym same) (subst (P n t) (same_Some v bytes there) one)
      by false e there = each node tile bytes there

  -- what was held still is
  more-some : (node : ℕ) (tile : Tile) → IsSome (held_bytes held node tile) → IsSome (held_bytes more node tile)
  more-some node tile there = subst IsSome (sym (looked node tile)) (by (same_node_tile (node_tile node tile) (node_tile n t)))
    where
      by : (b : Bool) → IsSome (cond b (Some v) (held_bytes held node tile))
      by true = refl
      by false = there

  own-some : IsSome (held_bytes more n t)
  own-some = subst IsSome (sym (looked n t ∙ ap (λ (b : Bool). cond b (Some v) (held_bytes held n t)) (same_node_tile-laws.refl (node_tile n t)))) refl

pub lengths-more : {Op : Type 0} (nodes : List (NodeFact Op)) (needed : Needed) (old new : HeldTiles) → HoldsMore nodes needed old new → HaveLengths nodes old → HaveLengths nodes new
lengths-more nodes needed old new more lengths =
    subst (HaveLengths nodes) (sym more.held)
    (record { each = more-all old needed.0 needed.1 more.bytes (λ node tile bytes. length bytes ≡ length_at nodes node) lengths.each more.length })

pub tiles-more : {Op : Type 0} (meanings : Meanings Op) (nodes : List (NodeFact Op)) (images : Buffers) (node : ℕ) (tile : Tile) (bytes : List ℕ) (old new : HeldTiles)
    → new ≡ insert_entry same_node_tile old (node_tile node tile) bytes → bytes ≡ bytes_at meanings nodes images node tile
    → AreTilesOf meanings nodes images old → AreTilesOf meanings nodes images new
tiles-more meanings nodes images node tile bytes old new held is tiles =
    subst (AreTilesOf meanings nodes images) (sym held)
    (record { each = more-all old node tile bytes (λ n t b. b ≡ bytes_at meanings nodes images n t) tiles.each is })

-- the need of one more is held
pub need-more : {Op : Type 0} (nodes : List (NodeFact Op)) (need : List Needed) (needed : Needed) (old new : HeldTiles) → HoldsMore nodes needed old new → HoldsNeed nodes need old
    → HoldsNeed nodes (need ++ needed ∷ []) new
need-more nodes need needed old new more holds = record {
  each = each-more (λ k n. IsSome (held_bytes new n.0 n.1)) need needed
      (λ k n found. subst (λ (h : HeldTiles). IsSome (held_bytes h n.0 n.1)) (sym more.held) (more-some old needed.0 needed.1 more.bytes n.0 n.1 (holds.each k n found)))
      (subst (λ (h : HeldTiles). IsSome (held_bytes h needed.0 needed.1)) (sym more.held) (own-some old needed.0 needed.1 more.bytes));
  lengths = lengths-more nodes needed old new more holds.lengths;
}
