-- Calls that move the tiles of a cache, one after another.
use Rattle.std.proofs.Common.{◌≡◌, Result, Ok, Err, IfErr, refl, sym, ap, ◌∙◌, subst}
use Rattle.std.specs.FinMap as map
use Rattle.chain_owners.specs.Counts.{Continues}
use Rattle.chain_owners.specs.Held.{Held}
use Rattle.chain_owners.specs.declared.chain_meaning.ChainMeaning.{Ghosts as Chains}
use Rattle.chain_owners.proofs.Growing.{continues-both, continues-same}
use Rattle.chain_owners.specs.Cause.{HasSwapCause}
use Rattle.chain_owners.specs.declared.swap_refused.SwapRefused.{SwapRefused}
use Rattle.chain_contracts.specs.Tiles.{ReportsRoom, emptied}
use Rattle.tile_chain.specs.CacheCalls.{CachedTiles, CannotMove, MovesTiles, held_over}
use Rattle.tile_chain.specs.Overlay.{overlay}
use Rattle.tile_chain.proofs.Moves.{cause-since}

module _ {H : Type 0} (h : Chains H) where
  pub moves-none : (tiles : CachedTiles) (below : H) → MovesTiles h tiles tiles below below
  moves-none tiles below = record { held = refl; capacity = refl; continues = continues-same (h.counts below); loans = refl; valid = λ valid. valid }

  pub moves-both : (a b c : CachedTiles) (x y z : H) → MovesTiles h a b x y → MovesTiles h b c y z → MovesTiles h a c x z
  moves-both a b c x y z one two = record {
    held = two.held ∙ one.held;
    capacity = two.capacity ∙ one.capacity;
    continues = continues-both (h.counts x) (h.counts y) (h.counts z) one.continues two.continues;
    loans = two.loans ∙ one.loans;
    valid = λ valid. two.valid (one.valid valid);
  }

  -- the tiles in memory are unchanged, and what is below holds the same
  pub moves-beneath : (tiles : CachedTiles) (x y : H) → h.held y ≡ h.held x → Continues (h.counts x) (h.counts y) → h.loans y ≡ h.loans x → (h.is_valid x → h.is_valid y)
      → MovesTiles h tiles tiles x y
  moves-beneath tiles x y held continues loans valid = record {
    held = ap (overlay tiles.entries) held;
    capacity = refl;
    continues = continues;
    loans = loans;
    valid = valid;
  }

  -- what is below is unchanged
  pub moves-above : (a b : CachedTiles) (x y : H) → held_over h b y ≡ held_over h a x → b.cap ≡ a.cap → y ≡ x → MovesTiles h a b x y
  moves-above a b x y held capacity same = record {
    held = held;
    capacity = capacity;
    continues = subst (λ (z : H). Continues (h.counts x) (h.counts z)) (sym same) (continues-same (h.counts x));
    loans = ap h.loans same;
    valid = λ valid. subst h.is_valid (sym same) valid;
  }

  -- what excuses a refusal excuses it also where tiles were moved before
  pub cannot-since : (a b : CachedTiles) (x y z : H) (refused : SwapRefused) → MovesTiles h a b x y → CannotMove h b y z refused → CannotMove h a x z refused
  cannot-since a b x y z refused moves is = record {
    cause = cause-since (h.counts x) (h.counts y) (h.counts z) _ refused moves.continues
        (subst (λ (held : Held). HasSwapCause (emptied (h.counts y)) (h.counts z) (map.len held.lengths) refused) moves.held is.cause);
    full = λ valid. subst (λ (held : Held). ReportsRoom held (h.store z) refused) moves.held (is.full (moves.valid valid));
  }

  pub cannot-then : {X : Type 0} (a b : CachedTiles) (x y z : H) (r : Result X SwapRefused) → MovesTiles h a b x y → IfErr r (CannotMove h b y z) → IfErr r (CannotMove h a x z)
  cannot-then a b x y z (Ok done) moves is = tt
  cannot-then a b x y z (Err refused) moves is = cannot-since a b x y z refused moves is
