-- What a cache over other tiles holds. Its laws are here and not among the proofs, since it is declared
-- with them.
use Rattle.std.specs.Prelude.{◌≡◌, ℕ, ◌<◌, ◌≤◌, List, [], ◌∷◌, length, Option, Some, None, IfSome, is_some}
use Rattle.std.specs.Option.{option_map}
use Rattle.std.specs.FinMap as map
use Rattle.std.proofs.Common.{Bool, true, false, cond, eqb, refl, sym, ap, ◌∙◌}
use Rattle.chain_owners.specs.Chain.{HasSameNames, IsChain}
use Rattle.chain_owners.specs.Counts.{AreCounts, Counts}
use Rattle.chain_owners.specs.Held.{HasLengths, Held, bytes_of, length_of, with_tile}
use Rattle.chain_owners.specs.Room.{Room}
use Rattle.chain_owners.specs.Values.{Named}
use Rattle.chain_owners.proofs.HeldLaws.{lengths-put}
use Rattle.chain_owners.proofs.Names.{get-inserted}

-- the tiles below, with these over them: of a name that both have, those above have the bytes
abbrev pub overlay : List (ℕ × List ℕ) → Held → Held
overlay [] below = below
overlay (e ∷ es) below = with_tile (overlay es below) e.0 e.1

-- the counts of a cache of so many tiles at most, over a chain with these
abbrev pub cache_counts : List (ℕ × List ℕ) → ℕ → Held → Counts → Counts
cache_counts es capacity below counts = record {
  faults = counts.faults;
  names = map.len (overlay es below).lengths;
  used = counts.used;
  capacity = capacity;
}

-- each name of the one is one of the other, with the same bytes
pub record IsShown (inner outer : Held) : Type 0 where
  pub lengths : (name len : ℕ) → length_of inner name ≡ Some len → length_of outer name ≡ Some len
  pub bytes : (name : ℕ) (bytes : List ℕ) → bytes_of inner name ≡ Some bytes → bytes_of outer name ≡ Some bytes

-- What holds of a cache at every moment: a name below has the same bytes there as above, so that a tile
-- in memory whose name is below may leave memory as it is.
pub record IsCache (es : List (ℕ × List ℕ)) (capacity : ℕ) (below : Held) : Type 0 where
  pub fits : length es ≤ capacity
  pub shown : IsShown below (overlay es below)

-- a cache of so many tiles at most has so many, and there are more names than that
pub record IsCrowded (resident capacity names : ℕ) : Type 0 where
  pub full : resident ≡ capacity
  pub past : capacity < names

same-cond : {X Y : Type 0} (b : Bool) (x : X) (y : Y) (o : Option X) (p : Option Y)
    → is_some o ≡ is_some p → is_some (cond b (Some x) o) ≡ is_some (cond b (Some y) p)
same-cond true x y o p same = refl
same-cond false x y o p same = same

names-put : (lengths : Named ℕ) (content : Option (Named (List ℕ))) (name : ℕ) (bytes : List ℕ)
    → IfSome content (λ c. (q : ℕ) → is_some (map.get c q) ≡ is_some (map.get lengths q))
    → IfSome (option_map (λ (c : Named (List ℕ)). map.insert c name bytes) content)
    (λ c. (q : ℕ) → is_some (map.get c q) ≡ is_some (map.get (map.insert lengths name (length bytes)) q))
names-put lengths None name bytes is = tt
names-put lengths (Some content) name bytes is = λ q.
    ap is_some (get-inserted content name bytes q)
    ∙ same-cond (eqb q name) bytes (length bytes) (map.get content q) (map.get lengths q) (is q)
    ∙ sym (ap is_some (get-inserted lengths name (length bytes) q))

pub overlay_has_same_names : (es : List (ℕ × List ℕ)) (below : Held) → HasSameNames below → HasSameNames (overlay es below)
overlay_has_same_names [] below is = is
overlay_has_same_names (e ∷ es) below is =
    names-put (overlay es below).lengths (overlay es below).content e.0 e.1 (overlay_has_same_names es below is)

pub overlay_has_lengths : (es : List (ℕ × List ℕ)) (below : Held) → HasLengths below → HasLengths (overlay es below)
overlay_has_lengths [] below is = is
overlay_has_lengths (e ∷ es) below is =
    lengths-put (overlay es below).content (overlay es below).lengths e.0 e.1 (overlay_has_lengths es below is)

pub cache_has_counts : (es : List (ℕ × List ℕ)) (capacity : ℕ) (below : Held) (counts : Counts) (store : Option Room)
    → AreCounts counts below store → AreCounts (cache_counts es capacity below counts) (overlay es below) store
cache_has_counts es capacity below counts store are = record { names = refl; used = are.used }

pub cache_is_chain : (es : List (ℕ × List ℕ)) (capacity : ℕ) (below : Held) (counts : Counts) (store : Option Room) (resident : ℕ)
    → IsChain below counts store resident → IsCache es capacity below
    → IsChain (overlay es below) (cache_counts es capacity below counts) store (length es)
cache_is_chain es capacity below counts store resident chain is = record {
  lengths = overlay_has_lengths es below chain.lengths;
  room = chain.room;
  fits = is.fits;
}
