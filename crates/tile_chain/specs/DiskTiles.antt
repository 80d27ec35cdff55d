-- What a chain that is a store holds. Its laws are here and not among the proofs, since it is declared
-- with them.
use Rattle.std.specs.Prelude.{◌≡◌, ℕ, List, map, Option, Some, None, is_some}
use Rattle.std.specs.Option.{option_map}
use Rattle.std.specs.FinMap as map
use Rattle.std.specs.FinMap.{entries, find, get-entries, get-from_entries}
use Rattle.std.specs.Ordering.{nat_cmp, eq_by_cmp}
use Rattle.std.proofs.Common.{refl, sym, ap, ◌∙◌, arith, Bool, true, false, cond, [], ◌∷◌}
use Rattle.std.proofs.lemmas.Cmp.{nat_cmp_total}
use Rattle.outside_io.specs.Swap.{Blocks}
use Rattle.chain_owners.specs.Chain.{HasSameNames, IsChain}
use Rattle.chain_owners.specs.Counts.{AreCounts, Counts}
use Rattle.chain_owners.specs.Held.{HasLengths, Held}
use Rattle.chain_owners.specs.Room.{Room}
use Rattle.chain_owners.specs.Values.{Named, map_values}
use Rattle.swap_store.specs.declared.block_map.Extent.{Extent}
use Rattle.swap_store.specs.Content.{bytes_in, content_of, lengths_of}
use Rattle.swap_store.specs.Placement.{IsPlacement, Placement}
use Rattle.swap_store.specs.Run.{IsRunList}

-- the names of a placement, with the bytes that its disk exposes
abbrev pub disk_held : Placement → Option Blocks → Held
disk_held placement blocks = record {
  lengths = lengths_of placement.extents;
  content = content_of placement.extents blocks;
  owners = map.empty;
}

-- its counts over a disk with so many I/O errors: it has no cache
abbrev pub disk_counts : Placement → ℕ → Counts
disk_counts placement faults = record {
  faults = faults;
  names = map.len (lengths_of placement.extents);
  used = Some placement.used;
  capacity = 0;
}

abbrev pub disk_room : Placement → Room
disk_room placement = record { free = placement.free; used = placement.used }

-- What holds of it at every moment that a program can reach.
pub record IsDisk (placement : Placement) (blocks : Option Blocks) : Type 0 where
  pub placed : IsPlacement placement
  pub lengths : HasLengths (disk_held placement blocks)
  pub runs : IsRunList 0 placement.used placement.free

is_some-map : {X Y : Type 0} (f : X → Y) (o : Option X) → is_some (option_map f o) ≡ is_some o
is_some-map f None = refl
is_some-map f (Some x) = refl

cond-map : {X Y : Type 0} (f : X → Y) (b : Bool) (x : X) (o : Option X) → cond b (Some (f x)) (option_map f o) ≡ option_map f (cond b (Some x) o)
cond-map f true x o = refl
cond-map f false x o = refl

find-map : {X Y : Type 0} (f : X → Y) (q : ℕ) (es : List (ℕ × X)) → find nat_cmp q (map {B = ℕ × Y} (λ (e : ℕ × X). (e.0, f e.1)) es) ≡ option_map f (find nat_cmp q es)
find-map f q [] = refl
find-map f q (e ∷ es) = ap (cond (eq_by_cmp nat_cmp q e.0) (Some (f e.1))) (find-map f q es) ∙ cond-map f (eq_by_cmp nat_cmp q e.0) e.1 (find nat_cmp q es)

is_some-value : {X Y : Type 0} (f : X → Y) (m : Named X) (q : ℕ) → is_some (map.get (map_values f m) q) ≡ is_some (map.get m q)
unfolding map_values
is_some-value f m q =
    ap is_some (get-from_entries nat_cmp_total _ q ∙ find-map f q (entries m))
    ∙ is_some-map f (find nat_cmp q (entries m)) ∙ ap is_some (sym (get-entries m q))

pub disk_has_same_names : (placement : Placement) (blocks : Option Blocks) → HasSameNames (disk_held placement blocks)
disk_has_same_names placement None = tt
disk_has_same_names placement (Some blocks) = λ name.
    is_some-value (bytes_in blocks) placement.extents name ∙ sym (is_some-value (λ (x : Extent). x.len) placement.extents name)

pub disk_has_counts : (placement : Placement) (blocks : Option Blocks) (faults : ℕ)
    → AreCounts (disk_counts placement faults) (disk_held placement blocks) (Some (disk_room placement))
disk_has_counts placement blocks faults = record { names = refl; used = refl }

pub disk_is_chain : (placement : Placement) (blocks : Option Blocks) (faults : ℕ) → IsDisk placement blocks
    → IsChain (disk_held placement blocks) (disk_counts placement faults) (Some (disk_room placement)) 0
disk_is_chain placement blocks faults is = record { lengths = is.lengths; room = is.runs; fits = omega arith }
