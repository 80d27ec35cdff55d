-- A chain without names, and without a store, keeps the laws of chains.
use Rattle.std.specs.Prelude.{◌≡◌, ℕ, List, [], ◌∷◌, map, length, None, is_some}
use Rattle.std.proofs.Common.{refl, sym, ap, ◌∙◌, arith}
use Rattle.std.specs.Ordering.{nat_cmp}
use Rattle.std.specs.FinMap as map
use Rattle.std.specs.FinMap.{entries, from_entries, get-empty, len-empty, len-entries}
use Rattle.chain_owners.specs.Values.{map_values}
use Rattle.chain_owners.specs.Chain.{HasSameNames, IsChain}
use Rattle.chain_owners.specs.Counts.{AreCounts}
use Rattle.chain_owners.specs.Held.{nothing_held}

no_entries : {A : Type 0} (es : List A) → length es ≡ 0 → es ≡ []
no_entries [] none = refl
no_entries (e ∷ es) none = absurd (omega arith)

map_values-empty : {X Y : Type 0} (f : X → Y) → map_values f map.empty ≡ map.empty
unfolding map_values
map_values-empty {X} {Y} f =
    let none : entries (map.empty {X = X} {R = nat_cmp}) ≡ [] = no_entries _ (sym (len-entries map.empty) ∙ len-empty nat_cmp X) in
    ap (λ es. from_entries {R = nat_cmp} (map {B = ℕ × Y} (λ (e : ℕ × X). (e.0, f e.1)) es)) none

pub unit_has_same_names : HasSameNames nothing_held
unit_has_same_names name = ap is_some (get-empty nat_cmp name) ∙ sym (ap is_some (get-empty nat_cmp name))

pub unit_counts : AreCounts (record { faults = 0; names = 0; used = None; capacity = 0 }) nothing_held None
unit_counts = record { names = sym (len-empty nat_cmp ℕ); used = refl }

pub unit_is_chain : IsChain nothing_held (record { faults = 0; names = 0; used = None; capacity = 0 }) None 0
unit_is_chain = record { lengths = sym (map_values-empty length); room = tt; fits = omega arith }
