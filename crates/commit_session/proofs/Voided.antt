-- Cached tiles of which those that damage meets were voided.
use Rattle.std.proofs.Common.{◌≡◌, ℕ, Bool, true, false, not, cond, List, [], ◌∷◌, map, refl, sym, ap, subst, ◌∙◌, Option, Some, None}
use Rattle.std.specs.Prelude.{IfSome}
use Rattle.std.specs.Option.{option_map}
use Rattle.plane_rect.specs.Rectangle.{Rectangle}
use Rattle.chain_owners.specs.Held.{Held}
use Rattle.model_graphs.specs.Meanings.{Meanings}
use Rattle.model_states.specs.Cache.{Cached, Pair, all_voided, by_pair, itself, without_damaged}
use Rattle.model_states.specs.Damage.{Change, damage, damage_list}
use Rattle.model_states.specs.Rectangles.{Rectangles}
use Rattle.plane_rect.specs.Tile.{meets}
use Rattle.model_states.proofs.Voids.{damage_voids}
use Rattle.node_cache.specs.NodeNames.{Entries, cached_in, pairs_in, sizes_in}
use Rattle.node_cache.specs.Stores.{Sized, by_sized, sized_of}
use Rattle.commit_session.specs.Seen.{AreCached}

-- what is left, as the pairs with less of their tiles have it
left-map : {X Y : Type 0} (f : X → Y) (key : Y → Pair) (damage : List ℕ → Rectangle) (list : List X)
    → map f (without_damaged (λ (x : X). key (f x)) damage list) ≡ without_damaged key damage (map f list)
left-map f key damage [] = refl
left-map {X} {Y} f key damage (x ∷ list) = by (not (meets (key (f x)).tile (damage (key (f x)).node))) (left-map f key damage list)
  where
    first : List X
    first = without_damaged (λ (y : X). key (f y)) damage list

    second : List Y
    second = without_damaged key damage (map f list)

    by : (b : Bool) → map f first ≡ second → map f (cond b (x ∷ first) first) ≡ cond b (f x ∷ second) second
    by true rest = ap (λ (l : List Y). f x ∷ l) rest
    by false rest = rest

-- damages that are equal at each name leave the same
same-left : {X : Type 0} (key : X → Pair) (first second : List ℕ → Rectangle) → ((name : List ℕ) → first name ≡ second name) → (list : List X)
    → without_damaged key first list ≡ without_damaged key second list
same-left key first second equal [] = refl
same-left key first second equal (x ∷ list) =
    ap (λ (r : Rectangle). cond (not (meets (key x).tile r)) (x ∷ without_damaged key first list) (without_damaged key first list)) (equal (key x).node)
    ∙ ap (λ rest. cond (not (meets (key x).tile (second (key x).node))) (x ∷ rest) rest) (same-left key first second equal list)

module _ {Op : Type 0} (same : Op → Op → Bool) (meanings : Meanings Op) (damages : Rectangles) (change : Change Op) (is : damages ≡ damage_list same meanings change)
    (left : List ℕ → Rectangle) (each : (name : List ℕ) → damage same meanings change name ≡ left name) where
  -- these voids leave what damage of this change leaves
  pub voids-leave : {X : Type 0} (key : X → Pair) (list : List X) → all_voided key list damages ≡ without_damaged key left list
  voids-leave key list =
      ap (all_voided key list) is ∙ damage_voids key same meanings change list ∙ same-left key (damage same meanings change) left each list

  module _ (es es' : Entries) (h0 h1 h2 : Held) (bytes : cached_in es h1 ≡ cached_in es h0) (sizes : sizes_in es h1 ≡ sizes_in es h0)
      (pairs' : pairs_in es' ≡ all_voided itself (pairs_in es) damages)
      (sizes' : sizes_in es' h2 ≡ all_voided by_sized (sizes_in es h1) damages)
      (bytes' : cached_in es' h2 ≡ option_map (λ (l : List Cached). all_voided by_pair l damages) (cached_in es h1)) where
    pub cached-voided : (list : List Cached) → AreCached es h0 list → AreCached es' h2 (without_damaged by_pair left list)
    cached-voided list are = record {
      pairs = left-map by_pair itself left list ∙ ap (without_damaged itself left) are.pairs ∙ sym (pairs' ∙ voids-leave itself (pairs_in es));
      sizes = left-map sized_of by_sized left list ∙ ap (without_damaged by_sized left) are.sizes
          ∙ sym (sizes' ∙ ap (λ (l : List Sized). all_voided by_sized l damages) sizes ∙ voids-leave by_sized (sizes_in es h0));
      bytes = subst (λ (o : Option (List Cached)). IfSome o (λ (known : List Cached). known ≡ without_damaged by_pair left list))
          (sym (bytes' ∙ ap (option_map (λ (l : List Cached). all_voided by_pair l damages)) bytes)) (known-voided (cached_in es h0) are.bytes);
    }
      where
        known-voided : (o : Option (List Cached)) → IfSome o (λ (known : List Cached). known ≡ list)
            → IfSome (option_map (λ (l : List Cached). all_voided by_pair l damages) o) (λ (known : List Cached). known ≡ without_damaged by_pair left list)
        known-voided None is = tt
        known-voided (Some known) is = ap (λ (l : List Cached). all_voided by_pair l damages) is ∙ voids-leave by_pair list
