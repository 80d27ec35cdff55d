-- What stays ready over calls.
use Rattle.std.proofs.Common.{◌≡◌, ℕ, List, [], ◌++◌, take, Some, inl, inr, arith, sym, subst}
use Rattle.chain_owners.specs.Held.{Held}
use Rattle.chain_owners.specs.Owners.{Owns, Respects}
use Rattle.chain_owners.proofs.Ownership.{others-own, owns-fewer, times-append}
use Rattle.model_graphs.specs.declared.node.NodeFact.{NodeFact}
use Rattle.model_buffers.specs.Layout.{TableLayout, facts_of}
use Rattle.model_graphs.specs.Facts.{Facts}
use Rattle.model_graphs.specs.Meanings.{Meanings}
use Rattle.model_states.proofs.CacheLaws.{all-filter, all-within}
use Rattle.node_cache.specs.Stores.{Sized, by_sized}
use Rattle.plane_rect.specs.Rectangle.{Rectangle}
use Rattle.model_states.specs.Cache.{voided}
use Rattle.strip_renders.proofs.Moments.{owns-turned}
use Rattle.strip_renders.specs.Strips.{AreSizedPairs, IsSizedPair}
use Rattle.test_renders.specs.Ready.{AreOver, AreReady}

-- the chain owns what is held after a call, where it owned what was held before it
pub owned-on : (old new : Held) (before after : List ℕ) → Respects old new before after → Owns old before → Owns new after
owned-on old new before after others owns = record {
  counted = λ q. elim (owns.counted q) [
    | inl stopped ↦ inl (others.stopped q stopped)
    | inr enough ↦ elim (others.others q) [ inl stopped ↦ inl stopped | inr same ↦ inr (omega (arith, enough, same)) ]
  ];
}

-- the same of names that a value which isn't handed holds before them
pub owned-after : (old new : Held) (first before after : List ℕ) → Respects old new before after → Owns old (first ++ before) → Owns new (first ++ after)
owned-after old new first before after others owns =
    owns-turned new after first (others-own old new before after others first (owns-turned old first before owns))

-- and of no name more
pub owned-alone : (held : Held) (names : List ℕ) → Owns held names → Owns held (names ++ [])
owned-alone held names owns = owns-fewer held names (names ++ []) (λ q. omega (arith, times-append names [] q)) owns

-- what a void leaves is sized as it was
pub sized-voided : {Op : Type 0} (nodes : List (NodeFact Op)) (sizes : List Sized) (node : List ℕ) (rectangle : Rectangle)
    → AreSizedPairs nodes sizes → AreSizedPairs nodes (voided by_sized sizes node rectangle)
sized-voided nodes sizes node rectangle sized = all-filter by_sized (IsSizedPair nodes) _ sizes sized

-- what a trim leaves is as ready as it was
pub ready-taken : {Op : Type 0} (meanings : Meanings Op) (facts : Facts) (nodes : List (NodeFact Op)) (sizes : List Sized) (count : ℕ)
    → AreReady meanings facts nodes sizes → AreReady meanings facts nodes (take count sizes)
ready-taken meanings facts nodes sizes count ready = record {
  stated = ready.stated;
  sized = all-within by_sized (IsSizedPair nodes) (Some count) sizes ready.sized;
}

-- a source and a cache are over a chain after a call that kept their names
pub over-on : {source cache : Type 0} (old new : Held) (before after cached-before cached : List ℕ) → source → cache
    → Respects old new (before ++ cached-before) (after ++ cached) → Owns old (before ++ cached-before) → AreOver source cache after cached new
over-on old new before after cached-before cached is-source is-cache others owned = record {
  source = is-source;
  cache = is-cache;
  owned = owned-on old new (before ++ cached-before) (after ++ cached) others owned;
}

-- the same after one that changed the source alone
pub over-beside : {source cache : Type 0} (old new : Held) (before after cached : List ℕ) → source → cache
    → Respects old new before after → Owns old (before ++ cached) → AreOver source cache after cached new
over-beside old new before after cached is-source is-cache others owned = record {
  source = is-source;
  cache = is-cache;
  owned = others-own old new before after others cached owned;
}

-- nodes are ready where neither the buffers' shapes nor the sizes of cached tiles changed
pub ready-beside : {Op : Type 0} (meanings : Meanings Op) (old new : TableLayout) (nodes : List (NodeFact Op)) (before after : List Sized)
    → new ≡ old → after ≡ before → AreReady meanings (facts_of old) nodes before → AreReady meanings (facts_of new) nodes after
ready-beside meanings old new nodes before after same-layout same-sizes ready =
    subst (λ layout. AreReady meanings (facts_of layout) nodes after) (sym same-layout)
    (subst (AreReady meanings (facts_of old) nodes) (sym same-sizes) ready)
