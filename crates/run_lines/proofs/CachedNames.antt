-- How many names a chain has besides those of cached tiles.
use Rattle.std.proofs.Common.{◌≡◌, ℕ, ◌+◌, ◌-◌, ◌≤◌, List, length, sym, ap, ◌∙◌, arith}
use Rattle.std.specs.Map.{values_of}
use Rattle.std.proofs.lemmas.List.{length-map}
use Rattle.chain_owners.specs.Counts.{Continues, Counts}
use Rattle.chain_owners.specs.Held.{Held}
use Rattle.commit_session.specs.Parts.{Parts}
use Rattle.commit_session.specs.Seen.{AreCached}
use Rattle.model_operations.specs.declared.operation.IntOp.{IntOp}
use Rattle.model_runs.specs.State.{RunState}
use Rattle.model_states.specs.Cache.{Cached, Pair, by_pair}
use Rattle.node_cache.specs.NodeNames.{Entries, Entry, entry_pair}
use Rattle.node_cache.specs.Stores.{AddsNoOther}
use Rattle.run_lines.specs.Carried.{HasNames}

-- a session has as many names of cached tiles as it has cached tiles
pub as-many-names : (entries : Entries) (held : Held) (list : List Cached) → AreCached entries held list → length list ≡ length (values_of entries)
as-many-names entries held list are =
    sym (length-map list by_pair) ∙ ap (λ (pairs : List Pair). length pairs) are.pairs ∙ length-map entries (λ (e : Entry). entry_pair e)
    ∙ sym (length-map entries (λ (e : Entry). e.1))

others-fall : (old new before after : ℕ) → new + before ≤ old + after → new - after ≤ old - before
others-fall old new before after no_other = omega arith

-- a line that brings no names but those of cached tiles
pub names-fall : (state next : RunState) (old new : Counts) (parts later : Parts IntOp) (held after : Held) → Continues old new → AddsNoOther old new (values_of parts.entries) (values_of later.entries) →
    AreCached parts.entries held state.session.cached.list → AreCached later.entries after next.session.cached.list → HasNames 0 state next old new
names-fall state next old new parts later held after continues adds cached cached_then =
    let before = as-many-names parts.entries held state.session.cached.list cached in
    let then = as-many-names later.entries after next.session.cached.list cached_then in
    let fall = others-fall old.names new.names (length (values_of parts.entries)) (length (values_of later.entries)) adds.names in
    record { continues = continues; others = omega (arith, before, then, fall) }
