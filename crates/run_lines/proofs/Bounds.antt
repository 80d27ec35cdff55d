-- How many names a chain has while a line is carried out.
use Rattle.std.proofs.Common.{◌≡◌, ℕ, ◌+◌, ◌-◌, ◌≤◌, Bool, length, Option, Some, None, ap, arith}
use Rattle.std.specs.Prelude.{min}
use Rattle.chain_owners.specs.Counts.{Counts, Grows, IsFullOver}
use Rattle.chain_owners.specs.Held.{Held}
use Rattle.commit_session.specs.Parts.{Parts}
use Rattle.model_operations.specs.declared.operation.IntOp.{IntOp}
use Rattle.model_runs.specs.State.{Effect, RunState}
use Rattle.model_states.specs.Cache.{Cached, Counted}
use Rattle.outside_io.specs.Files.{Files}
use Rattle.run_lines.specs.Carried.{Exceeds, HasNames, most_of_line}
use Rattle.run_lines.specs.States.{Holds}

-- names that fill a swap exceed what there is for them
pub full_exceeds : (counts : Counts) (names needed longest : ℕ) → IsFullOver counts.used counts.capacity names needed longest → Exceeds counts names
full_exceeds counts names needed longest full = by counts.used full
  where
    by : (used : Option ℕ) → IsFullOver used counts.capacity names needed longest → Exceeds (record counts { used = used }) names
    by None full = absurd full
    by (Some used) full = (full.past, full.room)

cached_within : (names tiles cached capacity applied : ℕ) → cached ≤ capacity → cached ≤ applied → names + tiles ≤ names - cached + tiles + min capacity applied + 1
cached_within names tiles cached capacity applied few counted = omega arith

others_within : (old new cached tiles : ℕ) → new ≤ old + tiles → new - cached ≤ old - cached + tiles
others_within old new cached tiles more = omega arith

-- The cached tiles are at most as many as there may be, and as were applied.
pub names_within : (exposed : Bool) (capacity : ℕ) (state : RunState) (files : Files) (parts : Parts IntOp) (held : Held) (shelf : Option Files) →
    Holds exposed capacity state files parts held shelf → (names : ℕ) (done : Effect) → done.next.session.cached ≡ state.session.cached →
    names + done.tiles ≤ most_of_line capacity state names done
names_within exposed capacity state files parts held shelf holds names done same =
    let cached = length state.session.cached.list in
    let applied : done.next.session.cached.applied ≡ state.session.cached.applied = ap (λ (c : Counted Cached). c.applied) same in
    cached_within names done.tiles cached capacity done.next.session.cached.applied holds.valid.few (omega (arith, holds.applied, applied))

-- A line that caches nothing brings no names but those of its tiles of buffers.
pub names_grow : (tiles : ℕ) (state next : RunState) (old new : Counts) → next.session.cached ≡ state.session.cached → Grows tiles old new → HasNames tiles state next old new
names_grow tiles state next old new same grows =
    let cached : length next.session.cached.list ≡ length state.session.cached.list = ap (λ (c : Counted Cached). length c.list) same in
    let within = others_within old.names new.names (length state.session.cached.list) tiles grows.names in
    record { continues = grows.continues; others = omega (arith, within, cached) }
