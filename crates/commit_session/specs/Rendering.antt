-- What renders make of what a session holds.
use Rattle.std.specs.Prelude.{◌≡◌, ℕ, ◌+◌, ◌-◌, ⊤, Bool, List, Some, length, min}
use Rattle.std.specs.Map.{values_of}
use Rattle.chain_owners.specs.Counts.{Counts}
use Rattle.chain_owners.specs.Held.{Held}
use Rattle.model_buffers.specs.Counts.{names_after_render}
use Rattle.model_buffers.specs.Table.{Table}
use Rattle.model_graphs.specs.Meanings.{Meanings}
use Rattle.model_states.specs.Cache.{Cached, Counted, Pair, all_looked_up, itself, uncounted}
use Rattle.model_sessions.specs.Sessions.{Session, max_count}
use Rattle.render_workers.specs.Requests.{Request, pairs_requested}
use Rattle.render_workers.specs.declared.refused.RenderRefused.TheVariants as renders
use Rattle.commit_session.specs.Parts.{Parts, cached_pairs}
use Rattle.commit_session.specs.Seen.{IsSessionOf}
use Rattle.commit_session.specs.declared.refused.SessionRefused.{SessionRefused}
use Rattle.commit_session.specs.declared.refused.SessionRefused.TheVariants.{Buffer, Graph, Render, NoMemory}

-- the cached pairs and both counts of a request, once its pairs are looked up in their order
abbrev pub looked_up_by : {Op : Type 0} → Meanings Op → Parts Op → Request → Counted Pair
looked_up_by meanings parts request =
    all_looked_up itself itself (Some parts.capacity) (uncounted (cached_pairs parts))
    (pairs_requested meanings parts.graph.latest.nodes request)

-- All of it but the cached pairs is as before.
pub record HasSameButCache {Op : Type 0} (old new : Parts Op) : Type 0 where
  pub versions : new.versions ≡ old.versions
  pub pending : new.pending ≡ old.pending
  pub written : new.written ≡ old.written
  pub graph : new.graph ≡ old.graph
  pub most : new.most ≡ old.most
  pub capacity : new.capacity ≡ old.capacity

-- A request was rendered: its pairs were looked up in their order, and are counted up to the largest count.
pub record IsRendered {Op : Type 0} (meanings : Meanings Op) (request : Request) (old new : Parts Op) : Type 0 where
  pub pairs : cached_pairs new ≡ (looked_up_by meanings old request).list
  pub applied : new.applied ≡ min max_count (old.applied + (looked_up_by meanings old request).applied)
  pub reused : new.reused ≡ min max_count (old.reused + (looked_up_by meanings old request).reused)

-- The most names that a chain has in a render: those that aren't the cache's, one for each pair that is cached, and one
-- tile more at work.
abbrev pub names_in_render : {Op : Type 0} → Meanings Op → Parts Op → Request → Counts → ℕ
names_in_render meanings parts request counts =
    names_after_render (counts.names - length (values_of parts.entries)) (length (cached_pairs parts)) parts.capacity
    (looked_up_by meanings parts request).applied

-- ---- refusals

-- what holds of a refusal by the plan of a render, which comes before anything is looked up
abbrev pub OnPlanRefused : Type 0 → SessionRefused → Type 0
OnPlanRefused P (Render renders.UnknownNode) = P
OnPlanRefused P (Render renders.Rect) = P
OnPlanRefused P (Render (renders.Strip needed capacity)) = P
OnPlanRefused P (Render renders.SwapFault) = ⊤
OnPlanRefused P (Render (renders.SwapFull needed longest)) = ⊤
OnPlanRefused P (Render renders.NoMemory) = ⊤
OnPlanRefused P (Buffer refused) = ⊤
OnPlanRefused P (Graph refused) = ⊤
OnPlanRefused P NoMemory = ⊤

-- A session is held with other cached pairs.
pub record IsRecached {Op : Type 0} (same : Op → Op → Bool) (meanings : Meanings Op) (parts : Parts Op) (held : Held) (session : Session Table Op) : Type 0 where
  pub list : List Cached
  pub is : IsSessionOf same meanings parts held (record session { cached = record session.cached { list = list } })
