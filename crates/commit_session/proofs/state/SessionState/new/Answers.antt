use Rattle.std.proofs.Common.{◌≡◌, ℕ, [], sym, ap, subst, ◌∙◌}
use Rattle.model_graphs.specs.Facts.{rectangles_of}
use Rattle.model_graphs.specs.Laws.{KeepsLaws}
use Rattle.model_sessions.specs.Sessions.{new_session}
use Rattle.session_states.specs.OverChains.{AreVersionsOver}
use Rattle.session_states.specs.Versions.{Versions}
use Rattle.buffer_view.specs.BufferTables.{BufferTable}
use Rattle.commit_session.specs.Parts.{Parts, new_parts}
use Rattle.commit_session.specs.Seen.{IsOver, IsSessionOf}
use Rattle.chain_owners.specs.Held.{nothing_held}
use Rattle.node_cache.specs.NodeNames.{Entries, IsNodeCache}
use Rattle.commit_session.proofs.Changed.{over-first, session-first}
use Rattle.commit_session.proofs.Same.{parts-same}
use Rattle.commit_session.proofs.state.SessionState.new.Given
use Rattle.commit_session.proofs.state.SessionState.new.Goals.{After-new-5}
use Rattle.commit_session.proofs.state.SessionState.new.Goals as goal

laws : (g : Given.Over) → KeepsLaws g.Op.OpMeaning.meanings
laws g = record { local = g.Op.OpMeaning.local; dual = g.Op.OpMeaning.dual }

module _ (g : Given.Over) (c : After-new-5 g) where
  abbrev final : Parts g.row.Op.Denot
  final = record {
    versions = c.in_ok-versions.versions;
    pending = c.new-3.result.items;
    written = rectangles_of c.new-4.result.items;
    graph = c.new-5.result;
    entries = c.in_ok-cache.cache.names.entries;
    most = c.in_ok-cache.cache.names.cap;
    capacity = c.in_ok-cache.cache.capacity;
    applied = 0;
    reused = 0;
  }

  cap : c.in_ok-cache.cache.names.cap ≡ c.args.capacity
  cap = (c.in_ok-cache.ensures.over nothing_held).same ∙ c.in_ok-cache.ensures.capacity

  is : final ≡ new_parts c.args.capacity
  is =
      parts-same c.in_ok-versions.versions _ c.new-3.result.items _ (rectangles_of c.new-4.result.items) _ c.new-5.result _ c.in_ok-cache.cache.names.entries _ c.in_ok-cache.cache.names.cap _ c.in_ok-cache.cache.capacity _
      c.in_ok-versions.ensures.versions c.new-3.ensures.items (ap rectangles_of c.new-4.ensures.items) c.new-5.ensures c.in_ok-cache.ensures.empty cap c.in_ok-cache.ensures.capacity

pub returns-clause-parts : goal.returns-clause-parts
returns-clause-parts g c = is g (goal.at.returns-clause-parts g c).After-new-5

pub returns-clause-over : goal.returns-clause-over
returns-clause-over g c = λ held.
    let at = (goal.at.returns-clause-over g c).After-new-5 in
    let cache : IsNodeCache [] c.args.capacity c.args.capacity held =
    subst (λ (n : ℕ). IsNodeCache [] c.args.capacity n held) c.in_ok-cache.ensures.capacity
    (subst (λ (n : ℕ). IsNodeCache [] n c.in_ok-cache.cache.capacity held) (cap g at)
    (subst (λ (es : Entries). IsNodeCache es c.in_ok-cache.cache.names.cap c.in_ok-cache.cache.capacity held) c.in_ok-cache.ensures.empty (c.in_ok-cache.ensures.over held))) in
    subst (λ (p : Parts g.row.Op.Denot). IsOver g.Op.OpMeaning.same g.Op.OpMeaning.meanings p held) (sym (is g at))
    (over-first g.Op.OpMeaning.same g.Op.OpMeaning.meanings (laws g) g.Op.OpMeaning.boxed g.Op.OpMeaning.distinguished.apart c.args.capacity held cache
    (subst (λ (v : Versions BufferTable). AreVersionsOver v held) c.in_ok-versions.ensures.versions (c.in_ok-versions.ensures.over held)))

pub returns-clause-session : goal.returns-clause-session
returns-clause-session g c = λ held.
    subst (λ (p : Parts g.row.Op.Denot). IsSessionOf g.Op.OpMeaning.same g.Op.OpMeaning.meanings p held new_session) (sym (is g (goal.at.returns-clause-session g c).After-new-5))
    (session-first g.Op.OpMeaning.same g.Op.OpMeaning.meanings c.args.capacity held)
