use Rattle.std.proofs.Common.{◌≡◌, List, [], ◌∷◌, ◌++◌, length, take, sym, ap, subst, ◌∙◌, arith}
use Rattle.std.proofs.lemmas.List.{length-take}
use Rattle.pixel_formats.specs.Limits.{max_undoable}
use Rattle.chain_owners.specs.Owners.{Owns}
use Rattle.root_tiles.specs.Chains.{ChainState, Leaves, chain_state}
use Rattle.buffer_view.specs.BufferTables.{BufferTable, buffers_names}
use Rattle.session_states.specs.OverChains.{AreAllOver, AreAllSame, IsReleased, names_of_all, versions_names}
use Rattle.session_states.specs.Versions.{Versions, after_commit}
use Rattle.session_states.proofs.Released.{IsCut, committed, past-over, past-owned, redo-handed, redo-owned}
use Rattle.session_states.proofs.Returned.{committed-is, four, pushed-is}
use Rattle.session_states.proofs.versions.BufferVersions.commit.Given
use Rattle.session_states.proofs.versions.BufferVersions.commit.Goals.{After-push_front_reserved, After-release_past, After-release_all}
use Rattle.session_states.proofs.versions.BufferVersions.commit.Goals as goal

module _ (g : Given.Over) where
  -- ---- the last state was put before those that can be undone to

  module _ (c : After-push_front_reserved g) where
    pushed : c.push_front_reserved.new.self.items ≡ c.args.self.now.latest ∷ c.args.self.now.undoable
    pushed =
        pushed-is _ c.args.self.now c.self.view_is c.args.shared c.replace-left.result c.replace-left.new.dest c.push_front_reserved.new.self.items
        c.requires.shared c.replace-left.ensures.after c.replace-left.ensures.value c.push_front_reserved.ensures.items

  -- ---- the oldest one may have been released

  module _ (c : After-release_past g) (is : c.push_front_reserved.new.self.items ≡ c.args.self.now.latest ∷ c.args.self.now.undoable) where
    abbrev s0 : ChainState
    s0 = chain_state g.C.ChainMeaning c.args.chain.now

    abbrev s1 : ChainState
    s1 = chain_state g.C.ChainMeaning c.release_past.new.chain

    abbrev all : List BufferTable
    all = c.args.self.now.latest ∷ c.args.self.now.undoable

    kept : c.release_past.new.states.items ≡ take max_undoable all
    kept = c.release_past.ensures.items ∙ ap (λ (bs : List BufferTable). take max_undoable bs) is

    cut : IsCut c.args.self.now s0 s1
    cut = record {
      left = subst (λ (bs : List BufferTable). Leaves 0 (names_of_all bs) (names_of_all (take max_undoable bs)) s0 s1) is
          (subst (λ (bs : List BufferTable). Leaves 0 (names_of_all c.push_front_reserved.new.self.items) (names_of_all bs) s0 s1) c.release_past.ensures.items c.release_past.ensures.left);
      over = subst (λ (bs : List BufferTable). AreAllOver bs s1.held) kept c.release_past.ensures.over;
      same = subst (λ (bs : List BufferTable). AreAllSame s0.held s1.held bs) kept c.release_past.ensures.same;
    }

  -- ---- those that could be redone are released

  module _ (c : After-release_all g) where
    final : four c.self.inside.working c.replace-left.new.dest c.release_past.new.states.items c.release_all.new.states.items ≡ after_commit c.args.self.now
    final =
        committed-is _ c.args.self.now c.self.view_is c.args.shared c.replace-left.result c.replace-left.new.dest c.push_front_reserved.new.self.items
        c.requires.shared c.replace-left.ensures.after c.replace-left.ensures.value c.push_front_reserved.ensures.items
        c.release_past.new.states.items c.release_all.new.states.items c.release_past.ensures.items c.release_all.ensures.items

    done : IsCut c.args.self.now (chain_state g.C.ChainMeaning c.args.chain.now) (chain_state g.C.ChainMeaning c.release_past.new.chain)
        → IsReleased (buffers_names c.args.shared ++ versions_names c.args.self.now)
        (four c.self.inside.working c.replace-left.new.dest c.release_past.new.states.items c.release_all.new.states.items) (chain_state g.C.ChainMeaning c.args.chain.now) (chain_state g.C.ChainMeaning c.release_all.new.chain)
    done first =
        let names = buffers_names c.args.shared ++ versions_names c.args.self.now in
        let second : Leaves 0 (names_of_all c.args.self.now.redoable) [] (chain_state g.C.ChainMeaning c.release_past.new.chain) (chain_state g.C.ChainMeaning c.release_all.new.chain) =
        subst (λ (x : Versions BufferTable). Leaves 0 (names_of_all x.redoable) [] (chain_state g.C.ChainMeaning c.release_past.new.chain) (chain_state g.C.ChainMeaning c.release_all.new.chain)) c.self.view_is c.release_all.ensures.left in
        subst (λ (f : Versions BufferTable). IsReleased names f (chain_state g.C.ChainMeaning c.args.chain.now) (chain_state g.C.ChainMeaning c.release_all.new.chain)) (sym final)
        (committed c.args.self.now c.args.shared c.requires.shared (chain_state g.C.ChainMeaning c.args.chain.now) (chain_state g.C.ChainMeaning c.release_past.new.chain) (chain_state g.C.ChainMeaning c.release_all.new.chain)
        c.requires.over c.requires.shared_over c.requires.owned first second)

-- ---- what is asked

pub release_past-requires-clause-over : goal.release_past-requires-clause-over
release_past-requires-clause-over g c =
    let s0 = chain_state g.C.ChainMeaning c.args.chain.now in
    subst (λ (bs : List BufferTable). AreAllOver bs s0.held) (sym (pushed g (goal.at.release_past-requires-clause-over g c).After-push_front_reserved))
    (past-over c.args.self.now c.args.shared c.requires.shared s0 s0 s0 c.requires.over c.requires.shared_over c.requires.owned)

pub release_past-requires-clause-owned : goal.release_past-requires-clause-owned
release_past-requires-clause-owned g c =
    let s0 = chain_state g.C.ChainMeaning c.args.chain.now in
    subst (λ (bs : List BufferTable). Owns s0.held (names_of_all bs)) (sym (pushed g (goal.at.release_past-requires-clause-owned g c).After-push_front_reserved))
    (past-owned c.args.self.now c.args.shared c.requires.shared s0 s0 s0 c.requires.over c.requires.shared_over c.requires.owned)

pub release_all-requires-clause-over : goal.release_all-requires-clause-over
release_all-requires-clause-over g c =
    let at = goal.at.release_all-requires-clause-over g c in
    let s1 = chain_state g.C.ChainMeaning c.release_past.new.chain in
    subst (λ (x : Versions BufferTable). AreAllOver x.redoable s1.held) (sym c.self.view_is)
    (redo-handed c.args.self.now c.args.shared c.requires.shared (chain_state g.C.ChainMeaning c.args.chain.now) s1 s1 c.requires.over c.requires.shared_over c.requires.owned
    (cut g at.After-release_past (pushed g at.After-push_front_reserved)).left)

pub release_all-requires-clause-owned : goal.release_all-requires-clause-owned
release_all-requires-clause-owned g c =
    let at = goal.at.release_all-requires-clause-owned g c in
    let s1 = chain_state g.C.ChainMeaning c.release_past.new.chain in
    subst (λ (x : Versions BufferTable). Owns s1.held (names_of_all x.redoable)) (sym c.self.view_is)
    (redo-owned c.args.self.now c.args.shared c.requires.shared (chain_state g.C.ChainMeaning c.args.chain.now) s1 s1 c.requires.over c.requires.shared_over c.requires.owned
    (cut g at.After-release_past (pushed g at.After-push_front_reserved)).left)

-- ---- what is left

pub returns-clause-committed : goal.returns-clause-committed
returns-clause-committed g c = final g (goal.at.returns-clause-committed g c).After-release_all

pub returns-clause-released : goal.returns-clause-released
returns-clause-released g c =
    let at = goal.at.returns-clause-released g c in done g at.After-release_all (cut g at.After-release_past (pushed g at.After-push_front_reserved))

pub invariant_of-self : goal.invariant_of-self
invariant_of-self g c =
    let pushed : List BufferTable = c.push_front_reserved.new.self.items in
    let cut : length c.release_past.new.states.items ≡ length (take 64 pushed) = ap (λ (bs : List BufferTable). length bs) c.release_past.ensures.items in
    let none : length c.release_all.new.states.items ≡ 0 = ap (λ (bs : List BufferTable). length bs) c.release_all.ensures.items in (
      omega (arith, c.release_past.ensures.capacity, c.push_front_reserved.ensures.capacity, c.self.invariant.0),
      omega (arith, c.release_all.ensures.capacity, c.self.invariant.1),
      omega (arith, cut, none, length-take 64 pushed),
    )
