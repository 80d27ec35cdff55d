-- Versions of buffers after an undo or a redo.
use Rattle.std.proofs.Common.{◌≡◌, ℕ, ◌+◌, List, [], ◌∷◌, ◌++◌, refl, sym, ap, subst, ◌∙◌, Some, arith}
use Rattle.std.specs.Prelude.{slice_get}
use Rattle.std.specs.List.{AllByRecursion}
use Rattle.chain_owners.specs.Owners.{Owns, times}
use Rattle.chain_owners.proofs.Ownership.{times-append}
use Rattle.chain_owners.specs.Held.{Held}
use Rattle.root_tiles.specs.Chains.{ChainState, Leaves}
use Rattle.model_states.specs.declared.direction.Direction.{Direction}
use Rattle.model_states.specs.declared.direction.Direction.TheVariants.{Undo, Redo}
use Rattle.buffer_view.specs.BufferTables.{AreBuffersOver, BufferTable, buffers_names}
use Rattle.session_states.specs.OverChains.{AreAllOver, AreVersionsOver, IsReleased, names_of_all, versions_names}
use Rattle.session_states.specs.Versions.{IsMoved, Versions, all_versions, versions_after, versions_ahead, versions_behind}
use Rattle.session_states.proofs.Beside.{all-append, all-first, all-second}
use Rattle.session_states.proofs.Edited.{with_working}
use Rattle.session_states.proofs.Names.{names-append}
use Rattle.session_states.proofs.Released.{one-released}
use Rattle.session_states.proofs.Returned.{first-is, four-same}

-- ---- the states ahead and behind are those that can be undone and redone to

in-order : (v : Versions BufferTable) (q : ℕ)
    → times (versions_names v) q
    ≡ times (buffers_names v.working) q + (times (buffers_names v.latest) q + (times (names_of_all v.undoable) q + times (names_of_all v.redoable) q))
in-order v q =
    omega (
      arith,
      times-append (buffers_names v.working) (names_of_all (v.latest ∷ (v.undoable ++ v.redoable))) q,
      times-append (buffers_names v.latest) (names_of_all (v.undoable ++ v.redoable)) q,
      names-append v.undoable v.redoable q,
    )

states-counts : (direction : Direction) (v : Versions BufferTable) (q : ℕ)
    → times (versions_names v) q
    ≡ times (buffers_names v.working) q
    + (times (buffers_names v.latest) q + (times (names_of_all (versions_ahead direction v)) q + times (names_of_all (versions_behind direction v)) q))
states-counts Undo v q = in-order v q
states-counts Redo v q = omega (arith, in-order v q)

module _ (P : BufferTable → Type 0) where
  all-ahead : (direction : Direction) (v : Versions BufferTable) → AllByRecursion P (all_versions v) → AllByRecursion P (versions_ahead direction v)
  all-ahead Undo v all = all-first P v.undoable v.redoable all.1.1
  all-ahead Redo v all = all-second P v.undoable v.redoable all.1.1

  all-behind : (direction : Direction) (v : Versions BufferTable) → AllByRecursion P (all_versions v) → AllByRecursion P (versions_behind direction v)
  all-behind Undo v all = all-second P v.undoable v.redoable all.1.1
  all-behind Redo v all = all-first P v.undoable v.redoable all.1.1

  all-of-both : (direction : Direction) (v : Versions BufferTable) → P v.working → P v.latest → AllByRecursion P (versions_ahead direction v)
      → AllByRecursion P (versions_behind direction v) → AllByRecursion P (all_versions v)
  all-of-both Undo v working latest ahead behind = (working, (latest, all-append P v.undoable v.redoable ahead behind))
  all-of-both Redo v working latest ahead behind = (working, (latest, all-append P v.undoable v.redoable behind ahead))

-- ---- after a step

ahead-after : (direction : Direction) (old : Versions BufferTable) (next : BufferTable) (rest : List BufferTable)
    → versions_ahead direction (versions_after direction old next rest) ≡ rest
ahead-after Undo old next rest = refl
ahead-after Redo old next rest = refl

behind-after : (direction : Direction) (old : Versions BufferTable) (next : BufferTable) (rest : List BufferTable)
    → versions_behind direction (versions_after direction old next rest) ≡ old.latest ∷ versions_behind direction old
behind-after Undo old next rest = refl
behind-after Redo old next rest = refl

module _ (direction : Direction) (old : Versions BufferTable) (next : BufferTable) (rest : List BufferTable) (is : versions_ahead direction old ≡ next ∷ rest) where
  abbrev final : Versions BufferTable
  final = versions_after direction old next rest

  step-counts : (q : ℕ) → times (buffers_names next ++ versions_names old) q ≡ times (buffers_names old.working) q + times (versions_names (versions_after direction old next rest)) q
  step-counts q =
      omega (
        arith,
        times-append (buffers_names next) (versions_names old) q,
        states-counts direction old q,
        ap (λ (bs : List BufferTable). times (names_of_all bs) q) is,
        times-append (buffers_names next) (names_of_all rest) q,
        states-counts direction final q,
        ap (λ (bs : List BufferTable). times (names_of_all bs) q) (ahead-after direction old next rest),
        ap (λ (bs : List BufferTable). times (names_of_all bs) q) (behind-after direction old next rest),
        times-append (buffers_names old.latest) (names_of_all (versions_behind direction old)) q,
      )

  step-over : (held : Held) → AreAllOver (all_versions old) held → AreBuffersOver next held → AreAllOver (all_versions (versions_after direction old next rest)) held
  step-over held over first =
      let P = λ (b : BufferTable). AreBuffersOver b held in
      let ahead : AreAllOver (next ∷ rest) held = subst (AllByRecursion P) is (all-ahead P direction old over) in
      all-of-both P direction final first first (subst (AllByRecursion P) (sym (ahead-after direction old next rest)) ahead.1)
      (subst (AllByRecursion P) (sym (behind-after direction old next rest)) (over.1.0, all-behind P direction old over))

-- the last state is another one, and is edited
edited-is : (direction : Direction) (old moved : Versions BufferTable) (shared : BufferTable) → IsMoved direction old moved → moved.latest ≡ shared
    → with_working moved shared ≡ versions_after direction old shared (versions_ahead direction moved)
edited-is Undo old moved shared is first =
    four-same shared shared moved.latest shared moved.undoable moved.undoable moved.redoable (old.latest ∷ old.redoable) refl first refl is.put
edited-is Redo old moved shared is first =
    four-same shared shared moved.latest shared moved.undoable (old.latest ∷ old.undoable) moved.redoable moved.redoable refl first is.put refl

-- `working` is edited instead of `released`, in the versions `v` that were moved.
module _ (direction : Direction) (old v moved : Versions BufferTable) (view : v ≡ moved) (is : IsMoved direction old moved) (shared working released : BufferTable)
    (working_is : working ≡ shared) (released_is : released ≡ v.working) (there : slice_get (versions_ahead direction old) 0 ≡ Some shared) where
  next-is : moved.latest ≡ shared
  next-is = first-is (versions_ahead direction old) (versions_ahead direction moved) moved.latest shared is.taken there

  ahead-is : versions_ahead direction old ≡ shared ∷ versions_ahead direction moved
  ahead-is = is.taken ∙ ap (λ (b : BufferTable). b ∷ versions_ahead direction moved) next-is

  final-is : with_working v working ≡ versions_after direction old shared (versions_ahead direction moved)
  final-is =
      ap (λ (x : Versions BufferTable). with_working x working) view ∙ ap (with_working moved) working_is
      ∙ edited-is direction old moved shared is next-is

  pub stepped : (rest : List BufferTable) → versions_ahead direction old ≡ shared ∷ rest → with_working v working ≡ versions_after direction old shared rest
  stepped rest to = let same : versions_ahead direction moved ≡ rest = cc (ahead-is, to) in final-is ∙ ap (versions_after direction old shared) same

  pub step-released : (s0 s1 : ChainState) → AreVersionsOver old s0.held → AreBuffersOver shared s0.held → Owns s0.held (buffers_names shared ++ versions_names old)
      → Leaves 0 (buffers_names released) [] s0 s1 → IsReleased (buffers_names shared ++ versions_names old) (with_working v working) s0 s1
  step-released s0 s1 over shared_over owned release =
      let rest = versions_ahead direction moved in
      let names = buffers_names shared ++ versions_names old in
      let gone : released ≡ old.working = released_is ∙ ap (λ (x : Versions BufferTable). x.working) view ∙ is.working in
      subst (λ (x : Versions BufferTable). IsReleased names x s0 s1) (sym final-is)
      (one-released names old.working (versions_after direction old shared rest) s0 s1 (subst (λ (b : BufferTable). Leaves 0 (buffers_names b) [] s0 s1) gone release) owned
      (step-counts direction old shared rest ahead-is) (step-over direction old shared rest ahead-is s0.held over.over shared_over))
