-- Buffers that are shared among versions of them.
use Rattle.std.proofs.Common.{◌≡◌, ℕ, ◌+◌, List, [], ◌∷◌, ◌++◌, drop, sym, ap, subst, ◌∙◌, Some, Result, Ok, Err, IfOk, arith}
use Rattle.std.specs.Prelude.{slice_get}
use Rattle.std.specs.List.{AllByRecursion}
use Rattle.std.specs.Result.{MatchResult}
use Rattle.chain_owners.specs.Counts.{Grows}
use Rattle.chain_owners.specs.Owners.{Owns, Respects, times}
use Rattle.chain_owners.proofs.Ownership.{owns-fewer, times-append}
use Rattle.root_tiles.specs.Chains.{ChainState, Leaves}
use Rattle.model_states.specs.declared.direction.Direction.{Direction}
use Rattle.model_states.specs.declared.direction.Direction.TheVariants.{Undo, Redo}
use Rattle.buffer_view.specs.BufferTables.{AreBuffersOver, BufferTable, buffers_names, table_of}
use Rattle.session_states.specs.OverChains.{AreAllOver, AreAllSame, AreShared, AreVersionsOver, IsShared, names_of_all, tables_of, versions_names}
use Rattle.session_states.specs.Versions.{IsOneOf, Versions, all_versions, committed_versions, versions_ahead}
use Rattle.session_states.proofs.Beside.{all-append, all-first, all-second, over-again, owned-again, same-again}
use Rattle.session_states.proofs.Names.{leaves-beside, names-append}
use Rattle.session_states.proofs.Returned.{list-first}
use Rattle.session_states.proofs.Seen.{versions-same}

module _ (P : BufferTable → Type 0) (xs ys : List BufferTable) (b : BufferTable) where
  -- all of a list but one, and that one
  all-but : AllByRecursion P (xs ++ b ∷ ys) → AllByRecursion P (xs ++ ys)
  all-but all = all-append P xs ys (all-first P xs (b ∷ ys) all) (all-second P xs (b ∷ ys) all).1

  all-with : AllByRecursion P (xs ++ ys) → P b → AllByRecursion P (xs ++ b ∷ ys)
  all-with all one = all-append P xs (b ∷ ys) (all-first P xs ys all) (one, all-second P xs ys all)

names-but : (xs ys : List BufferTable) (b : BufferTable) (q : ℕ) → times (names_of_all (xs ++ b ∷ ys)) q ≡ times (buffers_names b) q + times (names_of_all (xs ++ ys)) q
names-but xs ys b q =
    omega (arith, names-append xs (b ∷ ys) q, names-append xs ys q, times-append (buffers_names b) (names_of_all ys) q)

module _ (now : Versions BufferTable) (xs ys : List BufferTable) (b : BufferTable) (parts : all_versions now ≡ xs ++ b ∷ ys) (s0 : ChainState)
    (requires : AreVersionsOver now s0.held) where
  all-over : AreAllOver (xs ++ b ∷ ys) s0.held
  all-over = subst (λ (bs : List BufferTable). AreAllOver bs s0.held) parts requires.over

  all-owned : Owns s0.held (names_of_all (xs ++ b ∷ ys))
  all-owned = subst (λ (bs : List BufferTable). Owns s0.held (names_of_all bs)) parts requires.owned

  shared-first : AreBuffersOver b s0.held
  shared-first = (all-second (λ (x : BufferTable). AreBuffersOver x s0.held) xs (b ∷ ys) all-over).0

  owned-others : Owns s0.held (buffers_names b ++ names_of_all (xs ++ ys))
  owned-others =
      owns-fewer s0.held (names_of_all (xs ++ b ∷ ys)) (buffers_names b ++ names_of_all (xs ++ ys))
      (λ q. omega (arith, names-but xs ys b q, times-append (buffers_names b) (names_of_all (xs ++ ys)) q)) all-owned

  module _ (s1 : ChainState) (after : List ℕ) (leaves : Leaves 0 (buffers_names b) after s0 s1) where
    same-list : table_of b s1.held ≡ table_of b s0.held → AreAllSame s0.held s1.held (xs ++ b ∷ ys)
    same-list same =
        all-with (λ (x : BufferTable). table_of x s1.held ≡ table_of x s0.held) xs ys b
        (same-again s0.held s1.held (buffers_names b) after leaves.others (xs ++ ys) owned-others) same

    shared-tables : table_of b s1.held ≡ table_of b s0.held → tables_of now s1.held ≡ tables_of now s0.held
    shared-tables same =
        versions-same s0.held s1.held now (subst (AreAllSame s0.held s1.held) (sym parts) (same-list same))

    over-list : AreBuffersOver b s1.held → AreAllOver (all_versions now) s1.held
    over-list first =
        subst (λ (bs : List BufferTable). AreAllOver bs s1.held) (sym parts)
        (all-with (λ (x : BufferTable). AreBuffersOver x s1.held) xs ys b
        (over-again s0.held s1.held (buffers_names b) after leaves.others (xs ++ ys) owned-others
        (all-but (λ (x : BufferTable). AreBuffersOver x s0.held) xs ys b all-over)) first)

    owned-after : Owns s1.held (after ++ names_of_all (xs ++ ys))
    owned-after = owned-again s0.held s1.held (buffers_names b) after leaves.others (xs ++ ys) owned-others

    counted : (q : ℕ) → times (versions_names now) q ≡ times (buffers_names b) q + times (names_of_all (xs ++ ys)) q
    counted q = ap (λ (bs : List BufferTable). times (names_of_all bs) q) parts ∙ names-but xs ys b q

    -- these names are owned, and at most as many more
    module _ (more : List ℕ) (is : (q : ℕ) → times after q ≡ times (buffers_names b) q + times more q) where
      shared-over : AreBuffersOver b s1.held → AreVersionsOver now s1.held
      shared-over first = record {
        owned =
            owns-fewer s1.held (after ++ names_of_all (xs ++ ys)) (versions_names now)
            (λ q. omega (arith, counted q, is q, times-append after (names_of_all (xs ++ ys)) q)) owned-after;
        over = over-list first;
      }

      shared-owned : Owns s1.held (more ++ versions_names now)
      shared-owned =
          owns-fewer s1.held (after ++ names_of_all (xs ++ ys)) (more ++ versions_names now)
          (λ q. omega (arith, counted q, is q, times-append after (names_of_all (xs ++ ys)) q, times-append more (versions_names now) q)) owned-after

      shared-left : Leaves 0 (versions_names now) (more ++ versions_names now) s0 s1
      shared-left =
          leaves-beside 0 (buffers_names b) after (versions_names now) (more ++ versions_names now) (names_of_all (xs ++ ys)) s0 s1 leaves counted
          (λ q. omega (arith, counted q, is q, times-append more (versions_names now) q))

-- ---- one of the versions is shared

pub working-one : (v : Versions BufferTable) (b : BufferTable) → b ≡ v.working → IsOneOf b (all_versions v)
working-one v b is = record { before = []; after = committed_versions v; parts = ap (λ (x : BufferTable). x ∷ committed_versions v) (sym is) }

pub ahead-one : (direction : Direction) (v : Versions BufferTable) (b : BufferTable) → slice_get (versions_ahead direction v) 0 ≡ Some b → IsOneOf b (all_versions v)
ahead-one Undo v b there = record {
  before = v.working ∷ v.latest ∷ [];
  after = drop 1 v.undoable ++ v.redoable;
  parts = ap (λ (bs : List BufferTable). v.working ∷ v.latest ∷ (bs ++ v.redoable)) (list-first v.undoable b there);
}
ahead-one Redo v b there = record {
  before = v.working ∷ v.latest ∷ v.undoable;
  after = drop 1 v.redoable;
  parts = ap (λ (bs : List BufferTable). v.working ∷ v.latest ∷ (v.undoable ++ bs)) (list-first v.redoable b there);
}

module _ (now : Versions BufferTable) (b : BufferTable) (one : IsOneOf b (all_versions now)) (s0 : ChainState) (requires : AreVersionsOver now s0.held) where
  pub asked : AreBuffersOver b s0.held
  asked = shared-first now one.before one.after b one.parts s0 requires

  module _ (s1 : ChainState) (over : AreBuffersOver b s1.held) (same : table_of b s1.held ≡ table_of b s0.held) where
    shared-with : (after more : List ℕ) → Leaves 0 (buffers_names b) after s0 s1 → ((q : ℕ) → times after q ≡ times (buffers_names b) q + times more q) → IsShared now more s0 s1
    shared-with after more leaves is = record {
      tables = shared-tables now one.before one.after b one.parts s0 requires s1 after leaves same;
      over = shared-over now one.before one.after b one.parts s0 requires s1 after leaves more is over;
      owned = shared-owned now one.before one.after b one.parts s0 requires s1 after leaves more is;
      left = shared-left now one.before one.after b one.parts s0 requires s1 after leaves more is;
    }

    -- what one more owner of them leaves of the versions, or a refusal
    pub shared-as : {E : Type 0} (given : Result BufferTable E) → Grows 0 s0.counts s1.counts → s1.loans ≡ s0.loans → (s0.valid → s1.valid)
        → MatchResult given (λ shared. Respects s0.held s1.held (buffers_names b) (buffers_names b ++ buffers_names b))
        (λ refused. Respects s0.held s1.held (buffers_names b) (buffers_names b))
        → IfOk given (λ shared. shared ≡ b) → AreShared now given s0 s1
    shared-as {E} (Ok shared) counts loans valid others is =
        shared-with (buffers_names b ++ buffers_names b) (buffers_names shared) (record { others = others; counts = counts; loans = loans; valid = valid })
        (λ q. times-append (buffers_names b) (buffers_names b) q ∙ ap (λ (x : BufferTable). times (buffers_names b) q + times (buffers_names x) q) (sym is))
    shared-as {E} (Err refused) counts loans valid others is =
        shared-with (buffers_names b) [] (record { others = others; counts = counts; loans = loans; valid = valid }) (λ q. omega arith)
