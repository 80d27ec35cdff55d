-- Versions of buffers of which some were released.
use Rattle.std.proofs.Common.{◌≡◌, ℕ, ◌+◌, List, [], ◌∷◌, ◌++◌, take, sym, ap, subst, ◌∙◌, arith}
use Rattle.pixel_formats.specs.Limits.{max_undoable}
use Rattle.chain_owners.specs.Owners.{Owns, times}
use Rattle.chain_owners.proofs.Ownership.{owns-fewer, times-append}
use Rattle.root_tiles.specs.Chains.{ChainState, Leaves}
use Rattle.buffer_view.specs.BufferTables.{AreBuffersOver, BufferTable, buffers_names, table_of}
use Rattle.session_states.specs.OverChains.{AreAllOver, AreAllSame, AreVersionsOver, IsReleased, names_of_all, tables_of, versions_names}
use Rattle.session_states.specs.Versions.{Versions, after_commit, all_versions}
use Rattle.session_states.proofs.Beside.{all-append, all-first, all-second, over-again, owned-again, same-again}
use Rattle.session_states.proofs.Names.{leaves-beside, leaves-both, names-append}
use Rattle.session_states.proofs.Seen.{versions-same}

-- ---- one is released, and the others are kept

module _ (before : List ℕ) (released : BufferTable) (final : Versions BufferTable) (s0 s1 : ChainState)
    (leaves : Leaves 0 (buffers_names released) [] s0 s1) (owned : Owns s0.held before)
    (counts : (q : ℕ) → times before q ≡ times (buffers_names released) q + times (versions_names final) q)
    (over : AreAllOver (all_versions final) s0.held) where
  owns : Owns s0.held (buffers_names released ++ versions_names final)
  owns =
      owns-fewer s0.held before (buffers_names released ++ versions_names final)
      (λ q. omega (arith, counts q, times-append (buffers_names released) (versions_names final) q)) owned

  released-over : AreVersionsOver final s1.held
  released-over = record {
    owned = owned-again s0.held s1.held (buffers_names released) [] leaves.others (all_versions final) owns;
    over = over-again s0.held s1.held (buffers_names released) [] leaves.others (all_versions final) owns over;
  }

  released-tables : tables_of final s1.held ≡ tables_of final s0.held
  released-tables =
      versions-same s0.held s1.held final (same-again s0.held s1.held (buffers_names released) [] leaves.others (all_versions final) owns)

  released-left : Leaves 0 before (versions_names final) s0 s1
  released-left = leaves-beside 0 (buffers_names released) [] before (versions_names final) (versions_names final) s0 s1 leaves counts (λ q. omega arith)

  pub one-released : IsReleased before final s0 s1
  one-released = record { tables = released-tables; over = released-over; left = released-left }

-- ---- commit

-- what the release of a state that can't be undone to any more left of the others that can
pub record IsCut (now : Versions BufferTable) (s0 s1 : ChainState) : Type 0 where
  pub left : Leaves 0 (names_of_all (now.latest ∷ now.undoable)) (names_of_all (take max_undoable (now.latest ∷ now.undoable))) s0 s1
  pub over : AreAllOver (take max_undoable (now.latest ∷ now.undoable)) s1.held
  pub same : AreAllSame s0.held s1.held (take max_undoable (now.latest ∷ now.undoable))

module _ (now : Versions BufferTable) (shared : BufferTable) (same : shared ≡ now.working) (s0 s1 s2 : ChainState)
    (over : AreVersionsOver now s0.held) (shared_over : AreBuffersOver shared s0.held) (owned : Owns s0.held (buffers_names shared ++ versions_names now)) where
  abbrev working : BufferTable
  working = now.working

  abbrev left : List BufferTable
  left = now.latest ∷ now.undoable

  abbrev kept : List BufferTable
  kept = take max_undoable left

  abbrev held_still : List BufferTable
  held_still = working ∷ working ∷ now.redoable

  first-counts : (q : ℕ) → times (buffers_names shared ++ versions_names now) q ≡ times (names_of_all left) q + times (names_of_all held_still) q
  first-counts q =
      subst (λ (b : BufferTable). times (buffers_names b ++ versions_names now) q ≡ times (names_of_all left) q + times (names_of_all held_still) q) (sym same)
      (omega (
        arith,
        times-append (buffers_names working) (versions_names now) q,
        times-append (buffers_names working) (names_of_all (now.latest ∷ (now.undoable ++ now.redoable))) q,
        times-append (buffers_names now.latest) (names_of_all (now.undoable ++ now.redoable)) q,
        names-append now.undoable now.redoable q,
        times-append (buffers_names now.latest) (names_of_all now.undoable) q,
        times-append (buffers_names working) (names_of_all (working ∷ now.redoable)) q,
        times-append (buffers_names working) (names_of_all now.redoable) q,
      ))

  -- what is handed to the first call, and what is beside it
  pub past-over : AreAllOver left s0.held
  past-over = (over.over.1.0, all-first (λ (b : BufferTable). AreBuffersOver b s0.held) now.undoable now.redoable over.over.1.1)

  pub past-owned : Owns s0.held (names_of_all left)
  past-owned = owns-fewer s0.held (buffers_names shared ++ versions_names now) (names_of_all left) (λ q. omega (arith, first-counts q)) owned

  beside-owned : Owns s0.held (names_of_all left ++ names_of_all held_still)
  beside-owned =
      owns-fewer s0.held (buffers_names shared ++ versions_names now) (names_of_all left ++ names_of_all held_still)
      (λ q. omega (arith, first-counts q, times-append (names_of_all left) (names_of_all held_still) q)) owned

  beside-over : AreAllOver held_still s0.held
  beside-over =
      (over.over.0, (over.over.0, all-second (λ (b : BufferTable). AreBuffersOver b s0.held) now.undoable now.redoable over.over.1.1))

  module _ (first : Leaves 0 (names_of_all left) (names_of_all kept) s0 s1) where
    still-over : AreAllOver held_still s1.held
    still-over = over-again s0.held s1.held (names_of_all left) (names_of_all kept) first.others held_still beside-owned beside-over

    still-owned : Owns s1.held (names_of_all kept ++ names_of_all held_still)
    still-owned = owned-again s0.held s1.held (names_of_all left) (names_of_all kept) first.others held_still beside-owned

    still-same : AreAllSame s0.held s1.held held_still
    still-same = same-again s0.held s1.held (names_of_all left) (names_of_all kept) first.others held_still beside-owned

    -- what is handed to the second call
    pub redo-handed : AreAllOver now.redoable s1.held
    redo-handed = still-over.1.1

    pub redo-owned : Owns s1.held (names_of_all now.redoable)
    redo-owned =
        owns-fewer s1.held (names_of_all kept ++ names_of_all held_still) (names_of_all now.redoable)
        (λ q. omega (
          arith,
          times-append (names_of_all kept) (names_of_all held_still) q,
          times-append (buffers_names working) (names_of_all (working ∷ now.redoable)) q,
          times-append (buffers_names working) (names_of_all now.redoable) q,
        )) still-owned

    abbrev final : Versions BufferTable
    final = after_commit now

    second-counts : (q : ℕ) → times (names_of_all kept ++ names_of_all held_still) q ≡ times (names_of_all now.redoable) q + times (versions_names final) q
    second-counts q =
        omega (
          arith,
          times-append (names_of_all kept) (names_of_all held_still) q,
          times-append (buffers_names working) (names_of_all (working ∷ now.redoable)) q,
          times-append (buffers_names working) (names_of_all now.redoable) q,
          times-append (buffers_names working) (names_of_all (working ∷ (kept ++ []))) q,
          times-append (buffers_names working) (names_of_all (kept ++ [])) q,
          names-append kept [] q,
        )

    module _ (kept_over : AreAllOver kept s1.held) (kept_same : AreAllSame s0.held s1.held kept) (second : Leaves 0 (names_of_all now.redoable) [] s1 s2) where
      final-owned : Owns s1.held (names_of_all now.redoable ++ versions_names final)
      final-owned =
          owns-fewer s1.held (names_of_all kept ++ names_of_all held_still) (names_of_all now.redoable ++ versions_names final)
          (λ q. omega (arith, second-counts q, times-append (names_of_all now.redoable) (versions_names final) q)) still-owned

      final-over : AreAllOver (all_versions final) s1.held
      final-over = (still-over.0, (still-over.0, all-append (λ (b : BufferTable). AreBuffersOver b s1.held) kept [] kept_over tt))

      final-same : AreAllSame s0.held s1.held (all_versions final)
      final-same = (still-same.0, (still-same.0, all-append (λ (b : BufferTable). table_of b s1.held ≡ table_of b s0.held) kept [] kept_same tt))

      committed-over : AreVersionsOver final s2.held
      committed-over = record {
        owned = owned-again s1.held s2.held (names_of_all now.redoable) [] second.others (all_versions final) final-owned;
        over = over-again s1.held s2.held (names_of_all now.redoable) [] second.others (all_versions final) final-owned final-over;
      }

      committed-tables : tables_of final s2.held ≡ tables_of final s0.held
      committed-tables =
          versions-same s1.held s2.held final (same-again s1.held s2.held (names_of_all now.redoable) [] second.others (all_versions final) final-owned)
          ∙ versions-same s0.held s1.held final final-same

      committed-left : Leaves 0 (buffers_names shared ++ versions_names now) (versions_names final) s0 s2
      committed-left =
          leaves-both (buffers_names shared ++ versions_names now) (names_of_all kept ++ names_of_all held_still) (versions_names final) s0 s1 s2
          (leaves-beside 0 (names_of_all left) (names_of_all kept) (buffers_names shared ++ versions_names now) (names_of_all kept ++ names_of_all held_still)
          (names_of_all held_still) s0 s1 first first-counts (times-append (names_of_all kept) (names_of_all held_still)))
          (leaves-beside 0 (names_of_all now.redoable) [] (names_of_all kept ++ names_of_all held_still) (versions_names final) (versions_names final) s1 s2 second second-counts
          (λ q. omega arith))

  pub committed : IsCut now s0 s1 → Leaves 0 (names_of_all now.redoable) [] s1 s2 → IsReleased (buffers_names shared ++ versions_names now) (after_commit now) s0 s2
  committed first second = record {
    tables = committed-tables first.left first.over first.same second;
    over = committed-over first.left first.over first.same second;
    left = committed-left first.left first.over first.same second;
  }

-- ---- the last of a list

-- what is left of a list after its last was released
pub record IsLastReleased (states xs : List BufferTable) (s0 s1 : ChainState) : Type 0 where
  pub over : AreAllOver xs s1.held
  pub owned : Owns s1.held (names_of_all xs)
  pub same : AreAllSame s0.held s1.held xs
  pub left : Leaves 0 (names_of_all states) (names_of_all xs) s0 s1

module _ (states : List BufferTable) (xs : List BufferTable) (b : BufferTable) (is : states ≡ xs ++ b ∷ []) (s0 s1 : ChainState) where
  last-counts : (q : ℕ) → times (names_of_all states) q ≡ times (buffers_names b) q + times (names_of_all xs) q
  last-counts q =
      ap (λ (bs : List BufferTable). times (names_of_all bs) q) is
      ∙ omega (arith, names-append xs (b ∷ []) q, times-append (buffers_names b) [] q)

  module _ (over : AreAllOver states s0.held) (owned : Owns s0.held (names_of_all states)) where
    both-over : AreAllOver (xs ++ b ∷ []) s0.held
    both-over = subst (λ (bs : List BufferTable). AreAllOver bs s0.held) is over

    pub last-first : AreBuffersOver b s0.held
    last-first = (all-second (λ (x : BufferTable). AreBuffersOver x s0.held) xs (b ∷ []) both-over).0

    last-owns : Owns s0.held (buffers_names b ++ names_of_all xs)
    last-owns =
        owns-fewer s0.held (names_of_all states) (buffers_names b ++ names_of_all xs)
        (λ q. omega (arith, last-counts q, times-append (buffers_names b) (names_of_all xs) q)) owned

    module _ (leaves : Leaves 0 (buffers_names b) [] s0 s1) where
      last-over : AreAllOver xs s1.held
      last-over =
          over-again s0.held s1.held (buffers_names b) [] leaves.others xs last-owns
          (all-first (λ (x : BufferTable). AreBuffersOver x s0.held) xs (b ∷ []) both-over)

      last-owned : Owns s1.held (names_of_all xs)
      last-owned = owned-again s0.held s1.held (buffers_names b) [] leaves.others xs last-owns

      last-same : AreAllSame s0.held s1.held xs
      last-same = same-again s0.held s1.held (buffers_names b) [] leaves.others xs last-owns

      last-left : Leaves 0 (names_of_all states) (names_of_all xs) s0 s1
      last-left = leaves-beside 0 (buffers_names b) [] (names_of_all states) (names_of_all xs) (names_of_all xs) s0 s1 leaves last-counts (λ q. omega arith)

      pub last-released : IsLastReleased states xs s0 s1
      last-released = record { over = last-over; owned = last-owned; same = last-same; left = last-left }
