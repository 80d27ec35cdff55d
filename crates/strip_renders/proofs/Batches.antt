-- Batches of needed tiles that are made ahead.
use Rattle.std.proofs.Common.{◌≡◌, ℕ, ◌+◌, ◌-◌, ◌<◌, ◌≤◌, List, ◌++◌, append_assoc, map, take, drop, length, Some, inl, inr, sym, ap, ◌∙◌, subst, arith}
use Rattle.std.specs.Prelude.{slice_get}
use Rattle.std.specs.List.{AllByRecursion, IsDistinct}
use Rattle.std.proofs.lemmas.List.{length-append, length-drop, length-map, take-append-drop, take_all}
use Rattle.std.proofs.lemmas.Option.{same_Some}
use Rattle.model_graphs.specs.declared.node.NodeFact.{NodeFact}
use Rattle.model_graphs.specs.Evaluation.{Buffers}
use Rattle.model_graphs.specs.Facts.{specs_of}
use Rattle.model_graphs.specs.Meanings.{Meanings}
use Rattle.model_graphs.specs.Shapes.{Shapes}
use Rattle.model_states.specs.Cache.{Pair, pair_of, same_pair}
use Rattle.model_states.specs.declared.strip.Strip.{Strip}
use Rattle.model_states.specs.Need.{Needed}
use Rattle.model_states.specs.Valid.{AreStated}
use Rattle.node_tiles.specs.Jobs.{Job}
use Rattle.strip_renders.specs.Ahead.{AreAhead, AreJobs, AreJobsOf, AreMadeOf, AreNext, MadeTiles, made_of}
use Rattle.strip_renders.specs.Batches.{AddsRows, AreOfOneNode, IsBatch, IsUpTo}
use Rattle.strip_renders.specs.Strips.{IsStripOf, needed_from, needs_of, pairs_needed}
use Rattle.strip_renders.proofs.JobLists.{made-ahead, made-of}
use Rattle.strip_renders.proofs.Needs.{all-both, batch-ready, below-or-at, strip-distinct}
use Rattle.strip_renders.proofs.Rows.{all-take, distinct-first, distinct-last, needs-parts, rows-once, rows-ready}

-- one more is of that node
pub node-more : (list : List Needed) (index end node : ℕ) (next : Needed) → slice_get list end ≡ Some next → next.0 ≡ node
    → ((k : ℕ) (needed : Needed) → index ≤ k → k < end → slice_get list k ≡ Some needed → needed.0 ≡ node)
    → (k : ℕ) (needed : Needed) → index ≤ k → k < end + 1 → slice_get list k ≡ Some needed → needed.0 ≡ node
node-more list index end node next here same each k needed low less found =
    elim (below-or-at k end less) [
      | inl before ↦ each k needed low before found
      | inr at ↦
          let own : next ≡ needed = same_Some next needed (sym here ∙ ap (slice_get list) (sym at) ∙ found) in
          ap (λ (n : Needed). n.0) (sym own) ∙ same
    ]

module _ {Op : Type 0} (meanings : Meanings Op) (nodes : List (NodeFact Op)) where
  -- a batch of tiles from an index of a strip to another
  module _ (buffers : Shapes) (strip : Strip) (later : List Strip) (index end : ℕ) (stated : AreStated meanings buffers nodes) (is : IsStripOf meanings nodes strip)
      (one : AreOfOneNode strip.need index end) where
    abbrev own : List Needed
    own = take (end - index) (drop index strip.need)

    once : IsDistinct same_pair (pairs_needed nodes own)
    once =
        let pair = pair_of (specs_of nodes) in
        let all = strip-distinct meanings nodes strip stated.valid.distinct is in
        let past = distinct-last same_pair pair (take index strip.need) (drop index strip.need)
        (subst (λ (list : List Needed). IsDistinct same_pair (map pair list)) (sym (take-append-drop index strip.need)) all) in
        distinct-first same_pair pair own (drop (end - index) (drop index strip.need))
        (subst (λ (list : List Needed). IsDistinct same_pair (map pair list)) (sym (take-append-drop (end - index) (drop index strip.need))) past)

    pub batch-own : IsBatch meanings nodes strip later index own
    batch-own = record {
      others = drop (end - index) (drop index strip.need) ++ needs_of later;
      parts = ap (λ (list : List Needed). list ++ needs_of later) (sym (take-append-drop (end - index) (drop index strip.need)))
          ∙ append_assoc own (drop (end - index) (drop index strip.need)) (needs_of later);
      once = once;
      ready = λ held holds. batch-ready meanings nodes buffers strip stated is index end held one holds;
    }

    -- to the strip's end, and then rows of the strips after it
    pub batch-rows : (node row : ℕ) (batch : List Needed) → length strip.need ≤ end → AllByRecursion (IsStripOf meanings nodes) later → AllByRecursion (IsUpTo node row) own
        → AddsRows node row later own batch → IsBatch meanings nodes strip later index batch
    batch-rows node row batch whole are all adds =
        let rows = take adds.count later in
        let whole : own ≡ drop index strip.need =
        take_all (end - index) (drop index strip.need) (omega (arith, whole, length-drop index strip.need)) in
        let own_are = all-take (IsStripOf meanings nodes) adds.count later are in
        subst (IsBatch meanings nodes strip later index) (sym adds.added)
        (record {
          others = needs_of (drop adds.count later);
          parts = ap (λ (list : List Needed). list ++ needs_of later) (sym whole)
              ∙ ap (λ (list : List Needed). own ++ list) (needs-parts adds.count later)
              ∙ sym (append_assoc own (needs_of rows) (needs_of (drop adds.count later)));
          once = rows-once meanings nodes node row own rows stated.valid.distinct own_are adds.rows all once;
          ready = λ held holds.
              all-both _ own (needs_of rows) (batch-ready meanings nodes buffers strip stated is index end held one holds)
              (rows-ready meanings nodes buffers node row rows held stated holds.lengths own_are adds.rows);
        })

  -- no more are in a batch than are needed
  pub batch-few : (strip : Strip) (later : List Strip) (index : ℕ) (batch : List Needed) → IsBatch meanings nodes strip later index batch → length batch ≤ length (needed_from strip later index)
  batch-few strip later index batch is = omega (arith, ap length is.parts, length-append batch is.others)

  -- what was made of a batch's jobs
  pub batch-next : (pairs : List Pair) (strip : Strip) (later : List Strip) (index : ℕ) (batch : List Needed) (jobs : List Job) (made : MadeTiles) → IsBatch meanings nodes strip later index batch
      → made ≡ map (made_of meanings nodes) jobs → AreJobs meanings nodes pairs batch jobs → AreNext nodes pairs (needed_from strip later index) made
  batch-next pairs strip later index batch jobs made is same are = record {
    first = batch;
    others = is.others;
    parts = is.parts;
    once = is.once;
    ahead = subst (AreAhead nodes pairs batch) (sym same) (made-ahead meanings nodes pairs batch jobs are);
  }

  pub batch-made : (images : Buffers) (jobs : List Job) (made : MadeTiles) → made ≡ map (made_of meanings nodes) jobs → AreJobsOf meanings nodes images jobs → AreMadeOf meanings nodes images made
  batch-made images jobs made is are = subst (AreMadeOf meanings nodes images) (sym is) (made-of meanings nodes images jobs are)

  pub batch-count : (jobs : List Job) (made : MadeTiles) → made ≡ map (made_of meanings nodes) jobs → length made ≡ length jobs
  batch-count jobs made is = ap length is ∙ length-map jobs (made_of meanings nodes)
