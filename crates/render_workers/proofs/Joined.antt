-- Parts of a render, one after another.
use Rattle.std.proofs.Common.{◌≡◌, ℕ, ◌+◌, ◌≤◌, List, [], ◌++◌, length, append-nil, Option, Some, refl, sym, ap, ◌∙◌, subst, arith, length-append}
use Rattle.model_graphs.specs.declared.node.NodeFact.{NodeFact}
use Rattle.model_graphs.specs.Meanings.{Meanings}
use Rattle.model_states.specs.Cache.{AreRight, Counted, Pair, all_looked_up, by_pair, itself, uncounted, with_bytes}
use Rattle.model_states.proofs.CacheLaws.{counts_add_up}
use Rattle.chain_owners.specs.Cause.{HasSwapCause}
use Rattle.chain_owners.specs.declared.swap_refused.SwapRefused.{SwapRefused}
use Rattle.node_cache.specs.Stores.{AddsNoOther, AreWithin}
use Rattle.node_tiles.specs.Stated.{scene_of}
use Rattle.strip_renders.specs.Ahead.{MadeTiles}
use Rattle.strip_renders.specs.Looks.{HasSameCache}
use Rattle.strip_renders.specs.Moments.{AreOver, IsLeft, Moment, RenderState}
use Rattle.strip_renders.specs.Strips.{AreKnownRight, AreSizedPairs, counted, list_after, most_cached, most_names}
use Rattle.strip_renders.proofs.Moments.{cause-kept, left-both, left-most}
use Rattle.strip_renders.proofs.Names.{few-names}
use Rattle.strip_renders.proofs.Turning.{left-none, right-list}
use Rattle.render_workers.specs.Parts.{IsExcused, Leaves, LooksUp}
use Rattle.render_workers.proofs.Folds.{few-listed, list-both, looked-both, most-more, pairs-both}

-- ---- why it is refused

-- the names of a later part, and of a part, are few
most-later : (a b : Moment) (first second rest : List Pair) (applied reused : ℕ) → b.capacity ≡ a.capacity
    → counted b.pairs applied reused ≡ all_looked_up itself itself a.capacity (uncounted a.pairs) first
    → AddsNoOther a.counts b.counts a.cache_names b.cache_names → AreWithin b.capacity b.pairs → most_names b second ≤ most_names a (first ++ (second ++ rest))
most-later a b first second rest applied reused capacity is others within =
    let part = all_looked_up itself itself a.capacity (uncounted a.pairs) first in
    let later = all_looked_up itself itself a.capacity (uncounted part.list) (second ++ rest) in
    let both : (all_looked_up itself itself a.capacity (uncounted a.pairs) (first ++ (second ++ rest))).applied ≡ part.applied + later.applied =
    ap (λ (c : Counted Pair). c.applied) (looked-both itself itself a.capacity a.pairs first (second ++ rest)) in
    let then = all_looked_up itself itself a.capacity (uncounted part.list) second in
    let last = all_looked_up itself itself a.capacity (uncounted then.list) rest in
    let split : later.applied ≡ then.applied + last.applied =
    ap (λ (c : Counted Pair). c.applied) (looked-both itself itself a.capacity part.list second rest) in
    let counted_first : applied ≡ part.applied = ap (λ (c : Counted Pair). c.applied) is in
    let own : (all_looked_up itself itself b.capacity (uncounted b.pairs) second).applied ≡ then.applied =
    ap (λ (o : Option ℕ). (all_looked_up itself itself o (uncounted b.pairs) second).applied) capacity
    ∙ ap (λ (c : Counted Pair). (all_looked_up itself itself a.capacity (uncounted c.list) second).applied) is in
    let few : length b.pairs ≤ length a.pairs + applied =
    few-listed a b first applied reused is (subst (λ (o : Option ℕ). AreWithin o b.pairs) capacity within) in
    let most : most_cached a.capacity (length b.pairs + (all_looked_up itself itself b.capacity (uncounted b.pairs) second).applied)
    ≤ most_cached a.capacity (length a.pairs + (all_looked_up itself itself a.capacity (uncounted a.pairs) (first ++ (second ++ rest))).applied) =
    most-more a.capacity (length b.pairs + (all_looked_up itself itself b.capacity (uncounted b.pairs) second).applied)
    (length a.pairs + (all_looked_up itself itself a.capacity (uncounted a.pairs) (first ++ (second ++ rest))).applied)
    (omega (arith, both, split, counted_first, own, few)) in
    let same : most_cached b.capacity (length b.pairs + (all_looked_up itself itself b.capacity (uncounted b.pairs) second).applied)
    ≡ most_cached a.capacity (length b.pairs + (all_looked_up itself itself b.capacity (uncounted b.pairs) second).applied) =
    ap (λ (o : Option ℕ). most_cached o (length b.pairs + (all_looked_up itself itself b.capacity (uncounted b.pairs) second).applied)) capacity in
    omega (arith, most, same, others.names)

module _ {Op : Type 0} (meanings : Meanings Op) (nodes : List (NodeFact Op)) where
  -- ---- what is left

  pub leaves-none : (now : RenderState) (made : MadeTiles) → AreOver now → Leaves meanings nodes [] now now made made
  leaves-none now made over = record {
    left = left-none now over;
    right = λ images known right are. (right, are);
    sized = λ sized. sized;
    spent = omega arith;
    few = omega arith;
  }

  pub leaves-both : (first second : List Pair) (a b c : RenderState) (made made' made'' : MadeTiles) → Leaves meanings nodes first a b made made'
      → Leaves meanings nodes second b c made' made'' → Leaves meanings nodes (first ++ second) a c made made''
  leaves-both first second a b c made made' made'' one two = record {
    left = left-most (length first + length second) (length (first ++ second)) a c (omega (arith, length-append first second))
        (left-both (length first) (length second) a b c one.left two.left);
    right = λ images known right are.
        let mid = one.right images known right are in
        two.right images (one.left.keeps.images ∙ known) mid.0 mid.1;
    sized = λ sized. two.sized (one.sized sized);
    spent = omega (arith, one.spent, two.spent);
    few = omega (arith, one.few, two.few, length-append first second);
  }

  -- the rest is given up, and the tiles that are ahead of it
  pub leaves-ended : (first rest : List Pair) (a b : RenderState) (made made' : MadeTiles) → length made' ≤ length rest
      → Leaves meanings nodes first a b made made' → Leaves meanings nodes (first ++ rest) a b made []
  leaves-ended first rest a b made made' less one = record {
    left = left-most (length first) (length (first ++ rest)) a b (omega (arith, length-append first rest)) one.left;
    right = λ images known right are. ((one.right images known right are).0, tt);
    sized = one.sized;
    spent = omega (arith, one.spent);
    few = omega (arith, one.few, less, length-append first rest);
  }

  -- ---- what is looked up

  pub looks-none : (now : RenderState) (made : MadeTiles) → LooksUp meanings nodes [] 0 0 now now made made
  looks-none now made = record {
    pairs = refl;
    permits = omega arith;
    cached = λ images list known is right are. is;
  }

  pub looks-both : (first second : List Pair) (applied reused applied' reused' : ℕ) (a b c : RenderState) (made made' made'' : MadeTiles)
      → Leaves meanings nodes first a b made made' → LooksUp meanings nodes first applied reused a b made made' → LooksUp meanings nodes second applied' reused' b c made' made''
      → LooksUp meanings nodes (first ++ second) (applied + applied') (reused + reused') a c made made''
  looks-both first second applied reused applied' reused' a b c made made' made'' leaves one two = record {
    pairs =
        pairs-both itself itself a.seen.capacity a.seen.pairs b.seen.pairs c.seen.pairs first second applied reused applied' reused' one.pairs
        (subst (λ (o : Option ℕ). counted c.seen.pairs applied' reused' ≡ all_looked_up itself itself o (uncounted b.seen.pairs) second) leaves.left.keeps.capacity two.pairs);
    permits = omega (arith, one.permits, two.permits);
    cached = λ images list known is right are.
        let mid = list_after meanings nodes images a.seen.capacity list first in
        let there : b.seen.cached ≡ Some mid = one.cached images list known is right are in
        let kept = leaves.right images known (record { list = list; known = is; right = right }) are in
        let stays : AreRight meanings (scene_of nodes images) mid = right-list meanings nodes images b.seen.cached mid kept.0 there in
        two.cached images mid (leaves.left.keeps.images ∙ known) there stays kept.1
        ∙ ap (λ (o : Option ℕ). Some (list_after meanings nodes images o mid second)) leaves.left.keeps.capacity
        ∙ ap Some (list-both by_pair (with_bytes meanings (scene_of nodes images)) a.seen.capacity list first second);
  }

  -- each pair counts once
  pub looks-count : (pairs : List Pair) (applied reused : ℕ) (a b : RenderState) (made made' : MadeTiles) → LooksUp meanings nodes pairs applied reused a b made made' → applied + reused ≡ length pairs
  looks-count pairs applied reused a b made made' looks =
      let sum : applied + reused ≡ 0 + length pairs =
      ap (λ (c : Counted Pair). c.applied + c.reused) looks.pairs ∙ counts_add_up itself itself a.seen.capacity (uncounted a.seen.pairs) pairs in
      omega (arith, sum)

  -- ---- tiles of the source are read after it

  module _ (pairs : List Pair) (a b c : RenderState) (made made' : MadeTiles) (read : IsLeft 0 b c) (same : HasSameCache b.seen c.seen) (permits : c.permits ≡ b.permits)
      (leaves : Leaves meanings nodes pairs a b made made') where
    pub leaves-reads : Leaves meanings nodes pairs a c made made'
    leaves-reads = record {
      left = left-most (length pairs + 0) (length pairs) a c (omega arith) (left-both (length pairs) 0 a b c leaves.left read);
      right = λ images known right are.
          let kept = leaves.right images known right are in
          (subst (AreKnownRight meanings nodes images) (sym same.cached) kept.0, kept.1);
      sized = λ sized. subst (AreSizedPairs nodes) (sym same.sizes) (leaves.sized sized);
      spent = omega (arith, leaves.spent, permits);
      few = omega (arith, leaves.few, permits);
    }

    module _ (applied reused : ℕ) (looks : LooksUp meanings nodes pairs applied reused a b made made') where
      pub looks-reads : LooksUp meanings nodes pairs applied reused a c made made'
      looks-reads = record {
        pairs = ap (λ (list : List Pair). counted list applied reused) same.pairs ∙ looks.pairs;
        permits = omega (arith, looks.permits, permits);
        cached = λ images list known is right are. same.cached ∙ looks.cached images list known is right are;
      }

      pub excused-reads : (refused : SwapRefused) → AreWithin b.seen.capacity b.seen.pairs → length b.seen.cache_names ≤ length b.seen.pairs
          → HasSwapCause b.seen.counts c.seen.counts b.seen.counts.names refused → IsExcused pairs a c refused
      excused-reads refused within few cause =
          let names = b.seen.counts.names in
          let keeps = leaves.left.keeps in
          record {
            each = cause-kept (length pairs) names (a.seen.counts.names + length pairs) a.seen b.seen c.seen.counts refused keeps (omega (arith, keeps.counts.names)) cause;
            few = λ one.
                let most : names + 1 ≤ most_names a.seen (pairs ++ []) =
                few-names a.seen b.seen pairs [] applied reused looks.pairs (keeps.other_names one) few (subst (λ (o : Option ℕ). AreWithin o b.seen.pairs) keeps.capacity within) in
                let own : names + 1 ≤ most_names a.seen pairs = subst (λ (ps : List Pair). names + 1 ≤ most_names a.seen ps) (append-nil pairs) most in
                cause-kept (length pairs) names (most_names a.seen pairs) a.seen b.seen c.seen.counts refused keeps (omega (arith, own)) cause;
          }

  -- ---- a later part is refused

  pub excused-later : (first second rest : List Pair) (applied reused : ℕ) (a b c : RenderState) (made made' : MadeTiles) (refused : SwapRefused)
      → Leaves meanings nodes first a b made made' → LooksUp meanings nodes first applied reused a b made made' → AreWithin b.seen.capacity b.seen.pairs
      → IsExcused second b c refused → IsExcused (first ++ (second ++ rest)) a c refused
  excused-later first second rest applied reused a b c made made' refused leaves looks within excused =
      let keeps = leaves.left.keeps in
      record {
        each =
            cause-kept (length first) (b.seen.counts.names + length second) (a.seen.counts.names + length (first ++ (second ++ rest))) a.seen b.seen c.seen.counts refused keeps
            (omega (arith, keeps.counts.names, length-append first (second ++ rest), length-append second rest)) excused.each;
        few = λ one.
            cause-kept (length first) (most_names b.seen second) (most_names a.seen (first ++ (second ++ rest))) a.seen b.seen c.seen.counts refused keeps
            (most-later a.seen b.seen first second rest applied reused keeps.capacity looks.pairs (keeps.other_names one) within)
            (excused.few (keeps.one_owner one));
      }
