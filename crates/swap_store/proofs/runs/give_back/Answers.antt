use Rattle.std.proofs.Common.{◌≡◌, ◌^◌, ℕ, arith, List, IsTrue, true, false, ◌↔◌, subst, sym, refl, insert, rules}
use Rattle.std.proofs.lemmas.Bool.{false≢true}
use Rattle.chain_owners.specs.declared.run.Run.{Run}
use Rattle.swap_store.specs.Run.{EndsBefore, BeginsWith}
use Rattle.swap_store.proofs.GivenBack.{Gap, gap_of_slice, inserted, given_to_left, given_to_right, given_to_both, sum_with_left, sum_with_right}
use Rattle.swap_store.proofs.runs.give_back.Goals.{After-runs_before-at}
use Rattle.swap_store.proofs.runs.give_back.Goals as goal

no_end : (xs ys : List Run) (at first : ℕ) → ys ≡ xs → IsTrue false ↔ EndsBefore ys at first → ¬ EndsBefore xs at first
no_end xs ys at first e says ends = let P : List Run → Type 0 = λ zs. EndsBefore zs at first in false≢true (says.1 (subst P (sym e) ends))

no_begin : (xs ys : List Run) (at first : ℕ) → ys ≡ xs → IsTrue false ↔ BeginsWith ys at first → ¬ BeginsWith xs at first
no_begin xs ys at first e says begins = let P : List Run → Type 0 = λ zs. BeginsWith zs at first in false≢true (says.1 (subst P (sym e) begins))

yes_end : (xs ys : List Run) (at first : ℕ) → ys ≡ xs → IsTrue true ↔ EndsBefore ys at first → EndsBefore xs at first
yes_end xs ys at first e says = let P : List Run → Type 0 = λ zs. EndsBefore zs at first in subst P e (says.0 refl)

yes_begin : (xs ys : List Run) (at first : ℕ) → ys ≡ xs → IsTrue true ↔ BeginsWith ys at first → BeginsWith xs at first
yes_begin xs ys at first e says = let P : List Run → Type 0 = λ zs. BeginsWith zs at first in subst P e (says.0 refl)

-- the blocks lie between the runs
gap : (c : After-runs_before-at) → Gap (2 ^ 20) c.args.runs.now.items c.runs_before-at.result c.args.first c.args.count
gap c =
    gap_of_slice (2 ^ 20) c.args.runs.now.items _ _ _ _ c.deref.ensures.value c.runs_before-at.ensures.within c.requires.given c.requires.bound c.requires.list
    c.runs_before-at.ensures.before c.runs_before-at.ensures.following c.requires.apart

pub overflow_add-count : goal.overflow_add-count
overflow_add-count c =
    let at = (goal.at.overflow_add-count c).After-runs_before-at in
    omega (arith, sum_with_right (2 ^ 20) _ _ _ _ c.index-right.result.now (gap at) (yes_begin _ _ _ _ c.deref-3.ensures.value c.in-false-true.ensures') c.index-right.ensures)

pub overflow_add-left-in-true-true : goal.overflow_add-left-in-true-true
overflow_add-left-in-true-true c =
    let at = (goal.at.overflow_add-left-in-true-true c).After-runs_before-at in
    omega (
      arith,
      sum_with_right (2 ^ 20) _ _ _ _ c.remove-right.result (gap at) (yes_begin _ _ _ _ c.deref-3.ensures.value c.in-true-true.ensures') c.remove-right.ensures.value,
      sum_with_left _ _ _ c.index-left.result.now (yes_end _ _ _ _ c.deref-2.ensures.value c.in-true-true.ensures) c.index-left.ensures,
    )

pub returns-in-true-true : goal.returns-in-true-true
returns-in-true-true c =
    let at = (goal.at.returns-in-true-true c).After-runs_before-at in
    let given = given_to_both (2 ^ 20) c.args.runs.now.items _ _ _ c.index-left.result.now c.remove-right.result (gap at)
    (yes_end _ _ _ _ c.deref-2.ensures.value c.in-true-true.ensures) (yes_begin _ _ _ _ c.deref-3.ensures.value c.in-true-true.ensures')
    c.index-left.ensures c.remove-right.ensures.value in
    record { list = rw c.remove-right.ensures.items given.list; blocks = rw c.remove-right.ensures.items given.blocks; longer = search rules; capacity = search rules }

pub returns-in-true-false : goal.returns-in-true-false
returns-in-true-false c =
    let at = (goal.at.returns-in-true-false c).After-runs_before-at in
    let given = given_to_left (2 ^ 20) c.args.runs.now.items _ _ _ c.index-left-in-true-false.result.now (gap at)
    (yes_end _ _ _ _ c.deref-2.ensures.value c.in-true-false.ensures) (no_begin _ _ _ _ c.deref-3.ensures.value c.in-true-false.ensures')
    c.index-left-in-true-false.ensures in
    record { list = given.list; blocks = given.blocks; longer = search rules; capacity = search rules }

pub returns-in-false-true : goal.returns-in-false-true
returns-in-false-true c =
    let at = (goal.at.returns-in-false-true c).After-runs_before-at in
    let given = given_to_right (2 ^ 20) c.args.runs.now.items _ _ _ c.index-right.result.now (gap at)
    (no_end _ _ _ _ c.deref-2.ensures.value c.in-false-true.ensures) (yes_begin _ _ _ _ c.deref-3.ensures.value c.in-false-true.ensures')
    c.index-right.ensures in
    record { list = given.list; blocks = given.blocks; longer = search rules; capacity = search rules }

pub returns-in-false-false : goal.returns-in-false-false
returns-in-false-false c =
    let at = (goal.at.returns-in-false-false c).After-runs_before-at in
    let now : c.insert.new.self.items ≡ insert c.args.runs.now.items c.runs_before-at.result (record { first = c.args.first; count = c.args.count }) = search rules in
    let given = inserted (2 ^ 20) c.args.runs.now.items _ _ _ (gap at)
    (no_end _ _ _ _ c.deref-2.ensures.value c.in-false-false.ensures) (no_begin _ _ _ _ c.deref-3.ensures.value c.in-false-false.ensures') in
    record { list = rw now given.list; blocks = rw now given.blocks; longer = search rules; capacity = search rules }
