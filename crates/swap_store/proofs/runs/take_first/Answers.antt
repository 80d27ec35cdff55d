use Rattle.std.proofs.Common.{◌≡◌, ◌<◌, ◌^◌, length, get_or, arith, sym, ap, subst, ◌∙◌}
use Rattle.std.proofs.Math.ListN.{set}
use Rattle.std.proofs.lemmas.List.{get_or_default}
use Rattle.chain_owners.specs.declared.run.Run.{Run}
use Rattle.swap_store.specs.Run.{IsRunList}
use Rattle.swap_store.proofs.RunLists.{Without, rest_of, IsRunList-remove, Without-remove, IsRunList-set_rest, Without-set_rest, run_at}
use Rattle.swap_store.proofs.runs.take_first.Goals as goal

pub returns-then-run-count-clause-list : goal.returns-then-run-count-clause-list
returns-then-run-count-clause-list c =
    rw c.remove.ensures.items
    (IsRunList-remove 0 (2 ^ 20) c.args.runs.now.items c.args.index c.index-run.result.now (omega arith) c.requires.list)

pub returns-then-run-count-clause-blocks : goal.returns-then-run-count-clause-blocks
returns-then-run-count-clause-blocks c = λ d.
    let xs = c.args.runs.now.items in
    let i = c.args.index in
    let run = c.index-run.result.now in
    let lt : i < length xs = omega arith in
    let same : get_or xs i d ≡ run = get_or_default xs i d run lt ∙ sym c.index-run.ensures in
    rw (c.remove.ensures.items, ← c.if-run-count.true, ← ap (λ (run : Run). run.count) same)
    (Without-remove 0 (2 ^ 20) xs i d lt c.requires.list)

pub returns-else-run-count-clause-list : goal.returns-else-run-count-clause-list
returns-else-run-count-clause-list c =
    let xs = c.args.runs.now.items in
    let i = c.args.index in
    let run = c.index-run.result.now in
    let P : Run → Type 0 = λ r. IsRunList 0 (2 ^ 20) (set xs i (rest_of r c.args.count)) in
    subst P (sym c.index-run.ensures)
    (IsRunList-set_rest 0 (2 ^ 20) xs i run c.args.count (omega arith)
    (omega (arith, c.requires.long run, ap (λ (r : Run). r.count) c.index-run.ensures)) c.requires.list)

pub returns-else-run-count-clause-blocks : goal.returns-else-run-count-clause-blocks
returns-else-run-count-clause-blocks c = λ d.
    let xs = c.args.runs.now.items in
    let i = c.args.index in
    let run = c.index-run.result.now in
    let lt : i < length xs = omega arith in
    let same : get_or xs i d ≡ run = get_or_default xs i d run lt ∙ sym c.index-run.ensures in
    let P : Run → Type 0 = λ r. Without xs (set xs i (rest_of r c.args.count)) (get_or xs i d).first c.args.count in
    subst P same
    (Without-set_rest 0 (2 ^ 20) xs i d c.args.count lt
    (omega (arith, c.requires.long d, ap (λ (r : Run). r.count) same)) c.requires.list)

pub overflow_add-run : goal.overflow_add-run
overflow_add-run c =
    let run = c.index-run.result.now in
    let at = run_at 0 (2 ^ 20) c.args.runs.now.items c.args.index run (omega arith) c.requires.list in
    omega (arith, at.to, c.requires.long run, ap (λ (r : Run). r.first) c.index-run.ensures)
