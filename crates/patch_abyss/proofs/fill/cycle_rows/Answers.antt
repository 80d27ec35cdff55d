use Rattle.std.proofs.Common.{◌≡◌, ◌-◌, ◌%◌, ◌≤◌, ℕ, length, take, drop, get_or, ap, ◌∙◌, arith}
use Rattle.std.proofs.lemmas.Nat.{mod_below}
use Rattle.patch_abyss.specs.Copied.{bytes_of, row_byte}
use Rattle.patch_abyss.proofs.CopiedRows.{HasRows-none, HasRows-no_bytes, HasRows-next, length-row, get_or-row}
use Rattle.patch_abyss.proofs.fill.cycle_rows.Goals as goal

pub loop-row-init : goal.loop-row-init
loop-row-init c = HasRows-none c.args.targets c.args.count (λ j k. bytes_of c.args.sources c.args.from.now j (k % c.args.period)) c.args.to.now

pub loop-row-preserved : goal.loop-row-preserved
loop-row-preserved c =
    let j = c.loop-row.row in
    let period = c.args.period in
    let count = c.args.count in
    let now = c.loop-row.to in
    let from = c.args.from.now in
    let target = c.row in
    let source = c.row-in-loop-row in
    let inside = c.requires.from j c.loop-row-test.true in
    let room : row_byte c.args.targets j count ≤ length now = omega (arith, c.requires.to j c.loop-row-test.true, c.loop-row.auto.to) in
    let long_to = length-row c.args.targets count j target.result.start target.result.end now target.ensures.start target.ensures.end room in
    let long_from = length-row c.args.sources period j source.result.start source.result.end from source.ensures.start source.ensures.end inside in
    let bytes = take (source.result.end - source.result.start) (drop source.result.start from) in
    HasRows-next c.args.targets count j (λ j k. bytes_of c.args.sources from j (k % period)) c.args.to.now now c.cycle.new.to target.result.start target.result.end
    c.requires.apart target.ensures.start target.ensures.end room (c.cycle.ensures.len ∙ long_to)
    (λ k within.
    c.cycle.ensures.bytes k (omega (arith, within, long_to))
    ∙ ap (λ (m : ℕ). get_or bytes (k % m) 0) long_from
    ∙ get_or-row c.args.sources period j source.result.start source.result.end from source.ensures.start source.ensures.end inside (k % period) (mod_below k period c.requires.some))
    c.loop-row.invariant

pub returns-clause-rows : goal.returns-clause-rows
returns-clause-rows c =
    let all : c.loop-row.row ≡ c.args.many = omega (arith, c.loop-row-test.false, c.loop-row.auto.row-end) in
    rw all at c.loop-row.invariant

pub returns-then-count-eq0-clause-rows : goal.returns-then-count-eq0-clause-rows
returns-then-count-eq0-clause-rows c =
    HasRows-no_bytes c.args.targets c.args.count c.args.many (λ j k. bytes_of c.args.sources c.args.from.now j (k % c.args.period)) c.args.to.now c.if-count-eq0.true
