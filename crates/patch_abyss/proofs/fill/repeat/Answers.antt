use Rattle.std.proofs.Common.{◌≡◌, ◌-◌, ◌≤◌, ◌⊎◌, inl, inr, length, arith}
use Rattle.std.proofs.lemmas.Bool.{cases_lt}
use Rattle.patch_abyss.proofs.Repeated.{Repeats-once, Repeats-more}
use Rattle.patch_abyss.proofs.fill.repeat.Goals as goal

pub loop-done-init : goal.loop-done-init
loop-done-init c = Repeats-once c.args.period c.args.bytes.now c.requires

pub loop-done-preserved : goal.loop-done-preserved
loop-done-preserved c =
    let done = c.loop-done.done in
    let more = c.min-more.result in
    let old = c.args.bytes.now in
    let long : length c.loop-done.bytes ≡ length old = c.loop-done.auto.bytes in
    let is = c.min-more.ensures in
    let many : (more ≡ done) ⊎ (more ≡ length old - done) =
    elim (cases_lt done (length old - done)) [ inl lt ↦ inl (omega (arith, is, long, lt)) | inr le ↦ inr (omega (arith, is, long, le)) ] in
    let few : more ≤ done = omega (arith, is) in
    Repeats-more c.args.period done more old c.loop-done.bytes c.copy_prefix.new.bytes c.loop-done.invariant (omega arith) many few
    c.copy_prefix.ensures.copied
    (λ i below. c.copy_prefix.ensures.kept i (inl below))
