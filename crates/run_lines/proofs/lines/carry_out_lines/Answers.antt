use Rattle.std.proofs.Common.{◌≡◌, ◌<◌, ◌+◌, [], ◌∷◌, drop, length, refl, sym, ap, ◌∙◌, arith}
use Rattle.std.proofs.lemmas.List.{drop_all, drop_more}
use Rattle.run_lines.proofs.Faults.{faults_then, no_faults}
use Rattle.run_lines.proofs.Going.{lines_same_end, reached_all, reached_counts, reached_end, reached_first, reached_next}
use Rattle.script_read.specs.declared.command.Line.{Line}
use Rattle.run_lines.proofs.lines.carry_out_lines.Goals as goal

pub loop-line-init : goal.loop-line-init
loop-line-init g c = record {
  over = c.requires.over;
  loans = refl;
  valid = λ valid. valid;
  faults = no_faults _;
  reached = λ exposed capacity state files holds counts. reached_first exposed capacity state files c.args.lines.now _ _ _ holds counts;
}

pub loop-line-preserved : goal.loop-line-preserved
loop-line-preserved g c =
    let lines = c.args.lines.now in
    let i = c.loop-line.line-index in
    let x = c.line-item.result in
    let below : i < length lines = omega arith in
    let here : drop i lines ≡ x ∷ drop (i + 1) lines = drop_more lines i x below ∙ ap (λ (y : Line). y ∷ drop (i + 1) lines) (sym c.line-item.is) in
    let invariant = c.loop-line.invariant in
    let done = c.in_ok-carry_out_line.ensures in
    record {
      over = done.over;
      loans = done.loans ∙ invariant.loans;
      valid = λ valid. done.valid (invariant.valid valid);
      faults = faults_then _ _ _ _ _ invariant.faults done.faults;
      reached = λ exposed capacity state files holds counts.
          let reached = rw here at (invariant.reached exposed capacity state files holds counts) in
          reached_next exposed capacity state files lines _ x (drop (i + 1) lines) _ _ _ _ _ _ reached (done.did exposed capacity reached.there reached.found reached.holds);
    }

pub returns-in_err-carry_out_line-clause-carried : goal.returns-in_err-carry_out_line-clause-carried
returns-in_err-carry_out_line-clause-carried g c = λ exposed capacity state files holds counts.
    let lines = c.args.lines.now in
    let i = c.loop-line.line-index in
    let x = c.line-item.result in
    let below : i < length lines = omega arith in
    let here : drop i lines ≡ x ∷ drop (i + 1) lines = drop_more lines i x below ∙ ap (λ (y : Line). y ∷ drop (i + 1) lines) (sym c.line-item.is) in
    let done = c.in_err-carry_out_line.ensures in
    let reached = rw here at (c.loop-line.invariant.reached exposed capacity state files holds counts) in
    lines_same_end exposed capacity state files lines _ _ _ _ c.from_residual.ensures.1
    (reached_end exposed capacity state files lines _ x (drop (i + 1) lines) _ _ _ _ _ _ _ reached (done.did exposed capacity reached.there reached.found reached.holds))

pub returns-clause-carried : goal.returns-clause-carried
returns-clause-carried g c = λ exposed capacity state files holds counts.
    let lines = c.args.lines.now in
    let none : drop c.loop-line.line-index lines ≡ [] = drop_all c.loop-line.line-index lines (omega arith) in
    reached_all exposed capacity state files lines _ _ _ _ (rw none at (c.loop-line.invariant.reached exposed capacity state files holds counts))

pub returns-clause-counts : goal.returns-clause-counts
returns-clause-counts g c = λ exposed capacity state files holds counts.
    let lines = c.args.lines.now in
    let none : drop c.loop-line.line-index lines ≡ [] = drop_all c.loop-line.line-index lines (omega arith) in
    reached_counts exposed capacity state files lines _ _ _ _ (rw none at (c.loop-line.invariant.reached exposed capacity state files holds counts))
