use Rattle.std.proofs.Common.{◌≡◌, ℕ, List, ◌∷◌, ◌++◌, Option, Ok, sym, ap, ◌∙◌}
use Rattle.std.proofs.lemmas.List.{append-nil}
use Rattle.script_words.specs.Lines.{lines_of}
use Rattle.script_read.specs.Script.{ended, script_from, step_of}
use Rattle.script_read.proofs.ScriptLaws.{ahead, leads_here, leads_on, reads_end, reads_nothing, reads_on, as_lines}
use Rattle.script_read.proofs.reader.read_script.Goals as goal
use Rattle.script_read.proofs.reader.read_script.Goals.{in-Some-command+in_ok-push, in_default-command}

pub loop-line-init : goal.loop-line-init
loop-line-init c = record {
  reads = rw c.new-lines.ensures.items (reads_nothing c.args.text.now);
  leads = λ rest follows. rw c.new-lines.ensures.items follows;
}

pub loop-line-preserved : goal.loop-line-preserved
loop-line-preserved c =
    let lines = c.loop-line.lines.items in
    let number = c.loop-line.number in
    let step = c.in-Ok.step in
    let pushed : c.match-command.lines.items ≡ lines ++ as_lines number step.command = elim c.match-command.branch [
      | in-Some-command+in_ok-push w ↦ rw (w.in-Some-command.is, w.lines-is) w.in_ok-push.ensures.items
      | in_default-command w ↦ rw (w.in_default-command.is, w.lines-is) (sym (append-nil lines))
    ] in
    let remaining : lines_of c.loop-line.rest.now ≡ c.in-Some.line.now ∷ lines_of c.in-Some.remaining.now = c.in-Some.ensures.lines in
    let is : step_of number c.loop-line.watching c.in-Some.line.now ≡ Ok step = c.in-Ok.ensures.value in
    rw pushed (record {
      reads =
          c.loop-line.invariant.reads
          ∙ ap (λ (rest : List (List ℕ)). ahead lines (script_from number c.loop-line.watching rest)) remaining
          ∙ reads_on lines number c.loop-line.watching c.in-Some.line.now (lines_of c.in-Some.remaining.now) step is;
      leads = leads_on lines number c.loop-line.watching step.watching step.command c.loop-line.invariant.leads c.in-Ok.ensures.number c.in-Ok.ensures.limits c.in-Ok.ensures.watch;
    })

pub returns-in-None-clause-reads : goal.returns-in-None-clause-reads
returns-in-None-clause-reads c =
    let lines = c.loop-line.lines.items in
    c.loop-line.invariant.reads
    ∙ reads_end lines c.loop-line.number c.loop-line.watching c.loop-line.rest.now c.in_default.ensures.none
    ∙ ap (λ (watching : Option ℕ). ahead lines (ended watching)) c.in-None.is
    ∙ ap Ok (append-nil lines)

pub returns-in-None-clause-script : goal.returns-in-None-clause-script
returns-in-None-clause-script c = leads_here c.loop-line.lines.items c.loop-line.number (rw c.in-None.is at c.loop-line.invariant.leads)

pub returns-in-Some-watching-clause-reads : goal.returns-in-Some-watching-clause-reads
returns-in-Some-watching-clause-reads c =
    let lines = c.loop-line.lines.items in
    c.loop-line.invariant.reads
    ∙ reads_end lines c.loop-line.number c.loop-line.watching c.loop-line.rest.now c.in_default.ensures.none
    ∙ ap (λ (watching : Option ℕ). ahead lines (ended watching)) c.in-Some-watching.is
