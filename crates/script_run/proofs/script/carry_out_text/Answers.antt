use Rattle.std.proofs.Common.{min, IsTrue, List, Result, refl, subst}
use Rattle.tile_chain.specs.OwnedTiles.{counts_over}
use Rattle.model_runs.specs.Built.{needs_no_swap}
use Rattle.model_runs.specs.Ending.{ended}
use Rattle.model_runs.specs.Run.{by_grammar}
use Rattle.script_read.specs.Script as grammar
use Rattle.script_read.specs.Script.{script_of}
use Rattle.script_read.specs.declared.command.Line.{Line}
use Rattle.run_lines.proofs.Faults.{faults_by_cause}
use Rattle.run_lines.proofs.Leaving.{Leaves-same_outcome, nothing_done, exposed_any}
use Rattle.script_run.proofs.AfterLines.{none_counted}
use Rattle.script_run.proofs.Reading.{any_known, moment, read_carried, refused_outcome}
use Rattle.run_words.specs.Meant.{options_meant}
use Rattle.script_run.proofs.script.carry_out_text.Goals as goal

pub returns-in-Err-Refused-clause-carried : goal.returns-in-Err-Refused-clause-carried
returns-in-Err-Refused-clause-carried g c =
    let options = options_meant c.args.options in
    let chain = counts_over (g.D.SwapDisk.faults c.args.swap.now) (min c.args.options.swap_blocks (g.D.SwapDisk.block_count c.args.swap.now)) c.args.options.resident in
    read_carried (g.F.Shelf.files c.args.shelf.now) _ options (λ files. by_grammar (script_of c.args.text.now)) (ended c.refuse_script.result)
    (moment (g.F.Shelf.files c.args.shelf.now) (g.O.Sink.written c.args.out.now) (g.F.Shelf.read_faults c.args.shelf.now) (g.F.Shelf.write_faults c.args.shelf.now) (g.O.Sink.faults c.args.out.now) chain)
    (moment (g.F.Shelf.files c.args.shelf.now) (g.O.Sink.written c.refuse_script.new.out) (g.F.Shelf.read_faults c.args.shelf.now) (g.F.Shelf.write_faults c.args.shelf.now) (g.O.Sink.faults c.refuse_script.new.out) chain)
    (c.refuse_script.ensures.cause 0 0).room
    (exposed_any _ _ _ _ _ (λ files. Leaves-same_outcome _ _ _ _ _
    (rw c.in-Err-Refused.field-0-is (refused_outcome files options (script_of c.args.text.now) c.in-Err-Refused.line c.in-Err-Refused.cause (rw c.in-Err-Refused.field-0-is at c.in-Err-Refused.ensures.reads)))
    (c.refuse_script.ensures.leaves (g.F.Shelf.files c.args.shelf.now))))

pub returns-in-Err-NoMemory-clause-carried : goal.returns-in-Err-NoMemory-clause-carried
returns-in-Err-NoMemory-clause-carried g c =
    let options = options_meant c.args.options in
    read_carried _ _ options (λ files. by_grammar (script_of c.args.text.now)) _ _ _ (λ e. cc)
    (exposed_any _ _ _ _ _ (λ files. nothing_done _ _))

pub returns-in-Err-Refused-clause-faults : goal.returns-in-Err-Refused-clause-faults
returns-in-Err-Refused-clause-faults g c = faults_by_cause _ _ _ refl (c.refuse_script.ensures.cause _ _)

pub returns-in-Err-Refused-clause-unswapped : goal.returns-in-Err-Refused-clause-unswapped
returns-in-Err-Refused-clause-unswapped g c = λ none. (refl, record { fault = (c.refuse_script.ensures.cause 0 0).swap; room = (c.refuse_script.ensures.cause 0 0).room })

pub returns-in-Err-NoMemory-clause-unswapped : goal.returns-in-Err-NoMemory-clause-unswapped
returns-in-Err-NoMemory-clause-unswapped g c = λ none. (refl, record { fault = λ e. cc; room = λ e. cc })

pub returns-in-Ok-clause-unswapped : goal.returns-in-Ok-clause-unswapped
returns-in-Ok-clause-unswapped g c =
    let read = c.in-Ok.ensures.reads in
    let left = rw c.deref.ensures.value at c.carry_out_built.ensures.unswapped in
    λ none. left (subst (λ (r : Result (List Line) grammar.Refusal). IsTrue (needs_no_swap (by_grammar r))) read none)

pub returns-in-Err-Refused-clause-counts : goal.returns-in-Err-Refused-clause-counts
returns-in-Err-Refused-clause-counts g c = none_counted (g.F.Shelf.files c.args.shelf.now) c.refuse_script.result _ c.refuse_script.ensures.none

pub returns-in-Err-NoMemory-clause-counts : goal.returns-in-Err-NoMemory-clause-counts
returns-in-Err-NoMemory-clause-counts g c = any_known (g.F.Shelf.files c.args.shelf.now) _ (λ files. tt)
