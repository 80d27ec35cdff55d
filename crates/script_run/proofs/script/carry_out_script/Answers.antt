use Rattle.std.proofs.Common.{[], min, IfOk, refl}
use Rattle.tile_chain.specs.OwnedTiles.{counts_over}
use Rattle.outside_io.specs.Files.{file}
use Rattle.model_runs.specs.Built.{plan_of_read}
use Rattle.model_runs.specs.Ending.{ended}
use Rattle.model_runs.specs.Run.{lines_of_file, no_ending}
use Rattle.run_lines.proofs.Leaving.{Leaves-same_files, nothing_done, nothing_read, exposed_outcome, exposed_any}
use Rattle.run_lines.specs.Carried.{IsCounted}
use Rattle.script_run.proofs.AfterLines.{none_counted}
use Rattle.script_run.proofs.Loads.{script_too_long, script_absent}
use Rattle.script_run.proofs.Reading.{any_known, moment, read_carried, text_carried, text_read, text_unswapped}
use Rattle.run_words.specs.Meant.{options_meant}
use Rattle.script_run.specs.Carried.{last_state}
use Rattle.script_run.proofs.script.carry_out_script.Goals as goal

pub returns-in-Err-TooLong-clause-carried : goal.returns-in-Err-TooLong-clause-carried
returns-in-Err-TooLong-clause-carried g c =
    let options = options_meant c.args.options in
    let long = rw c.in-Err-TooLong.field-0-is at c.in-Err-TooLong.ensures.gives in
    read_carried _ _ options (λ files. lines_of_file (file files c.args.script.now)) _ _ _ (c.refuse_script.ensures.cause 0 0).room
    (exposed_outcome _ _ (λ files. (plan_of_read no_ending [] files options (lines_of_file (file files c.args.script.now))).outcome) _ _ _ _ (λ files known. script_too_long files options _ known) long
    (Leaves-same_files _ _ _ _ _ _ c.in-Err-TooLong.ensures.files (c.refuse_script.ensures.leaves _)))

pub returns-in-Err-Absent-clause-carried : goal.returns-in-Err-Absent-clause-carried
returns-in-Err-Absent-clause-carried g c =
    let options = options_meant c.args.options in
    let none = rw c.in-Err-Absent.field-0-is at c.in-Err-Absent.ensures.gives in
    read_carried _ _ options (λ files. lines_of_file (file files c.args.script.now)) _ _ _ (c.refuse_script-in-Err-Absent.ensures.cause 0 0).room
    (exposed_outcome _ _ (λ files. (plan_of_read no_ending [] files options (lines_of_file (file files c.args.script.now))).outcome) _ _ _ _ (λ files known. script_absent files options _ known) none
    (Leaves-same_files _ _ _ _ _ _ c.in-Err-Absent.ensures.files (c.refuse_script-in-Err-Absent.ensures.leaves _)))

pub returns-in-Err-Failed-clause-carried : goal.returns-in-Err-Failed-clause-carried
returns-in-Err-Failed-clause-carried g c =
    let options = options_meant c.args.options in
    read_carried _ _ options (λ files. lines_of_file (file files c.args.script.now)) _ _ _ (λ e. cc)
    (exposed_any _ _ _ _ _ (λ files. Leaves-same_files _ _ _ _ _ _ c.in-Err-Failed.ensures.files (nothing_read _ _)))

pub returns-in-Err-NoMemory-clause-carried : goal.returns-in-Err-NoMemory-clause-carried
returns-in-Err-NoMemory-clause-carried g c =
    let options = options_meant c.args.options in
    read_carried _ _ options (λ files. lines_of_file (file files c.args.script.now)) _ _ _ (λ e. cc)
    (exposed_any _ _ _ _ _ (λ files. Leaves-same_files _ _ _ _ _ _ c.in-Err-NoMemory.ensures.files (nothing_done _ _)))

pub returns-in-Ok-clause-carried : goal.returns-in-Ok-clause-carried
returns-in-Ok-clause-carried g c =
    let left = rw c.deref.ensures.value at c.carry_out_text.ensures.carried in
    let chain = counts_over (g.D.SwapDisk.faults c.args.swap.now) (min c.args.options.swap_blocks (g.D.SwapDisk.block_count c.args.swap.now)) c.args.options.resident in
    text_carried _ (options_meant c.args.options) c.args.script.now c.in-Ok.text.items (ended c.carry_out_text.result)
    (g.F.Shelf.files c.args.shelf.now) (g.F.Shelf.files c.read.new.self) (g.O.Sink.written c.args.out.now)
    (g.F.Shelf.read_faults c.args.shelf.now) (g.F.Shelf.read_faults c.read.new.self) (g.F.Shelf.write_faults c.args.shelf.now) (g.F.Shelf.write_faults c.read.new.self) (g.O.Sink.faults c.args.out.now) chain
    (moment (g.F.Shelf.files c.carry_out_text.new.shelf) (g.O.Sink.written c.carry_out_text.new.out) (g.F.Shelf.read_faults c.carry_out_text.new.shelf) (g.F.Shelf.write_faults c.carry_out_text.new.shelf) (g.O.Sink.faults c.carry_out_text.new.out)
    (counts_over (g.D.SwapDisk.faults c.carry_out_text.new.swap) (min c.args.options.swap_blocks (g.D.SwapDisk.block_count c.args.swap.now)) c.args.options.resident))
    c.in-Ok.ensures.files c.in-Ok.ensures.gives c.in-Ok.ensures.within left

pub returns-in-Err-TooLong-clause-unswapped : goal.returns-in-Err-TooLong-clause-unswapped
returns-in-Err-TooLong-clause-unswapped g c =
    any_known (g.F.Shelf.files c.args.shelf.now) _ (λ files none. (refl, record { fault = (c.refuse_script.ensures.cause 0 0).swap; room = (c.refuse_script.ensures.cause 0 0).room }))

pub returns-in-Err-Absent-clause-unswapped : goal.returns-in-Err-Absent-clause-unswapped
returns-in-Err-Absent-clause-unswapped g c =
    any_known (g.F.Shelf.files c.args.shelf.now) _ (λ files none. (refl, record { fault = (c.refuse_script-in-Err-Absent.ensures.cause 0 0).swap; room = (c.refuse_script-in-Err-Absent.ensures.cause 0 0).room }))

pub returns-in-Err-Failed-clause-unswapped : goal.returns-in-Err-Failed-clause-unswapped
returns-in-Err-Failed-clause-unswapped g c =
    any_known (g.F.Shelf.files c.args.shelf.now) _ (λ files none. (refl, record { fault = λ e. cc; room = λ e. cc }))

pub returns-in-Err-NoMemory-clause-unswapped : goal.returns-in-Err-NoMemory-clause-unswapped
returns-in-Err-NoMemory-clause-unswapped g c =
    any_known (g.F.Shelf.files c.args.shelf.now) _ (λ files none. (refl, record { fault = λ e. cc; room = λ e. cc }))

pub returns-in-Ok-clause-unswapped : goal.returns-in-Ok-clause-unswapped
returns-in-Ok-clause-unswapped g c =
    text_unswapped (g.F.Shelf.files c.args.shelf.now) c.args.script.now c.in-Ok.text.items _ c.in-Ok.ensures.gives c.in-Ok.ensures.within
    (rw c.deref.ensures.value at c.carry_out_text.ensures.unswapped)

pub returns-in-Ok-clause-counts : goal.returns-in-Ok-clause-counts
returns-in-Ok-clause-counts g c =
    text_read (λ files read. IfOk c.carry_out_text.result (λ counts. IsCounted (last_state files (options_meant c.args.options) read) counts.applied counts.reused))
    (g.F.Shelf.files c.args.shelf.now) (g.F.Shelf.files c.read.new.self) c.args.script.now c.in-Ok.text.items
    c.in-Ok.ensures.files c.in-Ok.ensures.gives c.in-Ok.ensures.within (rw c.deref.ensures.value at c.carry_out_text.ensures.counts)

pub returns-in-Err-TooLong-clause-counts : goal.returns-in-Err-TooLong-clause-counts
returns-in-Err-TooLong-clause-counts g c = none_counted (g.F.Shelf.files c.args.shelf.now) c.refuse_script.result _ c.refuse_script.ensures.none

pub returns-in-Err-Absent-clause-counts : goal.returns-in-Err-Absent-clause-counts
returns-in-Err-Absent-clause-counts g c = none_counted (g.F.Shelf.files c.args.shelf.now) c.refuse_script-in-Err-Absent.result _ c.refuse_script-in-Err-Absent.ensures.none

pub returns-in-Err-Failed-clause-counts : goal.returns-in-Err-Failed-clause-counts
returns-in-Err-Failed-clause-counts g c = any_known (g.F.Shelf.files c.args.shelf.now) _ (λ files. tt)

pub returns-in-Err-NoMemory-clause-counts : goal.returns-in-Err-NoMemory-clause-counts
returns-in-Err-NoMemory-clause-counts g c = any_known (g.F.Shelf.files c.args.shelf.now) _ (λ files. tt)
