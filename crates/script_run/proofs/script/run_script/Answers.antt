use Rattle.std.proofs.Common.{is_some, min, refl}
use Rattle.tile_chain.specs.OwnedTiles.{counts_over}
use Rattle.outside_io.specs.Files.{file}
use Rattle.model_runs.specs.Built.{needs_no_swap}
use Rattle.model_runs.specs.Run.{lines_of_file}
use Rattle.run_lines.proofs.Faults.{faults_by_cause, faults_then}
use Rattle.run_words.specs.Meant.{options_meant}
use Rattle.script_run.proofs.AfterLines.{report_ended, report_read, unswapped_ended, unswapped_then}
use Rattle.script_run.proofs.Reading.{moment}
use Rattle.script_run.proofs.script.run_script.Goals as goal

pub returns-in_err-counts-clause-carried : goal.returns-in_err-counts-clause-carried
returns-in_err-counts-clause-carried g c =
    let blocks = min c.args.options.swap_blocks (g.D.SwapDisk.block_count c.args.swap.now) in
    let old = moment (g.F.Shelf.files c.args.shelf.now) (g.O.Sink.written c.args.out.now) (g.F.Shelf.read_faults c.args.shelf.now) (g.F.Shelf.write_faults c.args.shelf.now) (g.O.Sink.faults c.args.out.now) (counts_over (g.D.SwapDisk.faults c.args.swap.now) blocks c.args.options.resident) in
    let mid = moment (g.F.Shelf.files c.carry_out_script.new.shelf) (g.O.Sink.written c.carry_out_script.new.out) (g.F.Shelf.read_faults c.carry_out_script.new.shelf) (g.F.Shelf.write_faults c.carry_out_script.new.shelf) (g.O.Sink.faults c.carry_out_script.new.out) (counts_over (g.D.SwapDisk.faults c.carry_out_script.new.swap) blocks c.args.options.resident) in
    report_ended (g.F.Shelf.files c.args.shelf.now) (is_some (g.D.SwapDisk.blocks c.args.swap.now)) (options_meant c.args.options) (λ files. lines_of_file (file files c.args.script.now)) _ c.from_residual.result old mid
    c.from_residual.ensures.1 c.in_err-counts.ensures.carried

pub returns-clause-carried : goal.returns-clause-carried
returns-clause-carried g c =
    let blocks = min c.args.options.swap_blocks (g.D.SwapDisk.block_count c.args.swap.now) in
    let old = moment (g.F.Shelf.files c.args.shelf.now) (g.O.Sink.written c.args.out.now) (g.F.Shelf.read_faults c.args.shelf.now) (g.F.Shelf.write_faults c.args.shelf.now) (g.O.Sink.faults c.args.out.now) (counts_over (g.D.SwapDisk.faults c.args.swap.now) blocks c.args.options.resident) in
    let mid = moment (g.F.Shelf.files c.carry_out_script.new.shelf) (g.O.Sink.written c.carry_out_script.new.out) (g.F.Shelf.read_faults c.carry_out_script.new.shelf) (g.F.Shelf.write_faults c.carry_out_script.new.shelf) (g.O.Sink.faults c.carry_out_script.new.out) (counts_over (g.D.SwapDisk.faults c.carry_out_script.new.swap) blocks c.args.options.resident) in
    let new = moment (g.F.Shelf.files c.carry_out_script.new.shelf) (g.O.Sink.written c.put_report.new.out) (g.F.Shelf.read_faults c.carry_out_script.new.shelf) (g.F.Shelf.write_faults c.carry_out_script.new.shelf) (g.O.Sink.faults c.put_report.new.out) (counts_over (g.D.SwapDisk.faults c.carry_out_script.new.swap) blocks c.args.options.resident) in
    report_read (g.F.Shelf.files c.args.shelf.now) (is_some (g.D.SwapDisk.blocks c.args.swap.now)) (options_meant c.args.options) (λ files. lines_of_file (file files c.args.script.now))
    c.in_ok-counts.counts.applied c.in_ok-counts.counts.reused c.put_report.result old mid new
    c.in_ok-counts.ensures.carried c.in_ok-counts.ensures.counts c.in_ok-counts.ensures.faults.chain (c.put_report.ensures.cause 0 0).room (c.put_report.ensures.leaves mid.files)

pub returns-in_err-counts-clause-unswapped : goal.returns-in_err-counts-clause-unswapped
returns-in_err-counts-clause-unswapped g c =
    unswapped_ended (g.F.Shelf.files c.args.shelf.now) (λ files. needs_no_swap (lines_of_file (file files c.args.script.now))) _ _ c.from_residual.result c.from_residual.ensures.1
    c.in_err-counts.ensures.unswapped

pub returns-clause-unswapped : goal.returns-clause-unswapped
returns-clause-unswapped g c =
    unswapped_then (g.F.Shelf.files c.args.shelf.now) (λ files. needs_no_swap (lines_of_file (file files c.args.script.now))) _ c.put_report.result
    (c.put_report.ensures.cause 0 0).swap (c.put_report.ensures.cause 0 0).room c.in_ok-counts.ensures.unswapped

pub returns-clause-faults : goal.returns-clause-faults
returns-clause-faults g c =
    let blocks = min c.args.options.swap_blocks (g.D.SwapDisk.block_count c.args.swap.now) in
    let old = moment (g.F.Shelf.files c.args.shelf.now) (g.O.Sink.written c.args.out.now) (g.F.Shelf.read_faults c.args.shelf.now) (g.F.Shelf.write_faults c.args.shelf.now) (g.O.Sink.faults c.args.out.now) (counts_over (g.D.SwapDisk.faults c.args.swap.now) blocks c.args.options.resident) in
    let mid = moment (g.F.Shelf.files c.carry_out_script.new.shelf) (g.O.Sink.written c.carry_out_script.new.out) (g.F.Shelf.read_faults c.carry_out_script.new.shelf) (g.F.Shelf.write_faults c.carry_out_script.new.shelf) (g.O.Sink.faults c.carry_out_script.new.out) (counts_over (g.D.SwapDisk.faults c.carry_out_script.new.swap) blocks c.args.options.resident) in
    let new = moment (g.F.Shelf.files c.carry_out_script.new.shelf) (g.O.Sink.written c.put_report.new.out) (g.F.Shelf.read_faults c.carry_out_script.new.shelf) (g.F.Shelf.write_faults c.carry_out_script.new.shelf) (g.O.Sink.faults c.put_report.new.out) (counts_over (g.D.SwapDisk.faults c.carry_out_script.new.swap) blocks c.args.options.resident) in
    faults_then _ c.put_report.result old mid new c.in_ok-counts.ensures.faults (faults_by_cause c.put_report.result mid new refl (c.put_report.ensures.cause mid.reads mid.writes))
