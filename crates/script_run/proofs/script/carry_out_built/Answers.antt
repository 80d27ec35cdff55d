use Rattle.std.proofs.Common.{◌≡◌, Some, None, Ok, is_some, min, refl}
use Rattle.tile_chain.specs.OwnedTiles.{counts_over}
use Rattle.model_runs.proofs.RunCounts.{script_few}
use Rattle.model_runs.specs.Built.{first_unbuilt}
use Rattle.model_runs.specs.Ending.{ended}
use Rattle.run_lines.proofs.Faults.{faults_by_cause}
use Rattle.run_lines.proofs.Leaving.{Leaves-same_outcome, exposed_any}
use Rattle.run_lines.specs.Carried.{IsCounted}
use Rattle.run_words.specs.Meant.{options_meant}
use Rattle.script_run.proofs.AfterLines.{counted_read, none_counted}
use Rattle.script_run.proofs.Lines.{are_built}
use Rattle.script_run.proofs.Reading.{lines_need_it, lines_read, moment, read_carried, unbuilt_outcome}
use Rattle.script_run.proofs.script.carry_out_built.Goals as goal

pub carry_out-requires-clause-lines : goal.carry_out-requires-clause-lines
carry_out-requires-clause-lines g c κs within =
    let built : first_unbuilt c.args.lines.now ≡ None = cc (c.first_unbuilt.ensures, c.in_default.is) in
    are_built c.args.lines.now built c.requires.script

pub carry_out-requires-clause-few : goal.carry_out-requires-clause-few
carry_out-requires-clause-few g c κs within = script_few c.args.lines.now c.requires.script

pub returns-in_default-clause-carried : goal.returns-in_default-clause-carried
returns-in_default-clause-carried g c =
    let built : first_unbuilt c.args.lines.now ≡ None = cc (c.first_unbuilt.ensures, c.in_default.is) in
    let blocks = min c.args.options.swap_blocks (g.D.SwapDisk.block_count c.args.swap.now) in
    lines_read (g.F.Shelf.files c.args.shelf.now) (is_some (g.D.SwapDisk.blocks c.args.swap.now)) (options_meant c.args.options) c.args.lines.now (ended c.carry_out.result)
    (moment (g.F.Shelf.files c.args.shelf.now) (g.O.Sink.written c.args.out.now) (g.F.Shelf.read_faults c.args.shelf.now) (g.F.Shelf.write_faults c.args.shelf.now) (g.O.Sink.faults c.args.out.now)
    (counts_over (g.D.SwapDisk.faults c.args.swap.now) blocks c.args.options.resident))
    (moment (g.F.Shelf.files c.carry_out.new.shelf) (g.O.Sink.written c.carry_out.new.out) (g.F.Shelf.read_faults c.carry_out.new.shelf) (g.F.Shelf.write_faults c.carry_out.new.shelf) (g.O.Sink.faults c.carry_out.new.out)
    (counts_over (g.D.SwapDisk.faults c.carry_out.new.swap) blocks c.args.options.resident))
    built refl c.carry_out.ensures.carried

pub returns-clause-carried : goal.returns-clause-carried
returns-clause-carried g c =
    let options = options_meant c.args.options in
    let unbuilt : first_unbuilt c.args.lines.now ≡ Some c.in-Some.unbuilt = cc (c.first_unbuilt.ensures, c.in-Some.is) in
    read_carried _ _ options (λ files. Ok c.args.lines.now) _ _ _ (c.refuse_script.ensures.cause 0 0).room
    (exposed_any _ _ _ _ _ (λ files. Leaves-same_outcome _ _ _ _ _ (unbuilt_outcome files options c.args.lines.now c.in-Some.unbuilt unbuilt)
    (c.refuse_script.ensures.leaves (g.F.Shelf.files c.args.shelf.now))))

pub returns-clause-faults : goal.returns-clause-faults
returns-clause-faults g c = faults_by_cause _ _ _ refl (c.refuse_script.ensures.cause _ _)

pub returns-in_default-clause-unswapped : goal.returns-in_default-clause-unswapped
returns-in_default-clause-unswapped g c =
    let built : first_unbuilt c.args.lines.now ≡ None = cc (c.first_unbuilt.ensures, c.in_default.is) in
    λ none. absurd (lines_need_it c.args.lines.now built none)

pub returns-clause-unswapped : goal.returns-clause-unswapped
returns-clause-unswapped g c = λ none. (refl, record { fault = (c.refuse_script.ensures.cause 0 0).swap; room = (c.refuse_script.ensures.cause 0 0).room })

pub returns-in_default-clause-counts : goal.returns-in_default-clause-counts
returns-in_default-clause-counts g c =
    let built : first_unbuilt c.args.lines.now ≡ None = cc (c.first_unbuilt.ensures, c.in_default.is) in
    counted_read c.carry_out.result (λ s counts. IsCounted s counts.applied counts.reused) (g.F.Shelf.files c.args.shelf.now) (options_meant c.args.options) c.args.lines.now built
    c.carry_out.ensures.counts

pub returns-clause-counts : goal.returns-clause-counts
returns-clause-counts g c = none_counted (g.F.Shelf.files c.args.shelf.now) c.refuse_script.result _ c.refuse_script.ensures.none
