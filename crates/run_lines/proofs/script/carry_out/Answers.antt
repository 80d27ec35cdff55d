use Rattle.std.proofs.Common.{[], min, is_some, refl, ap, ◌∙◌, rules}
use Rattle.tile_chain.specs.OwnedTiles.{counts_over}
use Rattle.model_runs.specs.Ending.{ended}
use Rattle.model_runs.specs.State.{first_state}
use Rattle.run_lines.specs.Moments.{Moment}
use Rattle.run_lines.proofs.Going.{lines_same_end}
use Rattle.run_lines.proofs.Starting.{ended_same, faults_ended, faults_rechained, lines_from, memory_begins, none_counted, over_counts, run_begins, true_at_end, where_exposed}
use Rattle.run_lines.proofs.script.carry_out.Goals as goal

pub returns-in_err-memory-clause-carried : goal.returns-in_err-memory-clause-carried
returns-in_err-memory-clause-carried g c =
    let now : Moment = (record { files = g.F.Shelf.files c.args.shelf.now; text = g.O.Sink.written c.args.out.now; reads = g.F.Shelf.read_faults c.args.shelf.now; writes = g.F.Shelf.write_faults c.args.shelf.now; puts = g.O.Sink.faults c.args.out.now; chain = counts_over (g.D.SwapDisk.faults c.args.swap.now) (min c.args.limits.swap_blocks (g.D.SwapDisk.block_count c.args.swap.now)) c.args.limits.resident }) in
    memory_begins (is_some (g.D.SwapDisk.blocks c.args.swap.now)) c.args.limits.cache (g.F.Shelf.files c.args.shelf.now) c.args.lines.now (ended c.from_residual.result) now now (ended_same c.from_residual.result _ c.from_residual.ensures.1) refl refl

pub returns-in_err-session-clause-carried : goal.returns-in_err-session-clause-carried
returns-in_err-session-clause-carried g c =
    let now : Moment = (record { files = g.F.Shelf.files c.args.shelf.now; text = g.O.Sink.written c.args.out.now; reads = g.F.Shelf.read_faults c.args.shelf.now; writes = g.F.Shelf.write_faults c.args.shelf.now; puts = g.O.Sink.faults c.args.out.now; chain = counts_over (g.D.SwapDisk.faults c.args.swap.now) (min c.args.limits.swap_blocks (g.D.SwapDisk.block_count c.args.swap.now)) c.args.limits.resident }) in
    memory_begins (is_some (g.D.SwapDisk.blocks c.args.swap.now)) c.args.limits.cache (g.F.Shelf.files c.args.shelf.now) c.args.lines.now (ended c.from_residual-in_err-session.result) now now (ended_same c.from_residual-in_err-session.result _ c.from_residual-in_err-session.ensures.1) refl refl

pub carry_out_lines-carried-requires-clause-over : goal.carry_out_lines-carried-requires-clause-over
carry_out_lines-carried-requires-clause-over g c κs within = c.in_ok-session.ensures.over _

pub returns-in_err-carried-clause-carried : goal.returns-in_err-carried-clause-carried
returns-in_err-carried-clause-carried g c =
    let exposed = is_some (g.D.SwapDisk.blocks c.args.swap.now) in
    let cache = c.args.limits.cache in
    where_exposed _ _ (λ files shown.
    lines_same_end exposed cache (first_state []) files c.args.lines.now _ (ended c.from_residual-in_err-carried.result) _ _ (ended_same c.from_residual-in_err-carried.result _ c.from_residual-in_err-carried.ensures.1)
    (lines_from exposed cache (first_state []) files c.args.lines.now _ _ _ _ _
    (c.over-chain.ensures.counts
    ∙ over_counts _ _ _ _ _ _ (c.in_ok-memory.ensures.blocks ∙ c.min.ensures ∙ ap (min c.args.limits.swap_blocks) c.size.ensures.value) c.in_ok-memory.ensures.resident)
    (c.in_err-carried.ensures.carried exposed cache (first_state []) files
    (run_begins cache (g.D.SwapDisk.blocks c.args.swap.now) files _ _ _ c.in_ok-session.ensures.parts c.over-chain.ensures.held shown (c.in_ok-session.ensures.session _))
    (true_at_end cache files c.args.lines.now c.requires.few))))

pub returns-in_err-carried-clause-counts : goal.returns-in_err-carried-clause-counts
returns-in_err-carried-clause-counts g c = none_counted _ c.from_residual-in_err-carried.result _ _ c.from_residual-in_err-carried.ensures.1

pub returns-in_err-carried-clause-faults : goal.returns-in_err-carried-clause-faults
returns-in_err-carried-clause-faults g c =
    faults_ended c.from_residual-in_err-carried.result _ _ _ c.from_residual-in_err-carried.ensures.1
    (faults_rechained _ _ _ _ _
    (c.over-chain.ensures.counts
    ∙ over_counts _ _ _ _ _ _ (c.in_ok-memory.ensures.blocks ∙ c.min.ensures ∙ ap (min c.args.limits.swap_blocks) c.size.ensures.value) c.in_ok-memory.ensures.resident)
    (search rules) refl refl c.in_err-carried.ensures.faults)

pub returns-clause-carried : goal.returns-clause-carried
returns-clause-carried g c =
    let exposed = is_some (g.D.SwapDisk.blocks c.args.swap.now) in
    let cache = c.args.limits.cache in
    where_exposed _ _ (λ files shown.
    lines_from exposed cache (first_state []) files c.args.lines.now _ _ _ _ _
    (c.over-chain.ensures.counts
    ∙ over_counts _ _ _ _ _ _ (c.in_ok-memory.ensures.blocks ∙ c.min.ensures ∙ ap (min c.args.limits.swap_blocks) c.size.ensures.value) c.in_ok-memory.ensures.resident)
    (c.in_ok-carried.ensures.carried exposed cache (first_state []) files
    (run_begins cache (g.D.SwapDisk.blocks c.args.swap.now) files _ _ _ c.in_ok-session.ensures.parts c.over-chain.ensures.held shown (c.in_ok-session.ensures.session _))
    (true_at_end cache files c.args.lines.now c.requires.few)))

pub returns-clause-faults : goal.returns-clause-faults
returns-clause-faults g c =
    faults_rechained _ _ _ _ _
    (c.over-chain.ensures.counts
    ∙ over_counts _ _ _ _ _ _ (c.in_ok-memory.ensures.blocks ∙ c.min.ensures ∙ ap (min c.args.limits.swap_blocks) c.size.ensures.value) c.in_ok-memory.ensures.resident)
    (search rules) refl refl c.in_ok-carried.ensures.faults

pub returns-clause-counts : goal.returns-clause-counts
returns-clause-counts g c =
    let exposed = is_some (g.D.SwapDisk.blocks c.args.swap.now) in
    let cache = c.args.limits.cache in
    where_exposed _ _ (λ files shown.
    let counted = c.in_ok-carried.ensures.counts exposed cache (first_state []) files
    (run_begins cache (g.D.SwapDisk.blocks c.args.swap.now) files _ _ _ c.in_ok-session.ensures.parts c.over-chain.ensures.held shown (c.in_ok-session.ensures.session _))
    (true_at_end cache files c.args.lines.now c.requires.few) in
    record { applied = c.counts.ensures.applied ∙ counted.applied; reused = c.counts.ensures.reused ∙ counted.reused })
