use Rattle.std.proofs.Common.{◌≡◌, ℕ, Bool, drop, Ok}
use Rattle.commit_session.specs.Seen.{IsOver}
use Rattle.model_runs.specs.Counts.{HasTrueCounts}
use Rattle.model_operations.specs.Meanings.{int_meanings, same_operation}
use Rattle.model_runs.specs.Run.{effects, state_after}
use Rattle.model_runs.specs.State.{RunState}
use Rattle.outside_io.specs.Files.{Files}
use Rattle.run_lines.specs.Moments.{HasFaults}
use Rattle.run_lines.specs.States.{Holds}
use Rattle.run_lines.proofs.Going.{Reached}
use Rattle.run_lines.proofs.lines.carry_out_lines.Given as goal

abbrev pub invariant-loop-line : goal.invariant-loop-line
invariant-loop-line g l = record {
  over : IsOver same_operation int_meanings l.session (g.C.ChainMeaning.held l.chain);
  loans : g.C.ChainMeaning.loans l.chain ≡ g.C.ChainMeaning.loans l.fn.chain;
  valid : g.C.ChainMeaning.is_valid l.fn.chain → g.C.ChainMeaning.is_valid l.chain;
  faults : HasFaults (Ok tt)
      (record { files = g.F.Shelf.files l.fn.shelf; text = g.O.Sink.written l.fn.out; reads = g.F.Shelf.read_faults l.fn.shelf; writes = g.F.Shelf.write_faults l.fn.shelf; puts = g.O.Sink.faults l.fn.out; chain = g.C.ChainMeaning.counts l.fn.chain })
      (record { files = g.F.Shelf.files l.shelf; text = g.O.Sink.written l.out; reads = g.F.Shelf.read_faults l.shelf; writes = g.F.Shelf.write_faults l.shelf; puts = g.O.Sink.faults l.out; chain = g.C.ChainMeaning.counts l.chain });
  reached : (exposed : Bool) (capacity : ℕ) (state : RunState) (files : Files) →
      Holds exposed capacity state files l.fn.session (g.C.ChainMeaning.held l.fn.chain) (g.F.Shelf.files l.fn.shelf) →
      HasTrueCounts (state_after state (effects capacity state files l.lines)) →
      Reached exposed capacity state files l.lines (drop l.line-index l.lines)
      (record { files = g.F.Shelf.files l.fn.shelf; text = g.O.Sink.written l.fn.out; reads = g.F.Shelf.read_faults l.fn.shelf; writes = g.F.Shelf.write_faults l.fn.shelf; puts = g.O.Sink.faults l.fn.out; chain = g.C.ChainMeaning.counts l.fn.chain })
      (record { files = g.F.Shelf.files l.shelf; text = g.O.Sink.written l.out; reads = g.F.Shelf.read_faults l.shelf; writes = g.F.Shelf.write_faults l.shelf; puts = g.O.Sink.faults l.out; chain = g.C.ChainMeaning.counts l.chain })
      l.session (g.C.ChainMeaning.held l.chain);
}
