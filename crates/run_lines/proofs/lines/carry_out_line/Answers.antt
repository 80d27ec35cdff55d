use Rattle.std.proofs.Common.{refl}
use Rattle.run_lines.proofs.Faults.{faults_by_cause, faults_then}
use Rattle.run_lines.specs.Moments.{Moment}
use Rattle.run_lines.proofs.Going.{refusal_does}
use Rattle.run_lines.proofs.Stopping.{done_does, ended_does, refused_at}
use Rattle.run_lines.proofs.lines.carry_out_line.Goals as goal

pub returns-in-Ok : goal.returns-in-Ok
returns-in-Ok g c =
    let done = c.in-Ok.ensures in
    record {
      did = λ exposed capacity state files holds. done_does exposed capacity state files _ _ _ _ _ (done.did exposed capacity state files holds);
      faults = done.faults;
      over = done.over;
      loans = done.loans;
      valid = done.valid;
    }

pub returns-in-Err-Refused : goal.returns-in-Err-Refused
returns-in-Err-Refused g c =
    let old : Moment = (record { files = g.F.Shelf.files c.args.shelf.now; text = g.O.Sink.written c.args.out.now; reads = g.F.Shelf.read_faults c.args.shelf.now; writes = g.F.Shelf.write_faults c.args.shelf.now; puts = g.O.Sink.faults c.args.out.now; chain = g.C.ChainMeaning.counts c.args.chain.now }) in
    let mid : Moment = (record { files = g.F.Shelf.files c.carry_out_command.new.shelf; text = g.O.Sink.written c.carry_out_command.new.out; reads = g.F.Shelf.read_faults c.carry_out_command.new.shelf; writes = g.F.Shelf.write_faults c.carry_out_command.new.shelf; puts = g.O.Sink.faults c.carry_out_command.new.out; chain = g.C.ChainMeaning.counts c.carry_out_command.new.chain }) in
    let new : Moment = (record { files = g.F.Shelf.files c.carry_out_command.new.shelf; text = g.O.Sink.written c.refuse.new.out; reads = g.F.Shelf.read_faults c.carry_out_command.new.shelf; writes = g.F.Shelf.write_faults c.carry_out_command.new.shelf; puts = g.O.Sink.faults c.refuse.new.out; chain = g.C.ChainMeaning.counts c.carry_out_command.new.chain }) in
    let done = c.in-Err-Refused.ensures in
    record {
      did = λ exposed capacity state files holds.
          refusal_does exposed capacity c.args.line.now.number state files _ c.in-Err-Refused.cause c.refuse.result old mid new _ _
          (refused_at exposed capacity c.args.line.now.number state files _ _ c.in-Err-Refused.cause old mid _ _ c.in-Err-Refused.field-0-is (done.did exposed capacity state files holds))
          refl (c.refuse.ensures.cause 0 0).room (c.refuse.ensures.leaves mid.files);
      faults = faults_then _ c.refuse.result old mid new done.faults (faults_by_cause c.refuse.result mid new refl (c.refuse.ensures.cause mid.reads mid.writes));
      over = done.over;
      loans = done.loans;
      valid = done.valid;
    }

pub returns-in-Err-Ended : goal.returns-in-Err-Ended
returns-in-Err-Ended g c =
    let done = c.in-Err-Ended.ensures in
    record {
      did = λ exposed capacity state files holds.
          ended_does exposed capacity c.args.line.now.number state files _ _ c.in-Err-Ended.end _ _ _ _ c.in-Err-Ended.field-0-is (done.did exposed capacity state files holds);
      faults = rw c.in-Err-Ended.field-0-is at done.faults;
      over = done.over;
      loans = done.loans;
      valid = done.valid;
    }
