use Rattle.std.proofs.Common.{Result, Ok, Err, refl}
use Rattle.run_lines.proofs.Faults.{chain_faults}
use Rattle.run_lines.proofs.EditLines.{carried_edit, edit_done, edit_stopped, refused_edit, stopped_faults}
use Rattle.run_lines.proofs.Stopping.{same_stop, same_stop_faults}
use Rattle.run_lines.specs.Edited.{IsEdited, SessionOver}
use Rattle.run_lines.specs.Stops.{stop_of}
use Rattle.run_lines.specs.declared.stop.Stop.{Stop}
use Rattle.run_lines.proofs.edits.make.Goals as goal

pub returns-in_err-edit : goal.returns-in_err-edit
returns-in_err-edit g c = λ line shelf text reads writes puts.
    let edit = c.args.edit in
    let old : SessionOver = record { parts = c.args.session.now; held = g.C.ChainMeaning.held c.args.chain.now; counts = g.C.ChainMeaning.counts c.args.chain.now } in
    let new : SessionOver = record { parts = c.edit.new.self; held = g.C.ChainMeaning.held c.edit.new.chain; counts = g.C.ChainMeaning.counts c.edit.new.chain } in
    let refused = c.in_err-edit.field-0.0 in
    let ensures = c.in_err-edit.ensures in
    let edited : IsEdited edit (Err refused) old new = refused_edit edit refused old new ensures.exact ensures.cause ensures.states.capacity ensures.left.others.exposed ensures.left.counts in
    let stopped : Result (Unit {0}) Stop = Err (stop_of refused) in
    record {
      did = λ exposed capacity state files holds.
          same_stop exposed capacity line state files _ (stop_of refused) _ _ _ new.parts new.held c.from_residual.ensures.1
          (edit_stopped exposed capacity line state files edit old new shelf text reads writes puts reads writes puts holds refused edited);
      faults = same_stop_faults stopped (stop_of refused) _ _ _ refl c.from_residual.ensures.1 (stopped_faults edit old new shelf text reads writes puts refused edited);
      over = ensures.over;
      loans = ensures.left.loans;
      valid = ensures.left.valid;
    }

pub returns : goal.returns
returns g c = λ line shelf text reads writes puts.
    let edit = c.args.edit in
    let old : SessionOver = record { parts = c.args.session.now; held = g.C.ChainMeaning.held c.args.chain.now; counts = g.C.ChainMeaning.counts c.args.chain.now } in
    let new : SessionOver = record { parts = c.edit.new.self; held = g.C.ChainMeaning.held c.edit.new.chain; counts = g.C.ChainMeaning.counts c.edit.new.chain } in
    let ensures = c.in_ok-edit.ensures in
    let edited : IsEdited edit (Ok tt) old new = carried_edit edit old new ensures.edited.carried_out ensures.session ensures.states.capacity ensures.left.others.exposed ensures.left.counts in
    record {
      did = λ exposed capacity state files holds.
          edit_done exposed capacity line state files edit old new shelf text reads writes puts reads writes puts holds c.requires.proper edited;
      faults = chain_faults _ _ refl refl refl ensures.left.counts.continues;
      over = ensures.over;
      loans = ensures.left.loans;
      valid = ensures.left.valid;
    }
