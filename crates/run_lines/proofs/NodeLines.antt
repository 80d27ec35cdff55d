-- Lines that edit nodes.
use Rattle.std.proofs.Common.{◌≡◌, ◌∙◌, ℕ, Bool, Result, Ok, Err, refl, arith}
use Rattle.std.specs.Result.{IsErrAnd}
use Rattle.chain_owners.specs.Held.{Held}
use Rattle.commit_session.specs.Parts.{Parts}
use Rattle.commit_session.specs.Seen.{IsOver}
use Rattle.model_buffers.specs.Table.{Table}
use Rattle.model_graphs.specs.declared.node.NodeEdit.{NodeEdit}
use Rattle.model_operations.specs.Meanings.{int_meanings, same_operation}
use Rattle.model_operations.specs.declared.operation.IntOp.{IntOp}
use Rattle.model_runs.specs.State.{Effect, RunState}
use Rattle.model_runs.specs.declared.ending.End.TheVariants as ends
use Rattle.model_sessions.specs.Sessions.{Session}
use Rattle.model_sessions.specs.Steps.{EditNode}
use Rattle.outside_io.specs.Files.{Files}
use Rattle.run_lines.proofs.Faults.{continues_same, no_faults}
use Rattle.run_lines.proofs.Stopping.{same_stop, same_stop_faults}
use Rattle.run_lines.proofs.Texts.{put_none}
use Rattle.run_lines.specs.Moments.{Moment}
use Rattle.run_lines.proofs.Bounds.{names_grow}
use Rattle.run_lines.proofs.EditLines.{out_of_memory, out_of_memory_faults, step_valid}
use Rattle.run_lines.specs.Edited.{IsHeld, stepped}
use Rattle.run_lines.specs.Commands.{leaves_pending}
use Rattle.run_lines.specs.States.{Holds}
use Rattle.run_lines.specs.Stops.{CarriesInSession, IsDone}
use Rattle.run_lines.specs.declared.stop.Stop.{Stop}
use Rattle.run_lines.specs.declared.stop.Stop.TheVariants as stops

pub pending_done : (exposed : Bool) (capacity line : ℕ) (state : RunState) (files : Files) (edit : NodeEdit IntOp) (old new : Parts IntOp) (held : Held) (now : Moment) →
    Holds exposed capacity state files old held now.files → IsHeld new held (stepped state.session (EditNode edit)) → new.capacity ≡ old.capacity →
    IsDone exposed capacity state files (leaves_pending line state edit) now now new held
pending_done exposed capacity line state files edit old new held now holds session as_many = record {
  carried = record { refused = refl; whole = λ e whole. refl; texts = λ whole. put_none now.text; prefix = λ e. refl; texts_prefix = (0, put_none now.text); full = λ full. absurd (cc) };
  next = record {
    session = session;
    valid = step_valid capacity state.session (EditNode edit) holds.valid tt refl;
    applied = holds.applied;
    as_many = as_many ∙ holds.as_many;
    unwatched = holds.unwatched;
    content = holds.content;
    same_lengths = holds.same_lengths;
    same = holds.same;
  };
  names = names_grow 0 state (leaves_pending line state edit).next now.chain now.chain refl (record { continues = continues_same now.chain now.chain refl; names = omega arith });
}

-- an edit that is pending
pub pending_carried : (edit : NodeEdit IntOp) (old new : Parts IntOp) → new.capacity ≡ old.capacity →
    ((held : Held) (session : Session Table IntOp) → IsHeld old held session → IsHeld new held (stepped session (EditNode edit))) →
    ((held : Held) → IsOver same_operation int_meanings old held → IsOver same_operation int_meanings new held) →
    CarriesInSession (λ line state. leaves_pending line state edit) (Ok tt) old new
pending_carried edit old new as_many session over = record {
  did = λ line now held exposed capacity state files holds. pending_done exposed capacity line state files edit old new held now holds (session held state.session holds.session) as_many;
  faults = no_faults;
  over = over;
}

-- one for which memory runs out
pub pending_stopped : (effect : ℕ → RunState → Effect) (result : Result (Unit {0}) Stop) (old new : Parts IntOp) → IsErrAnd result (λ stop. stop ≡ stops.Ended ends.NoMemory) →
    ((held : Held) → IsOver same_operation int_meanings old held → IsOver same_operation int_meanings new held) → CarriesInSession effect result old new
pending_stopped effect result old new ended over = record {
  did = λ line now held exposed capacity state files holds.
      same_stop exposed capacity line state files (effect line state) (stops.Ended ends.NoMemory) result now now new held ended (out_of_memory exposed capacity line state files (effect line state) now new held);
  faults = λ now.
      let stopped : Result (Unit {0}) Stop = Err (stops.Ended ends.NoMemory) in
      same_stop_faults stopped (stops.Ended ends.NoMemory) result now now refl ended (out_of_memory_faults now);
  over = over;
}
