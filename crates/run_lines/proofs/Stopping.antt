-- Stops of lines.
use Rattle.std.proofs.Common.{◌≡◌, ℕ, Bool, Result, Ok, Err, refl, sym, subst}
use Rattle.std.specs.Result.{IsErrAnd}
use Rattle.chain_owners.specs.Held.{Held}
use Rattle.commit_session.specs.Parts.{Parts}
use Rattle.model_operations.specs.declared.operation.IntOp.{IntOp}
use Rattle.model_runs.specs.State.{Effect, RunState}
use Rattle.model_runs.specs.declared.ending.End.{End}
use Rattle.outside_io.specs.Files.{Files}
use Rattle.run_lines.specs.Moments.{HasFaults, Moment}
use Rattle.run_lines.specs.Stops.{Did, Does, IsDone, IsEnded, IsRefused, end_of}
use Rattle.run_lines.specs.declared.stop.Stop.{Stop}
use Rattle.run_lines.specs.declared.stop.Stop.TheVariants as stops
use Rattle.model_runs.specs.declared.cause.Cause.{Cause}

-- one stop for another that is the same
pub same_stop : (exposed : Bool) (capacity line : ℕ) (state : RunState) (files : Files) (done : Effect) (stop : Stop) (result : Result (Unit {0}) Stop) (old new : Moment) (parts : Parts IntOp) (held : Held) →
    IsErrAnd result (λ other. other ≡ stop) → Did exposed capacity line state files done (Err stop) old new parts held → Did exposed capacity line state files done result old new parts held
same_stop exposed capacity line state files done stop (Ok value) old new parts held same did = absurd same
same_stop exposed capacity line state files done stop (Err other) old new parts held same did =
    subst (λ (s : Stop). Did exposed capacity line state files done (Err s) old new parts held) (sym same) did

end_alike : (A B : Type 0) (stop : Stop) → end_of {A = A} (Err stop) ≡ end_of {A = B} (Err stop)
end_alike A B (stops.Refused cause) = refl
end_alike A B (stops.Ended end) = refl

pub same_stop_faults : {A : Type 0} (found : Result A Stop) (stop : Stop) (result : Result (Unit {0}) Stop) (old new : Moment) → found ≡ Err stop → IsErrAnd result (λ other. other ≡ stop) →
    HasFaults (end_of found) old new → HasFaults (end_of result) old new
same_stop_faults found stop (Ok value) old new is same faults = absurd same
same_stop_faults {A} found stop (Err other) old new is same faults =
    subst (λ (s : Stop). HasFaults (end_of {A = Unit {0}} (Err s)) old new) (sym same)
    (subst (λ (r : Result (Unit {0}) End). HasFaults r old new) (end_alike A (Unit {0}) stop) (subst (λ (r : Result A Stop). HasFaults (end_of r) old new) is faults))

-- what a command did is what its line did, unless a text is still to be put
pub done_does : (exposed : Bool) (capacity : ℕ) (state : RunState) (files : Files) (done : Effect) (old new : Moment) (parts : Parts IntOp) (held : Held) → IsDone exposed capacity state files done old new parts held → Does exposed capacity state files done (Ok tt) old new parts held
done_does exposed capacity state files done old new parts held is = record { carried = is.carried; next = is.next; names = is.names }

pub ended_does : (exposed : Bool) (capacity line : ℕ) (state : RunState) (files : Files) (done : Effect) (stop : Stop) (end : End) (old new : Moment) (parts : Parts IntOp) (held : Held) → stop ≡ stops.Ended end →
    Did exposed capacity line state files done (Err stop) old new parts held → Does exposed capacity state files done (Err end) old new parts held
ended_does exposed capacity line state files done stop end old new parts held is did =
    let ended : IsEnded exposed capacity state done end old new = subst (λ (s : Stop). Did exposed capacity line state files done (Err s) old new parts held) is did in
    record { carried = ended.carried; next = tt; names = tt }

pub refused_at : (exposed : Bool) (capacity line : ℕ) (state : RunState) (files : Files) (done : Effect) (stop : Stop) (cause : Cause) (old new : Moment) (parts : Parts IntOp) (held : Held) → stop ≡ stops.Refused cause →
    Did exposed capacity line state files done (Err stop) old new parts held → IsRefused line state done cause old new
refused_at exposed capacity line state files done stop cause old new parts held is did = subst (λ (s : Stop). Did exposed capacity line state files done (Err s) old new parts held) is did
