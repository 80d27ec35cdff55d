-- What is left of the command of a line.
use Rattle.std.proofs.Common.{◌≡◌, ℕ, Result, refl, sym, subst}
use Rattle.commit_session.specs.Parts.{Parts}
use Rattle.commit_session.specs.Seen.{IsOver}
use Rattle.model_operations.specs.Meanings.{int_meanings, same_operation}
use Rattle.model_operations.specs.declared.operation.IntOp.{IntOp}
use Rattle.model_runs.specs.Effects.{effect}
use Rattle.model_runs.specs.State.{Effect, RunState}
use Rattle.run_lines.specs.Stops.{CarriesCommand, CarriesInSession, CarriesOutCommand, RunPoint}
use Rattle.run_lines.specs.declared.stop.Stop.{Stop}
use Rattle.script_read.specs.declared.command.Command.{Command}
use Rattle.script_read.specs.declared.command.Line.{Line}

-- what is left of a command is left of the line that has it
pub line_carried : (line : Line) (command : Command) (result : Result (Unit {0}) Stop) (old new : RunPoint) → line.command ≡ command →
    CarriesCommand line.number (λ capacity state files. effect capacity state files line.number command) result old new → CarriesOutCommand line result old new
line_carried line command result old new is carried =
    subst (λ (c : Command). CarriesCommand line.number (λ capacity state files. effect capacity state files line.number c) result old new) (sym is) carried

-- a command that touches the session alone leaves the chain and the devices as they are
pub session_carried : (done : ℕ → RunState → Effect) (result : Result (Unit {0}) Stop) (line : ℕ) (old : RunPoint) (new : Parts IntOp) → IsOver same_operation int_meanings old.parts old.held →
    CarriesInSession done result old.parts new → CarriesCommand line (λ capacity state files. done line state) result old (record old { parts = new })
session_carried done result line old new over carried = record {
  did = λ exposed capacity state files holds. carried.did line old.moment old.held exposed capacity state files holds;
  faults = carried.faults old.moment;
  over = carried.over old.held over;
  loans = refl;
  valid = λ valid. valid;
}
