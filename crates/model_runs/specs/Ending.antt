-- How a run ends, or a part of one, and what it leaves then.
use Rattle.std.specs.Prelude.{◌≡◌, ℕ, Option, Some, None, Result, Ok, Err, ⊤}
use Rattle.model_runs.specs.Events.{Outcome, Refusal}
use Rattle.model_runs.specs.World.{World, after_all, LeavesSome}
use Rattle.model_runs.specs.declared.ending.End.{End}
use Rattle.model_runs.specs.declared.ending.End.TheVariants as ends

-- the status of a run that ended so; 1 stands for words that are not in the grammar
abbrev pub status_of : Result (Unit {0}) End → ℕ
status_of (Ok done) = 0
status_of (Err ends.Refused) = 2
status_of (Err ends.ReadFault) = 3
status_of (Err ends.WriteFault) = 4
status_of (Err ends.SwapFault) = 5
status_of (Err ends.OutputFault) = 6
status_of (Err ends.NoMemory) = 7
status_of (Err ends.SwapFull) = 8

-- how a part of a run ended, whatever it answers
abbrev pub ended : {A : Type 0} → Result A End → Result (Unit {0}) End
ended (Ok value) = Ok tt
ended (Err end) = Err end

-- the status of a run that comes to its end, or to the line that is refused
abbrev pub end_status : Option Refusal → ℕ
end_status None = 0
end_status (Some refusal) = 2

-- every event has come: at the end, and at a refusal
abbrev pub IsWhole : Result (Unit {0}) End → Type 0
IsWhole (Ok done) = ⊤
IsWhole (Err ends.Refused) = ⊤
IsWhole (Err end) = ⊥

-- the last file may be torn: after an I/O error of a write, and after running out of memory
abbrev pub MayTear : Result (Unit {0}) End → Type 0
MayTear (Err ends.WriteFault) = ⊤
MayTear (Err ends.NoMemory) = ⊤
MayTear result = ⊥

-- there is a line that is refused
abbrev pub IsRefusal : Option Refusal → Type 0
IsRefusal None = ⊥
IsRefusal (Some refusal) = ⊤

-- A part of a run says that a line is refused exactly where one is.
abbrev pub SaysRefused : Result (Unit {0}) End → Option Refusal → Type 0
SaysRefused (Ok done) refused = refused ≡ None
SaysRefused (Err ends.Refused) refused = IsRefusal refused
SaysRefused (Err end) refused = ⊤

-- what a part of a run leaves that is to have this outcome
pub record Leaves (outcome : Outcome) (result : Result (Unit {0}) End) (old new : World) : Type 0 where
  pub refused : SaysRefused result outcome.refused
  pub whole : IsWhole result → new ≡ after_all outcome.events old
  pub some : LeavesSome (MayTear result) outcome.events old new
