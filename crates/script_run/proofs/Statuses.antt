-- What a status says.
use Rattle.std.proofs.Common.{◌≡◌, ◌⊎◌, Result, Ok, Err, refl, inl, inr}
use Rattle.model_runs.specs.declared.ending.End.{End}
use Rattle.model_runs.specs.declared.ending.End.TheVariants as ends
use Rattle.model_runs.specs.Ending.{MayTear, status_of}

pub may_tear_at : (ended : Result (Unit {0}) End) → MayTear ended → (status_of ended ≡ 4) ⊎ (status_of ended ≡ 7)
may_tear_at (Ok done) torn = absurd torn
may_tear_at (Err ends.Refused) torn = absurd torn
may_tear_at (Err ends.ReadFault) torn = absurd torn
may_tear_at (Err ends.WriteFault) torn = inl refl
may_tear_at (Err ends.OutputFault) torn = absurd torn
may_tear_at (Err ends.NoMemory) torn = inr refl
may_tear_at (Err ends.SwapFault) torn = absurd torn
may_tear_at (Err ends.SwapFull) torn = absurd torn
