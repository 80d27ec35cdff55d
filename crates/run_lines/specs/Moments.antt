-- What a run sees of its devices, before and after a part of it.
use Rattle.std.specs.Prelude.{◌≡◌, ℕ, ◌≤◌, List, Option, Result, Err}
use Rattle.chain_owners.specs.Counts.{Continues, Counts, Rose}
use Rattle.outside_io.specs.Files.{Files}
use Rattle.model_runs.specs.World.{World}
use Rattle.model_runs.specs.declared.ending.End.{End}
use Rattle.model_runs.specs.declared.ending.End.TheVariants as ends

-- The files of the shelf and the text that the sink was given, each where it is reported; the counts of I/O errors of
-- both; and the counts of the chain, those of its swap among them.
pub record Moment : Type 0 where
  pub files : Option Files
  pub text : Option (List ℕ)
  pub reads : ℕ
  pub writes : ℕ
  pub puts : ℕ
  pub chain : Counts

abbrev pub world_at : Moment → World
world_at moment = record { files = moment.files; text = moment.text }

-- Each I/O error that ends a part of a run comes only where its count rose, and no count falls.
pub record HasFaults (result : Result (Unit {0}) End) (old new : Moment) : Type 0 where
  pub read : result ≡ Err ends.ReadFault → Rose old.reads new.reads
  pub write : result ≡ Err ends.WriteFault → Rose old.writes new.writes
  pub put : result ≡ Err ends.OutputFault → Rose old.puts new.puts
  pub swap : result ≡ Err ends.SwapFault → Rose old.chain.faults new.chain.faults
  pub reads : old.reads ≤ new.reads
  pub writes : old.writes ≤ new.writes
  pub puts : old.puts ≤ new.puts
  pub chain : Continues old.chain new.chain
