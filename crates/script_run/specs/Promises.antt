-- What `run` promises beside `model_runs.specs.Ran`: clauses that go together, as one record.
use Rattle.std.specs.Prelude.{◌≡◌, ◌≢◌, ◌⊎◌, ℕ, List, [], Option, Some, ⊤}
use Rattle.chain_owners.specs.Counts.{Rose}
use Rattle.outside_io.specs.Files.{Files}
use Rattle.model_runs.specs.Built.{built_job}
use Rattle.model_runs.specs.Ending.{end_status}
use Rattle.model_runs.specs.Events.{Refusal}
use Rattle.model_runs.specs.MadeJob.{made_files}
use Rattle.model_runs.specs.Ran.{Faults, Ran}
use Rattle.script_run.specs.Carried.{job_blocks}

-- Nothing was touched: a shelf, a swap and a sink are as they were.
pub record AreUntouched {Shelf Swap Sink : Type 0} (shelf next_shelf : Shelf) (swap next_swap : Swap) (sink next_sink : Sink) : Type 0 where
  pub shelf_unchanged : next_shelf ≡ shelf
  pub swap_unchanged : next_swap ≡ swap
  pub sink_unchanged : next_sink ≡ sink

-- What a run leaves of a script that needs no swap, and that has this refusal, or none.
pub record RanUnswapped {Swap : Type 0} (refused : Option Refusal) (swap next_swap : Swap) (before after : Faults) (status : ℕ) : Type 0 where
  -- the swap is as it was
  pub unswapped : next_swap ≡ swap
  -- Where no count of the shelf and the sink rose the run comes to its end or to the refused line, whatever the swap is,
  -- unless memory runs out.
  pub complete : ¬ Rose before.reads after.reads → ¬ Rose before.writes after.writes → ¬ Rose before.puts after.puts →
      (status ≡ 7) ⊎ (status ≡ end_status refused)

-- What a run of the made job of a number leaves, by the text that the sink was given and its count of I/O errors.
pub record RanJob {Shelf Swap : Type 0} (number : ℕ) (shelf next_shelf : Shelf) (swap next_swap : Swap) (text next_text : Option (List ℕ)) (puts next_puts : ℕ) (status : ℕ) : Type 0 where
  -- the handed shelf and swap are as they were
  pub job_apart : (next_shelf ≡ shelf) × (next_swap ≡ swap)
  -- the job has a shelf and a swap of its own, which never fail
  pub job_statuses : (status ≢ 3) × ((status ≢ 4) × (status ≢ 5))
  -- What is left is what a run of its script leaves over that shelf, whose files nobody sees afterwards.
  pub job_ran : (left : Option Files) × Ran ⊤ (built_job number) [] job_blocks
      (record { files = Some (made_files number); text = text }) (record { files = left; text = next_text })
      (record { reads = 0; writes = 0; swaps = 0; puts = puts }) (record { reads = 0; writes = 0; swaps = 0; puts = next_puts })
      status

-- The statuses of I/O errors come only where their count rose.
pub record HasStatusCause (before after : Faults) (status : ℕ) : Type 0 where
  -- a file couldn't be read
  pub read_fault : status ≡ 3 → Rose before.reads after.reads
  -- a file couldn't be written
  pub write_fault : status ≡ 4 → Rose before.writes after.writes
  -- the swap failed
  pub swap_fault : status ≡ 5 → Rose before.swaps after.swaps
  -- a text couldn't be put
  pub output_fault : status ≡ 6 → Rose before.puts after.puts
