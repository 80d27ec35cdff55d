-- Rasters of files, and the parts by which they are read.
use Rattle.std.specs.Prelude.{◌≡◌, ◌≢◌, ◌⊎◌, ℕ, ◌+◌, ◌≤◌, Bool, IsTrue, List, drop, length, take, Option, Some, None, Result, Ok, Err}
use Rattle.model_graphs.specs.declared.buffer.BufferFact.{BufferFact}
use Rattle.model_runs.specs.declared.ending.End.TheVariants as ends
use Rattle.pixel_formats.specs.declared.format.Format.{Format}
use Rattle.plane_rect.specs.Rectangle.{Rectangle, includes}
use Rattle.run_lines.specs.declared.stop.Stop.{Stop}
use Rattle.run_lines.specs.declared.stop.Stop.TheVariants as stops
use Rattle.model_runs.specs.declared.cause.Cause.{Cause}
use Rattle.model_runs.specs.declared.cause.Cause.TheVariants as causes

-- A buffer is known to have a rectangle, and a format.
pub record IsTarget (r : Rectangle) (format : Format) (fact : BufferFact) : Type 0 where
  pub inside : IsTrue (includes fact.bounds r)
  pub same : fact.format ≡ format

-- ---- files that are no rasters

-- there is no such file, or it hasn't so many bytes
abbrev pub IsNoRaster : Option (List ℕ) → ℕ → Cause → Type 0
IsNoRaster found wanted cause =
    ((cause ≡ causes.Absent) × (found ≡ None))
    ⊎ ((cause ≡ causes.WrongSize) × ((bytes : List ℕ) × (found ≡ Some bytes) × (length bytes ≢ wanted)))

-- Why the raster of so many bytes can't be read from what is found under its name.
abbrev pub IsUnread : Option (List ℕ) → ℕ → Stop → Type 0
IsUnread found wanted (stops.Refused cause) = IsNoRaster found wanted cause
IsUnread found wanted (stops.Ended end) = (end ≡ ends.ReadFault) ⊎ (end ≡ ends.NoMemory)

-- ---- parts of rasters

-- A part of a raster has so many bytes after so many others, and may be the last one. A part has bytes if the raster does.
pub record IsPart (start count : ℕ) (last : Bool) (wanted : ℕ) : Type 0 where
  pub within : start + count ≤ wanted
  pub ends : IsTrue last → start + count ≡ wanted
  pub some : count ≡ 0 → start ≡ 0

-- These are the bytes of a part, and if it is the last one the file has as many bytes as are wanted.
pub record IsPartRead (found : Option (List ℕ)) (start count : ℕ) (last : Bool) (wanted : ℕ) (read : List ℕ) : Type 0 where
  pub bytes : List ℕ
  pub there : found ≡ Some bytes
  pub part : read ≡ take count (drop start bytes)
  pub ends : IsTrue last → length bytes ≡ wanted

-- What a read of a part answers, and what it reads.
abbrev pub Reads : Option (List ℕ) → ℕ → ℕ → Bool → ℕ → Result (Unit {0}) Stop → List ℕ → Type 0
Reads found start count last wanted (Ok done) read = IsPartRead found start count last wanted read
Reads found start count last wanted (Err stop) read = IsUnread found wanted stop
