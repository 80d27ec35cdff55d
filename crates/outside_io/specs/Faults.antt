-- Counts of I/O errors. One stays at the last value of its type.
use Rattle.std.specs.Prelude.{ℕ, ◌+◌, ◌-◌, ◌^◌, Bool, min, if◌then◌else◌}

-- a count after one more
abbrev pub raised : ℕ → ℕ
raised count = min (count + 1) (2 ^ 64 - 1)

-- a count of I/O errors after a call that failed or didn't
abbrev pub faults_after : Bool → ℕ → ℕ
faults_after failed count = if failed then raised count else count
