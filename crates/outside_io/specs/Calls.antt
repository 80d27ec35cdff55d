-- Calls of one kind, of which some fail by their numbers.
use Rattle.std.specs.Prelude.{ℕ, ◌+◌, ◌/◌, ◌==◌, Bool, List, length, take, refl, if◌then◌else◌}
use Rattle.std.specs.List.{list_any}
use Rattle.std.specs.Coded.{Coded, code_by, coded×, coded_list, coded_ℕ}
use Rattle.outside_io.specs.Faults.{raised, faults_after}

-- the numbers of the calls that fail, from 1 on, how many calls were made, and how many failed
pub record Calls : Type 0 where
  pub failing : List ℕ
  pub made : ℕ
  pub faults : ℕ

-- no call was made yet
abbrev pub no_calls : List ℕ → Calls
no_calls failing = record { failing = failing; made = 0; faults = 0 }

-- whether the next call fails
abbrev pub next_fails : Calls → Bool
next_fails calls = list_any (λ number. number == calls.made + 1) calls.failing

-- the same after the next call
abbrev pub after_call : Calls → Calls
after_call calls = record {
  failing = calls.failing;
  made = raised calls.made;
  faults = faults_after (next_fails calls) calls.faults;
}

-- what a call keeps of its bytes: all, or the first half, rounded down, where it fails
abbrev pub kept : Bool → List ℕ → List ℕ
kept fails bytes = if fails then take (length bytes / 2) bytes else bytes

-- calls are stored as their fields in pairs
abbrev pub calls_code : Coded Calls
calls_code =
    code_by (List ℕ × (ℕ × ℕ)) (coded× (coded_list coded_ℕ) (coded× coded_ℕ coded_ℕ))
    (λ calls. (calls.failing, (calls.made, calls.faults)))
    (λ parts. record { failing = parts.0; made = parts.1.0; faults = parts.1.1 }) (λ _. refl)
