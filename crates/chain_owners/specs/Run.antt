-- Runs of blocks beside one another.
use Rattle.std.specs.Prelude.{ℕ, ◌+◌, ◌/◌, ◌≤◌, List, [], ◌∷◌, ⊤, max}
use Rattle.chain_owners.specs.declared.run.Run.{Run}

-- how many blocks so many bytes take
abbrev pub blocks_for : ℕ → ℕ
blocks_for len = (len + 4095) / 4096

-- The runs are in order, from block `low` on and before block `end`. None is empty, and between any
-- two of them is a block that is in none: neighbors are one run.
abbrev pub IsRunList : ℕ → ℕ → List Run → Type 0
IsRunList low end [] = ⊤
IsRunList low end (run ∷ runs) =
    (low ≤ run.first) × (1 ≤ run.count) × (run.first + run.count ≤ end) × IsRunList (run.first + run.count + 1) end runs

-- how many blocks the longest run has; 0 where there is none
abbrev pub longest : List Run → ℕ
longest [] = 0
longest (run ∷ runs) = max run.count (longest runs)
