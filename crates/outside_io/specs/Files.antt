-- Files by their names. A name and a file are lists of bytes.
use Rattle.std.specs.Prelude.{ℕ, List, Option}
use Rattle.std.specs.Ordering.{nat_cmp}
use Rattle.std.specs.Cmp.Lexicographic.{slice_cmp}
use Rattle.std.specs.FinMap.{FinMap, get, insert}

abbrev pub Files : Type 0
Files = FinMap (slice_cmp nat_cmp) (List ℕ)

-- the bytes of the file of a name
abbrev pub file : Files → List ℕ → Option (List ℕ)
file files name = get files name

-- the files, with exactly these bytes under a name
abbrev pub filed : Files → List ℕ → List ℕ → Files
filed files name bytes = insert files name bytes
