-- How many bytes a sample of each depth has.
use Rattle.std.specs.Prelude.{ℕ}
use Rattle.sample_rows.specs.declared.depths.Depth.{Depth}
use Rattle.sample_rows.specs.declared.depths.Depth.TheVariants.{Byte, Word, Long}

abbrev pub bytes_of : Depth → ℕ
bytes_of Byte = 1
bytes_of Word = 2
bytes_of Long = 4
