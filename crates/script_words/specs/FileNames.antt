-- How the bytes of a file name are stored.
use Rattle.std.specs.Prelude.{◌≡◌, ℕ, ◌-◌, IsTrue, List, ◌++◌, length, take, replicate}
use Rattle.outside_io.specs.FileName.{is_file_name}

-- a file name with zeros after it, up to the largest length
abbrev pub padded_file_name : List ℕ → List ℕ
padded_file_name name = name ++ replicate (64 - length name) 0

-- an array holds a file name of so many bytes, and zeros after it
pub record HoldsFileName (array : List ℕ) (len : ℕ) : Type 0 where
  pub name : IsTrue (is_file_name (take len array))
  pub whole : length (take len array) ≡ len
  pub zeros : padded_file_name (take len array) ≡ array
