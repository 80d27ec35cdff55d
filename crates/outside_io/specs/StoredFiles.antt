-- Files in memory, as a list of names with their bytes.
use Rattle.std.specs.Prelude.{ℕ, Bool, List, String, map, string_bytes}
use Rattle.std.specs.Global.{Vec, Global}
use Rattle.std.specs.Str.{bytes_eq}
use Rattle.std.specs.Coded.{Coded, coded_ℕ, coded_list}
use Rattle.std.specs.FinMap.{from_entries, code}
use Rattle.outside_io.specs.Files.{Files}

-- a name and the bytes of its file
abbrev pub StoredFile : Type 0
StoredFile = String Global × Vec ℕ

-- its bytes
abbrev pub bytes_of : StoredFile → List ℕ
bytes_of stored = stored.1.items

-- the same as lists of bytes
abbrev pub entry_of : StoredFile → List ℕ × List ℕ
entry_of stored = (string_bytes stored.0, bytes_of stored)

-- the files of a list, in which the earlier of two equal names counts
abbrev pub files_of : List StoredFile → Files
files_of stored = from_entries (map entry_of stored)

-- whether a file has this name
abbrev pub has_name : List ℕ → StoredFile → Bool
has_name name stored = bytes_eq name (string_bytes stored.0)

-- how the files of a shelf are known apart
abbrev pub files_code : Coded Files
files_code = code (coded_list coded_ℕ) (coded_list coded_ℕ)
