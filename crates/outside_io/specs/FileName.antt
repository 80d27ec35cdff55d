-- Names of files.
use Rattle.std.specs.Prelude.{ℕ, Bool, false, not, ◌||◌, ◌&&◌, ◌==◌, nat_le, List, [], ◌∷◌, length}
use Rattle.std.specs.List.{list_all}

-- from one code to another, both counted in
abbrev pub is_between : ℕ → ℕ → ℕ → Bool
is_between low high byte = nat_le low byte && nat_le byte high

-- a letter, a digit, `_`, `-` or `.`
abbrev pub is_name_byte : ℕ → Bool
is_name_byte byte =
    is_between 97 122 byte || is_between 65 90 byte || is_between 48 57 byte || byte == 95 || byte == 45 || byte == 46

-- neither `.` nor `-`
abbrev pub may_begin : ℕ → Bool
may_begin byte = not (byte == 46 || byte == 45)

-- 1 to 64 bytes of a name, of which the first may begin one
abbrev pub is_file_name : List ℕ → Bool
is_file_name [] = false
is_file_name (byte ∷ bytes) = may_begin byte && nat_le (length bytes) 63 && list_all is_name_byte (byte ∷ bytes)
