-- Names. A name is seen as its bytes.
use Rattle.std.specs.Prelude.{◌≡◌, ℕ, ◌-◌, Bool, false, IsTrue, ◌&&◌, ◌||◌, ◌==◌, nat_lt, List, [], ◌∷◌, ◌++◌, length, take, replicate}
use Rattle.std.specs.Char.{is_ascii_lowercase, is_ascii_digit}
use Rattle.std.specs.List.{list_all}

-- the largest number of bytes in a name
abbrev pub longest_name : ℕ
longest_name = 16

-- the code of `_`
abbrev pub underscore : ℕ
underscore = 95

-- a byte that a name may have after its first: `a` to `z`, `0` to `9` or `_`
abbrev pub is_name_byte : ℕ → Bool
is_name_byte byte = is_ascii_lowercase byte || is_ascii_digit byte || byte == underscore

-- a word of 1 to 16 bytes whose first is `a` to `z`, and whose others are bytes that may follow it in a name
abbrev pub is_name : List ℕ → Bool
is_name [] = false
is_name (first ∷ rest) =
    is_ascii_lowercase first && nat_lt (length rest) longest_name && list_all is_name_byte rest

-- a name with zeros after it, up to the largest length
abbrev pub padded_name : List ℕ → List ℕ
padded_name name = name ++ replicate (longest_name - length name) 0

-- an array holds a name of so many bytes, and zeros after it
pub record HoldsName (array : List ℕ) (len : ℕ) : Type 0 where
  pub name : IsTrue (is_name (take len array))
  pub whole : length (take len array) ≡ len
  pub zeros : padded_name (take len array) ≡ array
