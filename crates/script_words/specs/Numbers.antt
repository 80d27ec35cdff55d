-- Numbers as words write them. A number is printed without needless zeros, as std's `decimal` of a natural number and
-- `signed_decimal` of an integer.
use Rattle.std.specs.Prelude.{ℕ, ℤ, pos, neg_ℤ, int_lt, int_le, ◌+◌, ◌-◌, ◌*◌, Bool, ◌&&◌, ◌==◌, nat_lt, nat_le, if◌then◌else◌, List, [], ◌∷◌, length, fold, Option, Some, None, option_and_then}
use Rattle.std.specs.Char.{is_ascii_digit}
use Rattle.std.specs.Option.{option_map}
use Rattle.std.specs.List.{list_all}

infixl 10 ◌>>=◌
abbrev pub ◌>>=◌ : {A B : Type 0} → Option A → (A → Option B) → Option B
found >>= f = option_and_then f found

-- the number of some digits, without a bound on their count
abbrev pub digits_value : List ℕ → ℕ
digits_value digits = fold (λ value digit. 10 * value + (digit - 48)) 0 digits

-- the number of 1 to 10 digits, zeros at their beginning among them
abbrev pub natural_of : List ℕ → Option ℕ
natural_of word =
    if nat_lt 0 (length word) && nat_le (length word) 10 && list_all is_ascii_digit word then Some (digits_value word) else None

-- the number that a word writes: 1 to 10 digits, after `-` only where `signed` allows it
abbrev pub integer_of : Bool → List ℕ → Option ℤ
integer_of signed [] = None
integer_of signed (byte ∷ bytes) =
    if signed && byte == 45 then option_map (λ value. neg_ℤ (pos value)) (natural_of bytes)
    else option_map pos (natural_of (byte ∷ bytes))

-- a number, where it is in a range
abbrev pub between : ℕ → ℕ → ℕ → Option ℕ
between low high value = if nat_le low value && nat_le value high then Some value else None

abbrev pub integer_between : ℤ → ℤ → ℤ → Option ℤ
integer_between low high value = if int_le low value && int_le value high then Some value else None

-- a number from `low` to `high`, as a word writes it
unfoldable pub natural_in : ℕ → ℕ → List ℕ → Option ℕ
natural_in low high word = natural_of word >>= between low high

-- An integer from `low` to `high`, as a word writes it. A `-` may precede the digits where an integer of the range is
-- below 0.
unfoldable pub integer_in : ℤ → ℤ → List ℕ → Option ℤ
integer_in low high word = integer_of (int_lt low (pos 0)) word >>= integer_between low high
