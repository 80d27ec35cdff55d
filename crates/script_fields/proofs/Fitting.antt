-- The words of kinds are words of a text, and short.
use Rattle.std.proofs.Common.{◌≡◌, ℕ, ℤ, suc, ◌+◌, ◌*◌, ◌^◌, ◌<◌, ◌≤◌, nat_lt, nat_le, unsigned_abs, IsTrue, List, [], ◌∷◌, ◌++◌, Bool, true, false, ◌&&◌, decimal, length, sum_by, refl, arith}
use Rattle.std.specs.Char.{is_ascii_lowercase}
use Rattle.std.specs.Fmt.{signed_decimal}
use Rattle.std.specs.List.{list_all}
use Rattle.std.proofs.lemmas.Bool.{leb-true}
use Rattle.std.proofs.lemmas.List.Sums.{sum_by-cons}
use Rattle.outside_io.specs.FileName as files
use Rattle.plane_rect.specs.Name as names
use Rattle.pixel_formats.specs.declared.abyss.Abyss.{Abyss}
use Rattle.pixel_formats.specs.declared.abyss.Abyss.TheVariants as policies
use Rattle.pixel_formats.specs.Format.{word}
use Rattle.pixel_formats.specs.declared.format.Format.{Format}
use Rattle.pixel_formats.specs.declared.format.Format.TheVariants.{Y8}
use Rattle.script_words.specs.Words.{is_word}
use Rattle.script_words.proofs.Passing.{and_second, and_both, and_first}
use Rattle.script_words.proofs.NumberLaws.{is_word-decimal, is_word-signed_decimal, length-decimal, length-signed_decimal}
use Rattle.script_words.proofs.WordLaws.{is_word-file_name, is_word-name}
use Rattle.script_fields.proofs.Values.{Value, Values, is_small, sideways_word, word_with, words_with}
use Rattle.script_fields.proofs.ValuesBack.{small-integer, small-natural}
use Rattle.pixel_formats.specs.Policies.{policy_word}
use Rattle.script_fields.specs.declared.kind.Kind.{Kind}
use Rattle.script_fields.specs.declared.kind.Kind.TheVariants as kinds

-- how many bytes words take with a space after each
abbrev pub size : List (List ℕ) → ℕ
size words = sum_by (λ (word : List ℕ). length word + 1) words

-- words of a text that take at most so many bytes
abbrev pub Fits : List (List ℕ) → ℕ → Type 0
Fits words limit = (list_all is_word words ≡ true) × (size words ≤ limit)

pub size-cons : (word : List ℕ) (words : List (List ℕ)) → size (word ∷ words) ≡ (length word + 1) + size words
size-cons word words = sum_by-cons (λ (w : List ℕ). length w + 1) word words

pub fits_weaker : (words : List (List ℕ)) (limit more : ℕ) → limit ≤ more → Fits words limit → Fits words more
fits_weaker words limit more less fits =
    let short : size words ≤ limit = fits.1 in
    (fits.0, omega arith)

fits_cons : (word : List ℕ) (words : List (List ℕ)) (limit others : ℕ) → is_word word ≡ true → length word + 1 ≤ limit → Fits words others → Fits (word ∷ words) (limit + others)
fits_cons word words limit others is short fits =
    let rest : size words ≤ others = fits.1 in
    (and_both (is_word word) (list_all is_word words) is fits.0, omega (arith, size-cons word words))

fits_none : Fits [] 0
fits_none = (refl, omega arith)

fits_one : (word : List ℕ) (limit : ℕ) → is_word word ≡ true → length word + 1 ≤ limit → Fits (word ∷ []) limit
fits_one word limit is short = fits_weaker (word ∷ []) (limit + 0) limit (omega arith) (fits_cons word [] limit 0 is short fits_none)

pub fits_append : (prefix back : List (List ℕ)) (m n : ℕ) → Fits prefix m → Fits back n → Fits (prefix ++ back) (m + n)
fits_append [] back m n first second = fits_weaker back n (m + n) (omega arith) second
fits_append (word ∷ prefix) back m n first second =
    let whole : (length word + 1) + size prefix ≤ m = rw size-cons at first.1 in
    let rest : Fits (prefix ++ back) (size prefix + n) = fits_append prefix back (size prefix) n (and_second (is_word word) (list_all is_word prefix) first.0, omega arith) second in
    fits_weaker (word ∷ prefix ++ back) ((length word + 1) + (size prefix + n)) (m + n) (omega arith)
    (fits_cons word (prefix ++ back) (length word + 1) (size prefix + n) (and_first (is_word word) (list_all is_word prefix) first.0) (omega arith) rest)

-- ---- fields

short-name : (name : List ℕ) → names.is_name name ≡ true → length name ≤ 16
short-name [] is = absurd (cc)
short-name (first ∷ rest) is =
    let short : length rest < 16 = leb-true (suc (length rest)) 16 (and_second (is_ascii_lowercase first) (nat_lt (length rest) 16) (and_first (is_ascii_lowercase first && nat_lt (length rest) 16) (list_all names.is_name_byte rest) is)) in
    omega arith

short-file : (name : List ℕ) → files.is_file_name name ≡ true → length name ≤ 64
short-file [] is = absurd (cc)
short-file (byte ∷ bytes) is =
    let short : length bytes ≤ 63 = leb-true (length bytes) 63 (and_second (files.may_begin byte) (nat_le (length bytes) 63) (and_first (files.may_begin byte && nat_le (length bytes) 63) (list_all files.is_name_byte (byte ∷ bytes)) is)) in
    omega arith

format_fits : (format : Format) → Fits (word format ∷ []) 65
format_fits Y8 = (refl, omega arith)
format_fits _ = (refl, omega arith)

policy_fits : (policy : Abyss) → Fits (policy_word policy ∷ []) 65
policy_fits policies.None = (refl, omega arith)
policy_fits policies.Clamp = (refl, omega arith)
policy_fits policies.Loop = (refl, omega arith)
policy_fits policies.Black = (refl, omega arith)
policy_fits policies.White = (refl, omega arith)

natural_fits : (value : ℕ) → value < 10 ^ 10 → Fits (decimal value ∷ []) 11
natural_fits value small =
    let short : length (decimal value) ≤ 10 = length-decimal value small in
    fits_one (decimal value) 11 (is_word-decimal value small) (omega arith)

integer_fits : (value : ℤ) → unsigned_abs value < 10 ^ 10 → Fits (signed_decimal value ∷ []) 12
integer_fits value small =
    let short : length (signed_decimal value) ≤ 11 = length-signed_decimal value small in
    fits_one (signed_decimal value) 12 (is_word-signed_decimal value small) (omega arith)

-- the word of an operation is one of a text, and short; what other kinds hold always is
abbrev pub IsShort : (kind : Kind) → Value kind → Type 0
IsShort kinds.Operation value = Fits (value ∷ []) 65
IsShort kind value = Unit {0}

abbrev pub AreShort : (all : List Kind) → Values all → Type 0
AreShort [] values = Unit {0}
AreShort (kind ∷ others) values = IsShort kind values.0 × AreShort others values.1

direction_fits : (sideways : Bool) → Fits (sideways_word sideways ∷ []) 65
direction_fits true = (refl, omega arith)
direction_fits false = (refl, omega arith)

name_fits : (name : List ℕ) → names.is_name name ≡ true → Fits (name ∷ []) 65
name_fits name is =
    let short : length name ≤ 16 = short-name name is in
    fits_one name 65 (is_word-name name is) (omega arith)

file_fits : (name : List ℕ) → files.is_file_name name ≡ true → Fits (name ∷ []) 65
file_fits name is =
    let short : length name ≤ 64 = short-file name is in
    fits_one name 65 (is_word-file_name name is) (omega arith)

word_fits : (kind : Kind) (value : Value kind) → IsTrue (is_small kind) → IsShort kind value → Fits (word_with kind value ∷ []) 65
word_fits kinds.Name value small short = name_fits value.0 value.1
word_fits kinds.File value small short = file_fits value.0 value.1
word_fits kinds.Prefix value small short = file_fits value.0 value.1
word_fits kinds.Format value small short = format_fits value
word_fits kinds.Policy value small short = policy_fits value
word_fits kinds.AreaPolicy value small short = policy_fits value.0
word_fits kinds.Direction value small short = direction_fits value
word_fits kinds.Operation value small short = short
word_fits (kinds.Natural low high) value small short =
    fits_weaker (decimal value.0 ∷ []) 11 65 (omega arith) (natural_fits value.0 (small-natural low high value.0 small value.2))
word_fits (kinds.Integer low high) value small short =
    fits_weaker (signed_decimal value.0 ∷ []) 12 65 (omega arith) (integer_fits value.0 (small-integer low high value.0 small value.1 value.2))

pub words_fit : (all : List Kind) (values : Values all) → list_all is_small all ≡ true → AreShort all values → Fits (words_with all values) (65 * length all)
words_fit [] values small short = (refl, omega arith)
words_fit (kind ∷ others) values small short =
    fits_weaker (words_with (kind ∷ others) values) (65 + 65 * length others) (65 * length (kind ∷ others)) (omega arith)
    (fits_append (word_with kind values.0 ∷ []) (words_with others values.1) 65 (65 * length others) (word_fits kind values.0 (and_first _ _ small) short.0)
    (words_fit others values.1 (and_second (is_small kind) _ small) short.1))
