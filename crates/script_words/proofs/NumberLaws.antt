-- Laws of numbers: a printed number is read as the number.
use Rattle.std.proofs.Common.{◌≡◌, ◌<◌, ◌≤◌, ◌^◌, ◌+◌, ◌-◌, ◌*◌, ℕ, suc, ℤ, pos, negsuc, neg_ℤ, Bool, true, false, List, [], ◌∷◌, Option, Some, length, eqb, leb, ltb, refl, ap, ◌∙◌, arith, rules}
use Rattle.std.specs.Prelude.{◌≤ℤ◌, int_lt, int_le, unsigned_abs, fold}
use Rattle.std.specs.Char.{is_ascii_digit}
use Rattle.std.specs.Fmt.{decimal, signed_decimal}
use Rattle.std.specs.Option.{option_map}
use Rattle.std.specs.List.{list_all}
use Rattle.std.proofs.lemmas.Bool.{lt-ltb, le-leb}
use Rattle.std.proofs.lemmas.Bool.Decides.{nat_tests}
use Rattle.std.proofs.lemmas.Fmt.{digits_decimal, digits_value-decimal, decimal_nonempty, length-decimal-le}
use Rattle.std.proofs.lemmas.Int.{ints}
use Rattle.std.proofs.lemmas.Str.Parse.{IsNumeralModel, numerals_by_fold}
use Rattle.script_words.specs.Numbers.{digits_value, natural_of, natural_in, integer_of, between, integer_in, integer_between, ◌>>=◌}
use Rattle.script_words.specs.Words.{is_word, is_word_byte}
use Rattle.script_words.proofs.Passing.{and_first, list_all-other}
use Rattle.script_words.proofs.WordLaws.{is_word_from}

digits : IsNumeralModel (λ (ds : List ℕ). list_all is_ascii_digit ds ≡ true) digits_value
digits = numerals_by_fold _ (search rules) (λ (n : ℕ) (ds : List ℕ). fold (λ (value digit : ℕ). 10 * value + (digit - 48)) n ds) (search rules)

are_digits : (n : ℕ) → n < 10 ^ 10 → list_all is_ascii_digit (decimal n) ≡ true
are_digits n h = digits_decimal digits n (omega arith)

pub length-decimal : (n : ℕ) → n < 10 ^ 10 → length (decimal n) ≤ 10
length-decimal n h = length-decimal-le 10 n (omega arith) h (omega arith)

pub natural_of-decimal : (n : ℕ) → n < 10 ^ 10 → natural_of (decimal n) ≡ Some n
natural_of-decimal n h =
    let some : ltb 0 (length (decimal n)) ≡ true = lt-ltb _ _ (decimal_nonempty n (omega arith)) in
    let few : leb (length (decimal n)) 10 ≡ true = le-leb _ _ (length-decimal n h) in
    simp (some, few, are_digits n h, digits_value-decimal digits n (omega arith))

pub natural_in-decimal : (low high n : ℕ) → low ≤ n → n ≤ high → n < 10 ^ 10 → natural_in low high (decimal n) ≡ Some n
unfolding natural_in
natural_in-decimal low high n above below h =
    ap (λ (found : Option ℕ). found >>= between low high) (natural_of-decimal n h)
    ∙ simp (le-leb low n above, le-leb n high below)

no_minus : (byte : ℕ) → is_ascii_digit byte ≡ true → eqb byte 45 ≡ false
no_minus byte h = grind (arith, nat_tests)

-- digits are read as they are where a `-` may precede them
integer_of-digits : (signed : Bool) (word : List ℕ) → list_all is_ascii_digit word ≡ true → integer_of signed word ≡ option_map pos (natural_of word)
integer_of-digits signed [] h = refl
integer_of-digits false (byte ∷ bytes) h = refl
integer_of-digits true (byte ∷ bytes) h =
    let other : eqb byte 45 ≡ false = no_minus byte (and_first _ _ h) in rw other refl

in_between : (low high z : ℤ) → low ≤ℤ z → z ≤ℤ high → integer_between low high z ≡ Some z
in_between low high z above below =
    let from_low : int_le low z ≡ true = grind (arith, ints) in
    let to_high : int_le z high ≡ true = grind (arith, ints) in
    rw (from_low, to_high) refl

below_zero : (low : ℤ) (n : ℕ) → low ≤ℤ negsuc n → int_lt low (pos 0) ≡ true
below_zero (pos m) n h = absurd (omega (arith, ints))
below_zero (negsuc m) n h = refl

pub integer_in-signed_decimal : (low high z : ℤ) → low ≤ℤ z → z ≤ℤ high → unsigned_abs z < 10 ^ 10 → integer_in low high (signed_decimal z) ≡ Some z
unfolding integer_in
integer_in-signed_decimal low high (pos n) above below h =
    ap (λ (found : Option ℤ). found >>= integer_between low high)
    (integer_of-digits (int_lt low (pos 0)) (decimal n) (are_digits n h) ∙ ap (option_map pos) (natural_of-decimal n h))
    ∙ in_between low high (pos n) above below
integer_in-signed_decimal low high (negsuc n) above below h =
    ap (λ (signed : Bool). integer_of signed (45 ∷ decimal (suc n)) >>= integer_between low high) (below_zero low n above)
    ∙ ap (λ (found : Option ℕ). option_map (λ (value : ℕ). neg_ℤ (pos value)) found >>= integer_between low high) (natural_of-decimal (suc n) h)
    ∙ in_between low high (negsuc n) above below

word_digit : (byte : ℕ) → is_ascii_digit byte ≡ true → is_word_byte byte ≡ true
word_digit byte h = grind (arith, nat_tests)

word_digits : (n : ℕ) → n < 10 ^ 10 → list_all is_word_byte (decimal n) ≡ true
word_digits n h = list_all-other is_ascii_digit is_word_byte word_digit (decimal n) (are_digits n h)

pub is_word-decimal : (n : ℕ) → n < 10 ^ 10 → is_word (decimal n) ≡ true
is_word-decimal n h = is_word_from (decimal n) (decimal_nonempty n (omega arith)) (word_digits n h)

pub is_word-signed_decimal : (z : ℤ) → unsigned_abs z < 10 ^ 10 → is_word (signed_decimal z) ≡ true
is_word-signed_decimal (pos n) h = is_word-decimal n h
is_word-signed_decimal (negsuc n) h = word_digits (suc n) h

pub length-signed_decimal : (z : ℤ) → unsigned_abs z < 10 ^ 10 → length (signed_decimal z) ≤ 11
length-signed_decimal (pos n) h = omega (arith, length-decimal n h)
length-signed_decimal (negsuc n) h = omega (arith, length-decimal (suc n) h)
