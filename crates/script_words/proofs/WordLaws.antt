-- Laws of words.
use Rattle.std.proofs.Common.{◌≡◌, ◌<◌, ◌+◌, ℕ, Bool, true, false, cond, not, List, [], ◌∷◌, ◌++◌, length, length-append, get_or, eqb, refl, ap, ◌∙◌, arith}
use Rattle.std.specs.Char.{is_ascii_lowercase}
use Rattle.std.specs.List.{All, list_all, filter, slice_split, onto_first, sum_by}
use Rattle.std.proofs.lemmas.Bool.Decides.{nat_tests}
use Rattle.std.proofs.lemmas.List.{append-nil}
use Rattle.std.proofs.lemmas.List.Folds.{list_all-append}
use Rattle.std.proofs.lemmas.List.Splits.{slice_split_at, slice_split_none}
use Rattle.std.proofs.lemmas.List.Sums.{AllPass-from_list_all, sum_by-cons}
use Rattle.plane_rect.specs.Name as names
use Rattle.outside_io.specs.FileName as files
use Rattle.script_words.specs.Lines.{is_text, is_text_byte}
use Rattle.script_words.specs.Words.{is_blank, words_of, is_word, is_word_byte, spaced, joined}
use Rattle.script_words.proofs.Passing.{not_passed, and_first, and_second, and_both, list_all-other}

no_blank : (byte : ℕ) → is_word_byte byte ≡ true → not (is_blank byte) ≡ true
no_blank byte h = grind (arith, nat_tests)

text_byte : (byte : ℕ) → is_word_byte byte ≡ true → is_text_byte byte ≡ true
text_byte byte h = grind (arith, nat_tests)

word_byte : (byte : ℕ) → is_text_byte byte ≡ true → is_blank byte ≡ false → is_word_byte byte ≡ true
word_byte byte h blank = grind (arith, nat_tests)

word_bytes : (word : List ℕ) → is_word word ≡ true → list_all is_word_byte word ≡ true
word_bytes [] h = absurd (cc)
word_bytes (byte ∷ bytes) h = h

pub is_word_from : (word : List ℕ) → 0 < length word → list_all is_word_byte word ≡ true → is_word word ≡ true
is_word_from [] some h = absurd (omega arith)
is_word_from (byte ∷ bytes) some h = h

blanks : (word : List ℕ) → is_word word ≡ true → All (λ (byte : ℕ). is_blank byte ≡ false) word
blanks word h =
    λ k d below. not_passed _ (no_blank (get_or word k d) (AllPass-from_list_all is_word_byte word (word_bytes word h) k d below))

kept_word : (word : List ℕ) → is_word word ≡ true → not (eqb (length word) 0) ≡ true
kept_word [] h = absurd (cc)
kept_word (byte ∷ bytes) h = grind (arith, nat_tests)

-- a word before a space is the first
words_of_space : (word rest : List ℕ) → is_word word ≡ true → words_of (word ++ 32 ∷ rest) ≡ word ∷ words_of rest
unfolding words_of
words_of_space word rest h =
    ap (filter (λ (part : List ℕ). not (eqb (length part) 0))) (slice_split_at is_blank word 32 rest (blanks word h) refl)
    ∙ rw (kept_word word h) refl

words_of_one : (word : List ℕ) → is_word word ≡ true → words_of word ≡ word ∷ []
unfolding words_of
words_of_one word h =
    ap (filter (λ (part : List ℕ). not (eqb (length part) 0))) (slice_split_none is_blank word (blanks word h))
    ∙ rw (kept_word word h) refl

words_of_empty : words_of [] ≡ []
unfolding words_of
words_of_empty = refl

words_of-spaced : (word : List ℕ) (words : List (List ℕ)) → is_word word ≡ true → list_all is_word words ≡ true → words_of (word ++ spaced words) ≡ word ∷ words
words_of-spaced word [] h hs = ap words_of (append-nil word) ∙ words_of_one word h
words_of-spaced word (next ∷ words) h hs =
    words_of_space word (next ++ spaced words) h
    ∙ ap (λ (after : List (List ℕ)). word ∷ after) (words_of-spaced next words (and_first _ _ hs) (and_second _ _ hs))

pub words_of-joined : (words : List (List ℕ)) → list_all is_word words ≡ true → words_of (joined words) ≡ words
words_of-joined [] h = words_of_empty
words_of-joined (word ∷ words) h = words_of-spaced word words (and_first _ _ h) (and_second _ _ h)

is_text-word : (word : List ℕ) → is_word word ≡ true → is_text word ≡ true
is_text-word word h = list_all-other is_word_byte is_text_byte text_byte word (word_bytes word h)

is_text-append : (prefix back : List ℕ) → is_text prefix ≡ true → is_text back ≡ true → is_text (prefix ++ back) ≡ true
is_text-append prefix back hf hb = list_all-append is_text_byte prefix back ∙ and_both _ _ hf hb

is_text-spaced : (words : List (List ℕ)) → list_all is_word words ≡ true → is_text (spaced words) ≡ true
is_text-spaced [] h = refl
is_text-spaced (word ∷ words) h =
    is_text-append word (spaced words) (is_text-word word (and_first _ _ h)) (is_text-spaced words (and_second _ _ h))

pub is_text-joined : (words : List (List ℕ)) → list_all is_word words ≡ true → is_text (joined words) ≡ true
is_text-joined [] h = refl
is_text-joined (word ∷ words) h =
    is_text-append word (spaced words) (is_text-word word (and_first _ _ h)) (is_text-spaced words (and_second _ _ h))

length-spaced : (words : List (List ℕ)) → length (spaced words) ≡ sum_by (λ (other : List ℕ). length other + 1) words
length-spaced [] = refl
length-spaced (word ∷ words) =
    omega (arith, length-append word (spaced words), length-spaced words, sum_by-cons (λ (other : List ℕ). length other + 1) word words)

pub length-joined : (word : List ℕ) (words : List (List ℕ)) → length (joined (word ∷ words)) ≡ length word + sum_by (λ (other : List ℕ). length other + 1) words
length-joined word words = omega (arith, length-append word (spaced words), length-spaced words)

-- the parts between blanks have only bytes of words
byte_before : (byte : ℕ) (parts : List (List ℕ)) → is_word_byte byte ≡ true → list_all (list_all is_word_byte) parts ≡ true → list_all (list_all is_word_byte) (onto_first byte parts) ≡ true
byte_before byte [] h hs = and_both _ _ (and_both _ _ h refl) refl
byte_before byte (part ∷ parts) h hs = and_both _ _ (and_both _ _ h (and_first _ _ hs)) (and_second _ _ hs)

parts_step : (byte : ℕ) (blank : Bool) (parts : List (List ℕ)) → is_text_byte byte ≡ true → is_blank byte ≡ blank → list_all (list_all is_word_byte) parts ≡ true →
    list_all (list_all is_word_byte) (cond blank ([] ∷ parts) (onto_first byte parts)) ≡ true
parts_step byte true parts h test hs = hs
parts_step byte false parts h test hs = byte_before byte parts (word_byte byte h test) hs

parts_of_text : (line : List ℕ) → is_text line ≡ true → list_all (list_all is_word_byte) (slice_split is_blank line) ≡ true
parts_of_text [] h = refl
parts_of_text (byte ∷ bytes) h =
    parts_step byte (is_blank byte) (slice_split is_blank bytes) (and_first _ _ h) refl (parts_of_text bytes (and_second _ _ h))

words_in : (parts : List (List ℕ)) → list_all (list_all is_word_byte) parts ≡ true → list_all is_word (filter (λ (part : List ℕ). not (eqb (length part) 0)) parts) ≡ true
words_in [] h = refl
words_in ([] ∷ parts) h = words_in parts h
words_in ((byte ∷ bytes) ∷ parts) h =
    let some : not (eqb (length (byte ∷ bytes)) 0) ≡ true = grind (arith, nat_tests) in
    rw some (and_both _ _ (and_first _ _ h) (words_in parts (and_second _ _ h)))

pub are_words-text : (line : List ℕ) → is_text line ≡ true → list_all is_word (words_of line) ≡ true
unfolding words_of
are_words-text line h = words_in (slice_split is_blank line) (parts_of_text line h)

-- names are words
file_name_byte : (byte : ℕ) → files.is_name_byte byte ≡ true → is_word_byte byte ≡ true
file_name_byte byte h = grind (arith, nat_tests)

pub is_word-file_name : (name : List ℕ) → files.is_file_name name ≡ true → is_word name ≡ true
is_word-file_name [] h = absurd (cc)
is_word-file_name (byte ∷ bytes) h = list_all-other files.is_name_byte is_word_byte file_name_byte (byte ∷ bytes) (and_second _ _ h)

name_byte : (byte : ℕ) → names.is_name_byte byte ≡ true → is_word_byte byte ≡ true
name_byte byte h = grind (arith, nat_tests)

first_name_byte : (byte : ℕ) → is_ascii_lowercase byte ≡ true → is_word_byte byte ≡ true
first_name_byte byte h = grind (arith, nat_tests)

pub is_word-name : (name : List ℕ) → names.is_name name ≡ true → is_word name ≡ true
is_word-name [] h = absurd (cc)
is_word-name (byte ∷ bytes) h =
    and_both _ _ (first_name_byte byte (and_first _ _ (and_first _ _ h))) (list_all-other names.is_name_byte is_word_byte name_byte bytes (and_second _ _ h))
