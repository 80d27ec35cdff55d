-- Laws of lines.
use Rattle.std.proofs.Common.{◌≡◌, ◌<◌, ◌≤◌, ◌+◌, ◌-◌, ℕ, Bool, true, false, cond, not, List, [], ◌∷◌, ◌++◌, Some, None, length, take, drop, get_or, ltb, eqb, refl, ap, ◌∙◌, arith}
use Rattle.std.specs.List.{All, list_all, slice_split, position, position_or_len}
use Rattle.std.specs.Str.Lines.{lines_of_parts, strip_carriage_return}
use Rattle.std.proofs.lemmas.Bool.Decides.{nat_tests}
use Rattle.std.proofs.lemmas.Bool.{ltb-false}
use Rattle.std.proofs.lemmas.List.{take_rest, drop-drop}
use Rattle.std.proofs.lemmas.List.Splits.{slice_split_at, slice_split_first, slice_split_none, length-slice_split}
use Rattle.std.proofs.lemmas.List.Sums.{AllPass-from_list_all, fails_before_first}
use Rattle.script_words.specs.Lines.{lines_of, text_of, is_line, is_text, is_text_byte}
use Rattle.script_words.proofs.Passing.{not_passed, and_first, and_second, and_both, list_all-other}

-- a line feed
abbrev pub is_feed : ℕ → Bool
is_feed byte = eqb byte 10

first_of_parts : (line : List ℕ) (parts : List (List ℕ)) → 0 < length parts → lines_of_parts (line ∷ parts) ≡ strip_carriage_return line ∷ lines_of_parts parts
first_of_parts line [] h = absurd (omega arith)
first_of_parts line (part ∷ parts) h = refl

found_below : (index len feed : ℕ) (below : Bool) → ltb index len ≡ below → cond below (Some index) None ≡ Some feed → (index < len) × (index ≡ feed)
found_below index len feed true test found = (grind (arith, nat_tests), cc)
found_below index len feed false test found = absurd (cc)

not_below : (index len : ℕ) (below : Bool) → ltb index len ≡ below → cond below (Some index) None ≡ None → ltb index len ≡ false
not_below index len true test none = absurd (cc)
not_below index len false test none = test

-- the first line ends at the first line feed
pub lines_of_feed : (text : List ℕ) (feed : ℕ) → position is_feed text ≡ Some feed →
    lines_of text ≡ strip_carriage_return (take feed text) ∷ lines_of (drop (feed + 1) text)
unfolding lines_of
lines_of_feed text feed found =
    let index = found_below (position_or_len is_feed text) (length text) feed _ refl found in
    let parts : slice_split is_feed text ≡ take feed text ∷ slice_split is_feed (drop (feed + 1) text) =
    rw index.1 at (slice_split_first is_feed text 0 index.0) in
    ap lines_of_parts parts
    ∙ first_of_parts (take feed text) (slice_split is_feed (drop (feed + 1) text)) (omega (arith, length-slice_split is_feed (drop (feed + 1) text)))

-- a text without a line feed is one line
pub lines_of_one : (text : List ℕ) → eqb (length text) 0 ≡ false → position is_feed text ≡ None → lines_of text ≡ text ∷ []
unfolding lines_of
lines_of_one text some none =
    let far : length text ≤ position_or_len is_feed text = ltb-false _ _ (not_below (position_or_len is_feed text) (length text) _ refl none) in
    ap lines_of_parts (slice_split_none is_feed text (λ k d below. fails_before_first is_feed text k d (omega arith)))
    ∙ rw some refl

pub lines_of_empty : lines_of [] ≡ []
unfolding lines_of
lines_of_empty = refl

-- a line before a line feed is read as it is
pub lines_of-append : (line rest : List ℕ) → is_line line ≡ true → lines_of (line ++ 10 ∷ rest) ≡ line ∷ lines_of rest
unfolding lines_of
lines_of-append line rest h =
    let feeds : All (λ (byte : ℕ). is_feed byte ≡ false) line =
    λ k d below. not_passed _ (AllPass-from_list_all (λ (byte : ℕ). not (eqb byte 10)) line (and_first _ _ h) k d below) in
    let parts : slice_split is_feed (line ++ 10 ∷ rest) ≡ line ∷ slice_split is_feed rest = slice_split_at is_feed line 10 rest feeds refl in
    let last : eqb (get_or line (length line - 1) 0) 13 ≡ false = not_passed _ (and_second _ _ h) in
    let same : strip_carriage_return line ≡ line = rw last refl in
    ap lines_of_parts parts
    ∙ first_of_parts line (slice_split is_feed rest) (omega (arith, length-slice_split is_feed rest))
    ∙ ap (λ (first : List ℕ). first ∷ lines_of_parts (slice_split is_feed rest)) same

pub lines_of-text_of : (lines : List (List ℕ)) → list_all is_line lines ≡ true → lines_of (text_of lines) ≡ lines
lines_of-text_of [] h = lines_of_empty
lines_of-text_of (line ∷ lines) h =
    lines_of-append line (text_of lines) (and_first _ _ h)
    ∙ ap (λ (after : List (List ℕ)). line ∷ after) (lines_of-text_of lines (and_second _ _ h))

no_feed : (byte : ℕ) → is_text_byte byte ≡ true → not (eqb byte 10) ≡ true
no_feed byte h = grind (arith, nat_tests)

no_return : (byte : ℕ) → is_text_byte byte ≡ true → not (eqb byte 13) ≡ true
no_return byte h = grind (arith, nat_tests)

last_no_return : (line : List ℕ) → is_text line ≡ true → not (eqb (get_or line (length line - 1) 0) 13) ≡ true
last_no_return [] h = refl
last_no_return (byte ∷ bytes) h =
    no_return _ (AllPass-from_list_all is_text_byte (byte ∷ bytes) h (length (byte ∷ bytes) - 1) 0 (omega arith))

pub is_line-text : (line : List ℕ) → is_text line ≡ true → is_line line ≡ true
is_line-text line h = and_both _ _ (list_all-other is_text_byte _ no_feed line h) (last_no_return line h)

-- what is after the byte at a position
pub after : (text : List ℕ) (index : ℕ) → take (length (drop index text) - 1) (drop 1 (drop index text)) ≡ drop (index + 1) text
after text index = take_rest (drop index text) 1 ∙ drop-drop 1 index text
