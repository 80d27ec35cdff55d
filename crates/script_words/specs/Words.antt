-- The words of a line.
use Rattle.std.specs.Prelude.{ℕ, Bool, false, not, ◌||◌, ◌==◌, filter, length, List, [], ◌∷◌, ◌++◌}
use Rattle.std.specs.List.{list_all, slice_split}
use Rattle.outside_io.specs.FileName.{is_between}

-- a space or a tab
abbrev pub is_blank : ℕ → Bool
is_blank byte = byte == 32 || byte == 9

-- the parts between blanks that are not empty
unfoldable pub words_of : List ℕ → List (List ℕ)
words_of line = filter (λ part. not (length part == 0)) (slice_split is_blank line)

-- a byte that a word of a text may have: one from `!` to the tilde
abbrev pub is_word_byte : ℕ → Bool
is_word_byte byte = is_between 33 126 byte

-- one such byte or more
abbrev pub is_word : List ℕ → Bool
is_word [] = false
is_word (byte ∷ bytes) = list_all is_word_byte (byte ∷ bytes)

-- words, with a space before each
abbrev pub spaced : List (List ℕ) → List ℕ
spaced [] = []
spaced (word ∷ words) = 32 ∷ word ++ spaced words

-- words that single spaces part
abbrev pub joined : List (List ℕ) → List ℕ
joined [] = []
joined (word ∷ words) = word ++ spaced words
