-- The lines of a text.
use Rattle.std.specs.Prelude.{ℕ, ◌-◌, Bool, not, ◌&&◌, ◌||◌, ◌==◌, slice_index, length, List, [], ◌∷◌, ◌++◌}
use Rattle.std.specs.List.{list_all}
use Rattle.std.specs.Str.Lines.{lines}
use Rattle.outside_io.specs.FileName.{is_between}

-- The lines with their ends taken off. A line ends at a line feed or at the end of the text, and a carriage return
-- just before a line feed belongs to the line's end. After a line feed at the end of the text there is no line.
unfoldable pub lines_of : List ℕ → List (List ℕ)
lines_of text = lines text

-- lines, with a line feed after each
abbrev pub text_of : List (List ℕ) → List ℕ
text_of [] = []
text_of (line ∷ lines) = line ++ 10 ∷ text_of lines

-- a line that is read as it is where a line feed follows it: it has none itself, and its end is no carriage return
abbrev pub is_line : List ℕ → Bool
is_line line = list_all (λ byte. not (byte == 10)) line && not (slice_index line (length line - 1) == 13)

-- a byte that a line may have: a tab, or from the space to the tilde
abbrev pub is_text_byte : ℕ → Bool
is_text_byte byte = is_between 32 126 byte || byte == 9

abbrev pub is_text : List ℕ → Bool
is_text line = list_all is_text_byte line
