-- The causes of a text's lines. Which watch is open at a line, only the first words of the lines before it tell.
use Rattle.std.specs.Prelude.{◌≡◌, ℕ, ◌+◌, ◌<◌, Bool, List, [], ◌∷◌, Option, Some, None, if◌then◌else◌, length, slice_index_or, take}
use Rattle.std.specs.Option.{option_map_or}
use Rattle.script_words.specs.Words.{words_of}
use Rattle.script_fields.specs.declared.cause.ScriptCause.{ScriptCause}
use Rattle.script_fields.specs.declared.cause.ScriptCause.TheVariants as causes
use Rattle.script_read.specs.Script.{is_silent}
use Rattle.script_read.specs.declared.keyword.Keyword.{Keyword}
use Rattle.script_read.specs.declared.keyword.Keyword.TheVariants as keywords
use Rattle.script_read.specs.LineCauses.{HasNone, IsLowest, keyword_in, line_has}

-- the number of the line whose watch is open after a command of a line of a number
abbrev pub open_after : ℕ → Option ℕ → Keyword → Option ℕ
open_after number watching keywords.Watch = Some number
open_after number watching keywords.EndWatch = None
open_after number watching keyword = watching

-- the same after a line
abbrev pub open_after_line : ℕ → Option ℕ → List ℕ → Option ℕ
open_after_line number watching line =
    if is_silent (words_of line) then watching
    else option_map_or (open_after number watching) (keyword_in (words_of line)) watching

-- the same after lines from a number on
abbrev pub open_after_lines : ℕ → Option ℕ → List (List ℕ) → Option ℕ
open_after_lines number watching [] = watching
open_after_lines number watching (line ∷ lines) =
    open_after_lines (number + 1) (open_after_line number watching line) lines

-- the causes of the line of an index, of lines from a number on that begin while that watch is open
abbrev pub has_from : ℕ → Option ℕ → List (List ℕ) → ℕ → ScriptCause → Bool
has_from number watching lines index =
    line_has (number + index) (open_after_lines number watching (take index lines)) (slice_index_or lines index [])

-- the line of a number is the first that has a cause, and this is the lowest of its causes
pub record IsFirst (first : ℕ) (watching : Option ℕ) (lines : List (List ℕ)) (line : ℕ) (cause : ScriptCause) : Type 0 where
  pub index : ℕ
  pub known : index < length lines
  pub number : line ≡ first + index
  pub lowest : IsLowest (has_from first watching lines index) cause
  pub earlier : (other : ℕ) → other < index → HasNone (has_from first watching lines other)

-- no line has a cause
abbrev pub HaveNone : ℕ → Option ℕ → List (List ℕ) → Type 0
HaveNone number watching lines = (index : ℕ) → index < length lines → HasNone (has_from number watching lines index)

-- no line has a cause, but a watch is open at the end, which is reported of its own line
pub record IsLeftOpen (number : ℕ) (watching : Option ℕ) (lines : List (List ℕ)) (line : ℕ) (cause : ScriptCause) : Type 0 where
  pub none : HaveNone number watching lines
  pub still_open : open_after_lines number watching lines ≡ Some line
  pub order : cause ≡ causes.Order

-- no line has a cause, and no watch is open at the end
pub record IsAccepted (number : ℕ) (watching : Option ℕ) (lines : List (List ℕ)) : Type 0 where
  pub none : HaveNone number watching lines
  pub closed : open_after_lines number watching lines ≡ None
