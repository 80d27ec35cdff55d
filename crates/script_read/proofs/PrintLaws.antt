-- Printing one line after another.
use Rattle.std.proofs.Common.{◌≡◌, ℕ, zero, suc, ◌+◌, ◌-◌, ◌≤◌, List, [], ◌∷◌, ◌++◌, Option, Result, Ok, Err, replicate, refl, sym, ap, ◌∙◌, append_assoc}
use Rattle.script_words.specs.Lines.{text_of}
use Rattle.script_words.specs.Words.{joined, spaced}
use Rattle.script_fields.proofs.PrintLaws.{spaced_put}
use Rattle.script_read.specs.IsScript.{MayFollow, MayContinue}
use Rattle.script_read.specs.Script.{open_after}
use Rattle.pixel_formats.specs.Limits.{max_lines}
use Rattle.script_read.specs.Spelling.{HasValidFields, lines_printed, printed, command_words}
use Rattle.script_fields.specs.declared.cause.ScriptCause.{ScriptCause}
use Rattle.script_read.specs.declared.command.Line.{Line}

-- the commands of lines keep the types of their fields
abbrev pub AreTyped : List Line → Type 0
AreTyped [] = Unit {0}
AreTyped (line ∷ lines) = HasValidFields line.command × AreTyped lines

-- the numbers of lines rise, from a number on
abbrev pub Rises : ℕ → List Line → Type 0
Rises next [] = Unit {0}
Rises next (line ∷ lines) = (next ≤ line.number) × (line.number ≤ max_lines) × Rises (line.number + 1) lines

Rises-remaining : (next : ℕ) (lines : List Line) (watching : Result (Option ℕ) ScriptCause) →
    ((after : Option ℕ) → MayFollow next after lines → Rises next lines) → MayContinue watching (λ (after : Option ℕ). MayFollow next after lines) → Rises next lines
Rises-remaining next lines (Ok after) rise follows = rise after follows
Rises-remaining next lines (Err cause) rise follows = absurd follows

pub Rises-script : (next : ℕ) (watching : Option ℕ) (lines : List Line) → MayFollow next watching lines → Rises next lines
Rises-script next watching [] follows = tt
Rises-script next watching (line ∷ lines) follows = (
  follows.0,
  follows.1,
  Rises-remaining (line.number + 1) lines (open_after line.number watching line.command) (λ (after : Option ℕ). Rises-script (line.number + 1) after lines) follows.3,
)

-- empty lines are line feeds
text_of-feeds : (count : ℕ) (lines : List (List ℕ)) → text_of (replicate count [] ++ lines) ≡ replicate count 10 ++ text_of lines
text_of-feeds zero lines = refl
text_of-feeds (suc count) lines = ap (λ (rest : List ℕ). 10 ∷ rest) (text_of-feeds count lines)

-- a line before those after it
pub prints_on : (prefix : List ℕ) (next : ℕ) (line : Line) (lines : List Line) →
    prefix ++ text_of (lines_printed next (line ∷ lines))
    ≡ (((prefix ++ replicate (line.number - next) 10) ++ joined (command_words line.command)) ++ 10 ∷ []) ++ text_of (lines_printed (line.number + 1) lines)
unfolding lines_printed
prints_on prefix next line lines =
    let feeds = replicate (line.number - next) 10 in
    let words = joined (command_words line.command) in
    let remaining = text_of (lines_printed (line.number + 1) lines) in
    ap (λ (text : List ℕ). prefix ++ text) (text_of-feeds (line.number - next) (words ∷ lines_printed (line.number + 1) lines))
    ∙ sym (append_assoc prefix feeds (words ++ 10 ∷ remaining))
    ∙ sym (append_assoc (prefix ++ feeds) words (10 ∷ remaining))
    ∙ sym (append_assoc ((prefix ++ feeds) ++ words) (10 ∷ []) remaining)

pub prints_all : (lines : List Line) → text_of (lines_printed 1 lines) ≡ printed lines
unfolding printed
prints_all lines = refl

pub prints_nothing : (next : ℕ) → text_of (lines_printed next []) ≡ []
unfolding lines_printed
prints_nothing next = refl

-- the words of a command after a text
pub command_put : (text word : List ℕ) (fields lists : List (List ℕ)) →
    ((text ++ word) ++ spaced fields) ++ spaced lists ≡ text ++ joined (word ∷ fields ++ lists)
command_put text word fields lists = spaced_put (text ++ word) fields lists ∙ append_assoc text word (spaced (fields ++ lists))
