-- What is printed is read again.
use Rattle.std.proofs.Common.{◌≡◌, ℕ, zero, suc, ◌+◌, ◌-◌, ◌≤◌, List, [], ◌∷◌, ◌++◌, true, false, Option, Some, None, Result, Ok, Err, length, replicate, refl, ap, ◌∙◌, arith}
use Rattle.std.specs.List.{list_all}
use Rattle.std.proofs.lemmas.Bool.{le-leb}
use Rattle.script_words.specs.Lines.{is_line}
use Rattle.script_words.specs.Words.{joined}
use Rattle.script_words.proofs.LineLaws.{is_line-text, lines_of-text_of}
use Rattle.script_words.proofs.Passing.{and_both}
use Rattle.script_words.proofs.WordLaws.{is_text-joined, words_of-joined}
use Rattle.script_read.proofs.CommandsBack.{are_words-of_command, command_of_words-words, short-command}
use Rattle.script_read.proofs.PrintLaws.{AreTyped}
use Rattle.script_read.proofs.ScriptLaws.{command_in-of_words}
use Rattle.script_read.specs.IsScript.{IsScript, MayFollow, MayContinue}
use Rattle.script_read.specs.Keywords.{keyword_word}
use Rattle.script_read.specs.Limits.{IsInLimits}
use Rattle.script_read.specs.Script.{Refusal, before, begins_comment, command_in, ended, from_step, open_after, script_from, script_of, spoken, step_of}
use Rattle.pixel_formats.specs.Limits.{max_line_bytes, max_lines}
use Rattle.script_read.specs.Spelling.{HasValidFields, keyword, lines_printed, printed, command_words}
use Rattle.script_fields.specs.declared.cause.ScriptCause.{ScriptCause}
use Rattle.script_read.specs.declared.command.Command.{Command}
use Rattle.script_read.specs.declared.command.Line.{Line}
use Rattle.script_read.specs.declared.keyword.Keyword.{Keyword}
use Rattle.script_read.specs.declared.keyword.Keyword.TheVariants.{Buffer}
use Rattle.script_read.specs.declared.reader.ReadLine.{ReadLine}

-- ---- empty lines

command_in-nothing : (number : ℕ) → number ≤ max_lines → command_in number [] ≡ Ok None
unfolding spoken
command_in-nothing number early =
    command_in-of_words number [] refl refl (le-leb number max_lines early) ∙ ap spoken (words_of-joined [] refl)

step_of-nothing : (number : ℕ) (watching : Option ℕ) → number ≤ max_lines → step_of number watching [] ≡ Ok (record { command = None; watching = watching })
unfolding step_of
step_of-nothing number watching early = rw (command_in-nothing number early) refl

skips : (count number : ℕ) (watching : Option ℕ) (rest : List (List ℕ)) → number + count ≤ max_lines →
    script_from number watching (replicate count [] ++ rest) ≡ script_from (number + count) watching rest
skips zero number watching rest early =
    let same : number ≡ number + 0 = omega arith in
    ap (λ (n : ℕ). script_from n watching rest) same
skips (suc count) number watching rest early =
    let same : number + 1 + count ≡ number + suc count = omega arith in
    ap (λ (read : Result ReadLine ScriptCause). from_step number read (λ (after : Option ℕ). script_from (number + 1) after (replicate count [] ++ rest)))
    (step_of-nothing number watching (omega arith))
    ∙ skips count (number + 1) watching rest (omega arith)
    ∙ ap (λ (n : ℕ). script_from n watching rest) same

-- ---- the line of a command

no_comment : (first : Keyword) → begins_comment (keyword_word first) ≡ false
no_comment Buffer = refl
no_comment _ = refl

spoken-words : (command : Command) → IsInLimits command → HasValidFields command → spoken (command_words command) ≡ Ok (Some command)
unfolding spoken
spoken-words command limits types = rw (no_comment (keyword command), command_of_words-words command limits types) refl

command_in-words : (number : ℕ) (command : Command) → number ≤ max_lines → IsInLimits command → HasValidFields command →
    command_in number (joined (command_words command)) ≡ Ok (Some command)
command_in-words number command early limits types =
    let words = are_words-of_command command limits types in
    command_in-of_words number (joined (command_words command)) (is_text-joined (command_words command) words)
    (le-leb (length (joined (command_words command))) max_line_bytes (short-command command limits types)) (le-leb number max_lines early)
    ∙ ap spoken (words_of-joined (command_words command) words)
    ∙ spoken-words command limits types

step_of-words : (number : ℕ) (watching after : Option ℕ) (command : Command) → number ≤ max_lines → IsInLimits command → HasValidFields command →
    open_after number watching command ≡ Ok after → step_of number watching (joined (command_words command)) ≡ Ok (record { command = Some command; watching = after })
unfolding step_of
step_of-words number watching after command early limits types is_opened = rw (command_in-words number command early limits types, is_opened) refl

-- ---- all lines

line_read : (line : Line) (lines : List Line) (watching : Option ℕ) (remaining : List (List ℕ)) → line.number ≤ max_lines → IsInLimits line.command → HasValidFields line.command →
    ((after : Option ℕ) → MayFollow (line.number + 1) after lines → script_from (line.number + 1) after remaining ≡ Ok lines) →
    (opened : Result (Option ℕ) ScriptCause) → open_after line.number watching line.command ≡ opened → MayContinue opened (λ (after : Option ℕ). MayFollow (line.number + 1) after lines) →
    script_from line.number watching (joined (command_words line.command) ∷ remaining) ≡ Ok (line ∷ lines)
line_read line lines watching remaining early limits types read (Ok after) is_opened follows =
    ap (λ (step : Result ReadLine ScriptCause). from_step line.number step (λ (w : Option ℕ). script_from (line.number + 1) w remaining))
    (step_of-words line.number watching after line.command early limits types is_opened)
    ∙ ap (λ (rest : Result (List Line) Refusal). before line.number (Some line.command) rest) (read after follows)
line_read line lines watching remaining early limits types read (Err cause) is_opened follows = absurd follows

lines_read : (number : ℕ) (watching : Option ℕ) (lines : List Line) → MayFollow number watching lines → AreTyped lines →
    script_from number watching (lines_printed number lines) ≡ Ok lines
unfolding lines_printed
lines_read number watching [] follows typed = ap (λ (w : Option ℕ). ended w) follows
lines_read number watching (line ∷ lines) follows typed =
    let remaining = lines_printed (line.number + 1) lines in
    let early : number ≤ line.number = follows.0 in
    let last : line.number ≤ max_lines = follows.1 in
    let there : number + (line.number - number) ≡ line.number = omega arith in
    skips (line.number - number) number watching (joined (command_words line.command) ∷ remaining) (omega arith)
    ∙ ap (λ (n : ℕ). script_from n watching (joined (command_words line.command) ∷ remaining)) there
    ∙ line_read line lines watching remaining last follows.2 typed.0 (λ (after : Option ℕ) (on : MayFollow (line.number + 1) after lines). lines_read (line.number + 1) after lines on typed.1)
    (open_after line.number watching line.command) refl follows.3

-- ---- lines of a text

all_lines-remaining : (count : ℕ) (rest : List (List ℕ)) → list_all is_line rest ≡ true → list_all is_line (replicate count [] ++ rest) ≡ true
all_lines-remaining zero rest are = are
all_lines-remaining (suc count) rest are = all_lines-remaining count rest are

is_alone : (number : ℕ) (watching : Option ℕ) (lines : List Line) (opened : Result (Option ℕ) ScriptCause) →
    ((after : Option ℕ) → MayFollow number after lines → list_all is_line (lines_printed number lines) ≡ true) → MayContinue opened (λ (after : Option ℕ). MayFollow number after lines) →
    list_all is_line (lines_printed number lines) ≡ true
is_alone number watching lines (Ok after) are follows = are after follows
is_alone number watching lines (Err cause) are follows = absurd follows

all_lines-printed : (number : ℕ) (watching : Option ℕ) (lines : List Line) → MayFollow number watching lines → AreTyped lines → list_all is_line (lines_printed number lines) ≡ true
unfolding lines_printed
all_lines-printed number watching [] follows typed = refl
all_lines-printed number watching (line ∷ lines) follows typed =
    let words = joined (command_words line.command) in
    let remaining = lines_printed (line.number + 1) lines in
    all_lines-remaining (line.number - number) (words ∷ remaining)
    (and_both (is_line words) (list_all is_line remaining)
    (is_line-text words (is_text-joined (command_words line.command) (are_words-of_command line.command follows.2 typed.0)))
    (is_alone (line.number + 1) watching lines (open_after line.number watching line.command)
    (λ (after : Option ℕ) (on : MayFollow (line.number + 1) after lines). all_lines-printed (line.number + 1) after lines on typed.1) follows.3))

pub reads_back : (lines : List Line) → IsScript lines → AreTyped lines → script_of (printed lines) ≡ Ok lines
unfolding script_of printed
reads_back lines script typed =
    ap (λ (all : List (List ℕ)). script_from 1 None all) (lines_of-text_of (lines_printed 1 lines) (all_lines-printed 1 None lines script typed))
    ∙ lines_read 1 None lines script typed
