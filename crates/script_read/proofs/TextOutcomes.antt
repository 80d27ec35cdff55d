-- A text is refused for its first line that has a cause, and for the lowest of its causes; or read.
use Rattle.std.proofs.Common.{◌≡◌, ◌⊎◌, ℕ, zero, suc, ◌+◌, ◌<◌, ◌≤◌, ◌==◌, Bool, true, false, not, if◌then◌else◌, IsTrue, List, [], ◌∷◌, take, slice_index_or, Option, Some, None, Result, Ok, Err, inl, inr, refl, sym, ap, ◌∙◌, subst, arith}
use Rattle.std.proofs.lemmas.Bool.{cases_eq}
use Rattle.script_words.specs.Lines.{lines_of}
use Rattle.script_fields.specs.declared.cause.ScriptCause.{ScriptCause}
use Rattle.script_fields.specs.declared.cause.ScriptCause.TheVariants as causes
use Rattle.script_read.specs.LineCauses.{HasNone, IsLowest, line_has, rank}
use Rattle.script_read.specs.Script.{Refusal, before, from_step, script_from, script_of, step_of}
use Rattle.script_read.specs.TextCauses.{HaveNone, IsAccepted, IsFirst, IsLeftOpen, has_from, open_after_line, open_after_lines}
use Rattle.script_read.specs.declared.command.Line.{Line}
use Rattle.script_read.specs.declared.reader.ReadLine.{ReadLine}
use Rattle.script_read.proofs.LineOutcomes.{line-outcome, lowest}
use Rattle.script_read.proofs.Outcomes.{Verdict, guard, outcome}

-- ---- ranks

abbrev cause_of_rank : ℕ → ScriptCause
cause_of_rank n =
    if n == 1 then causes.NotAscii
    else if n == 2 then causes.LineTooLong
    else if n == 3 then causes.TooManyLines
    else if n == 4 then causes.UnknownCommand
    else if n == 5 then causes.Words
    else if n == 6 then causes.Number
    else if n == 7 then causes.Name
    else if n == 8 then causes.Rect
    else causes.Order

ranked : (cause : ScriptCause) → cause ≡ cause_of_rank (rank cause)
ranked causes.NotAscii = refl
ranked causes.LineTooLong = refl
ranked causes.TooManyLines = refl
ranked causes.UnknownCommand = refl
ranked causes.Words = refl
ranked causes.Number = refl
ranked causes.Name = refl
ranked causes.Rect = refl
ranked causes.Order = refl

same_rank : (a b : ScriptCause) → rank a ≡ rank b → a ≡ b
same_rank a b same = ranked a ∙ ap cause_of_rank same ∙ sym (ranked b)

rank_bounds : (cause : ScriptCause) → (0 < rank cause) × (rank cause ≤ 9)
rank_bounds causes.NotAscii = (omega arith, omega arith)
rank_bounds causes.LineTooLong = (omega arith, omega arith)
rank_bounds causes.TooManyLines = (omega arith, omega arith)
rank_bounds causes.UnknownCommand = (omega arith, omega arith)
rank_bounds causes.Words = (omega arith, omega arith)
rank_bounds causes.Number = (omega arith, omega arith)
rank_bounds causes.Name = (omega arith, omega arith)
rank_bounds causes.Rect = (omega arith, omega arith)
rank_bounds causes.Order = (omega arith, omega arith)

-- ---- the lowest of the causes past a rank

-- what a verdict says of the causes past a rank, where this watch is open after the line
abbrev Says : (ScriptCause → Bool) → Option ℕ → ℕ → Verdict → Type 0
Says has after passed (Ok watching) = (watching ≡ after) × ((other : ScriptCause) → passed < rank other → has other ≡ false)
Says has after passed (Err cause) =
    IsTrue (has cause) × (passed < rank cause)
    × ((other : ScriptCause) → passed < rank other → rank other < rank cause → has other ≡ false)

module _ (has : ScriptCause → Bool) (after : Option ℕ) where
  -- a cause that isn't there, and others past it
  none_to : (cause : ScriptCause) (passed : ℕ) → passed + 1 ≡ rank cause → has cause ≡ false → (other : ScriptCause)
      → (rank cause < rank other → has other ≡ false) → passed < rank other → has other ≡ false
  none_to cause passed next isnt other later past = elim (cases_eq (rank other) (rank cause)) [
    | inl same ↦ ap has (same_rank other cause same) ∙ isnt
    | inr differs ↦ later (omega (arith, past, next, differs))
  ]

  one_more : (cause : ScriptCause) (passed : ℕ) → passed + 1 ≡ rank cause → (test : Bool) → has cause ≡ test
      → (verdict : Verdict) → Says has after (rank cause) verdict → Says has after passed (guard (not test) cause verdict)
  one_more cause passed next true is verdict says =
      (is, omega (arith, next), λ other past below. absurd (omega (arith, next, past, below)))
  one_more cause passed next false isnt (Ok watching) says =
      (says.0, λ other past. none_to cause passed next isnt other (says.1 other) past)
  one_more cause passed next false isnt (Err found) says =
      (says.0, omega (arith, next, says.1), λ other past below. none_to cause passed next isnt other (λ later. says.2 other later below) past)

  all_said : Says has after 0 (lowest has (Ok after))
  all_said =
      one_more causes.NotAscii 0 refl (has causes.NotAscii) refl _ (
      one_more causes.LineTooLong 1 refl (has causes.LineTooLong) refl _ (
      one_more causes.TooManyLines 2 refl (has causes.TooManyLines) refl _ (
      one_more causes.UnknownCommand 3 refl (has causes.UnknownCommand) refl _ (
      one_more causes.Words 4 refl (has causes.Words) refl _ (
      one_more causes.Number 5 refl (has causes.Number) refl _ (
      one_more causes.Name 6 refl (has causes.Name) refl _ (
      one_more causes.Rect 7 refl (has causes.Rect) refl _ (
      one_more causes.Order 8 refl (has causes.Order) refl (Ok after) (
        refl,
        λ other past. absurd (omega (arith, past, (rank_bounds other).1)),
      )))))))))

line-says : (number : ℕ) (watching : Option ℕ) (line : List ℕ)
    → Says (line_has number watching line) (open_after_line number watching line) 0 (outcome (λ (step : ReadLine). Ok step.watching) (step_of number watching line))
line-says number watching line =
    subst (Says (line_has number watching line) (open_after_line number watching line) 0) (sym (line-outcome number watching line))
    (all_said (line_has number watching line) (open_after_line number watching line))

-- ---- the causes of a line of a list

module _ (number : ℕ) (watching : Option ℕ) (line : List ℕ) (lines : List (List ℕ)) where
  first_has : has_from number watching (line ∷ lines) 0 ≡ line_has number watching line
  first_has =
      let same : number + 0 ≡ number = omega arith in
      ap (λ n. line_has n watching line) same

  later_has : (index : ℕ) → has_from number watching (line ∷ lines) (suc index) ≡ has_from (number + 1) (open_after_line number watching line) lines index
  later_has index =
      let same : number + suc index ≡ number + 1 + index = omega arith in
      ap (λ n. line_has n (open_after_lines (number + 1) (open_after_line number watching line) (take index lines)) (slice_index_or lines index [])) same

  -- where the first line has no cause
  none_from : HasNone (line_has number watching line)
      → HaveNone (number + 1) (open_after_line number watching line) lines → HaveNone number watching (line ∷ lines)
  none_from first none zero known cause = ap (λ (has : ScriptCause → Bool). has cause) first_has ∙ first cause
  none_from first none (suc index) known cause =
      ap (λ (has : ScriptCause → Bool). has cause) (later_has index) ∙ none index (omega (arith, known)) cause

  first_refused : (cause : ScriptCause) → IsLowest (line_has number watching line) cause → IsFirst number watching (line ∷ lines) number cause
  first_refused cause is = record {
    index = 0;
    known = omega arith;
    number = omega arith;
    lowest = subst (λ has. IsLowest has cause) (sym first_has) is;
    earlier = λ other before. absurd (omega (arith, before));
  }

  later_refused : HasNone (line_has number watching line) → (refused : ℕ) (cause : ScriptCause)
      → IsFirst (number + 1) (open_after_line number watching line) lines refused cause → IsFirst number watching (line ∷ lines) refused cause
  later_refused first refused cause is = record {
    index = suc is.index;
    known = omega (arith, is.known);
    number = omega (arith, is.number);
    lowest = subst (λ has. IsLowest has cause) (sym (later_has is.index)) is.lowest;
    earlier = earlier_none;
  }
    where
      earlier_none : (other : ℕ) → other < suc is.index → HasNone (has_from number watching (line ∷ lines) other)
      earlier_none zero before cause = ap (λ (has : ScriptCause → Bool). has cause) first_has ∙ first cause
      earlier_none (suc other) before cause =
          ap (λ (has : ScriptCause → Bool). has cause) (later_has other) ∙ is.earlier other (omega (arith, before)) cause

-- ---- texts

-- what is told of lines
abbrev pub Told : ℕ → Option ℕ → List (List ℕ) → Result (List Line) Refusal → Type 0
Told number watching lines (Ok read) = IsAccepted number watching lines
Told number watching lines (Err refusal) =
    IsFirst number watching lines refusal.0 refusal.1 ⊎ IsLeftOpen number watching lines refusal.0 refusal.1

told-before : (number : ℕ) (command : Option _) (first : ℕ) (watching : Option ℕ) (lines : List (List ℕ)) (read : Result (List Line) Refusal)
    → Told first watching lines read → Told first watching lines (before number command read)
told-before number None first watching lines read told = told
told-before number (Some command) first watching lines (Ok read) told = told
told-before number (Some command) first watching lines (Err refusal) told = told

told-later : (number : ℕ) (watching : Option ℕ) (line : List ℕ) (lines : List (List ℕ)) → HasNone (line_has number watching line)
    → (read : Result (List Line) Refusal) → Told (number + 1) (open_after_line number watching line) lines read → Told number watching (line ∷ lines) read
told-later number watching line lines first (Ok read) told =
    record { none = none_from number watching line lines first told.none; closed = told.closed }
told-later number watching line lines first (Err refusal) (inl told) = inl (later_refused number watching line lines first refusal.0 refusal.1 told)
told-later number watching line lines first (Err refusal) (inr told) = inr (record {
  none = none_from number watching line lines first told.none;
  still_open = told.still_open;
  order = told.order;
})

step-told : (number : ℕ) (watching : Option ℕ) (line : List ℕ) (lines : List (List ℕ)) (step : Result ReadLine ScriptCause)
    → ((after : Option ℕ) → Told (number + 1) after lines (script_from (number + 1) after lines))
    → Says (line_has number watching line) (open_after_line number watching line) 0 (outcome (λ (step : ReadLine). Ok step.watching) step)
    → Told number watching (line ∷ lines) (from_step number step (λ after. script_from (number + 1) after lines))
step-told number watching line lines (Err cause) later says =
    inl (first_refused number watching line lines cause (record {
      has_it = says.0;
      no_lower = λ other below. says.2 other (rank_bounds other).0 below;
    }))
step-told number watching line lines (Ok step) later says =
    told-before number step.command number watching (line ∷ lines) (script_from (number + 1) step.watching lines)
    (told-later number watching line lines (λ cause. says.1 cause (rank_bounds cause).0) (script_from (number + 1) step.watching lines)
    (subst (λ after. Told (number + 1) after lines (script_from (number + 1) step.watching lines)) says.0
    (later step.watching)))

lines-told : (number : ℕ) (watching : Option ℕ) (lines : List (List ℕ)) → Told number watching lines (script_from number watching lines)
lines-told number None [] = record { none = λ index known. absurd (omega (arith, known)); closed = refl }
lines-told number (Some line) [] = inr (record { none = λ index known. absurd (omega (arith, known)); still_open = refl; order = refl })
lines-told number watching (line ∷ lines) =
    step-told number watching line lines (step_of number watching line)
    (λ after. lines-told (number + 1) after lines) (line-says number watching line)

pub text-told : (text : List ℕ) → Told 1 None (lines_of text) (script_of text)
unfolding script_of
text-told text = lines-told 1 None (lines_of text)
