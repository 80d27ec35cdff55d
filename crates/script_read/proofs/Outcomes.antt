-- What follows a reading that is read exactly where a test passes.
use Rattle.std.proofs.Common.{◌≡◌, ℕ, Bool, true, false, not, ◌&&◌, ◌||◌, List, [], ◌∷◌, Option, Some, None, is_some, Result, Ok, Err, ◌⊎◌, inl, inr, refl, sym, ap, ◌∙◌}
use Rattle.std.specs.Option.{ok_or}
use Rattle.script_words.proofs.Passing.{and_first, and_second}
use Rattle.script_fields.specs.Fields.{◌>>=◌, fields_of_words, fits_as_number, found, is_number, names_fit, numbers_fit, passed}
use Rattle.script_fields.specs.declared.cause.ScriptCause.{ScriptCause}
use Rattle.script_fields.specs.declared.cause.ScriptCause.TheVariants as causes
use Rattle.script_fields.specs.declared.field.Field.{Field}
use Rattle.script_fields.specs.declared.kind.Kind.{Kind}
use Rattle.script_read.specs.Forms.{is_counted, kinds_for}
use Rattle.script_read.specs.LineCauses.{makes_none}
use Rattle.script_read.specs.declared.forms.Form.{Form}

-- the watch that is open after a line, or the cause for which it is refused
abbrev pub Verdict : Type 0
Verdict = Result (Option ℕ) ScriptCause

-- the cause of a reading, or what is said of its value
abbrev pub outcome : {A : Type 0} → (A → Verdict) → Result A ScriptCause → Verdict
outcome next (Ok value) = next value
outcome next (Err cause) = Err cause

abbrev pub guard : Bool → ScriptCause → Verdict → Verdict
guard true cause rest = rest
guard false cause rest = Err cause

-- the lowest cause of the words after the first, of a line of this form; and what is said where there is none
abbrev pub lowest_by : Form → List (List ℕ) → Verdict → Verdict
lowest_by form words rest =
    guard (is_counted form words) causes.Words
    (guard (numbers_fit (kinds_for form words) words) causes.Number
    (guard (names_fit (kinds_for form words) words) causes.Name
    (guard (not (makes_none form words)) causes.Rect rest)))

-- a value is read where the test passes, and else the cause
abbrev pub Guards : {A : Type 0} → Result A ScriptCause → Bool → ScriptCause → Type 0
Guards {A} read ok cause = (((value : A) × (read ≡ Ok value)) × (ok ≡ true)) ⊎ ((read ≡ Err cause) × (ok ≡ false))

pub outcome-step : {A B : Type 0} (read : Result A ScriptCause) (ok : Bool) (cause : ScriptCause) (onward : A → Result B ScriptCause) (next : B → Verdict) (rest : Verdict)
    → Guards read ok cause → ((value : A) → read ≡ Ok value → outcome next (onward value) ≡ rest)
    → outcome next (read >>= onward) ≡ guard ok cause rest
outcome-step read ok cause onward next rest (inl is) read_on =
    ap (λ r. outcome next (r >>= onward)) is.0.1 ∙ read_on is.0.0 is.0.1 ∙ sym (ap (λ b. guard b cause rest) is.1)
outcome-step read ok cause onward next rest (inr is) read_on =
    ap (λ r. outcome next (r >>= onward)) is.0 ∙ sym (ap (λ b. guard b cause rest) is.1)

pub outcome-bind : {A B : Type 0} (read : Result A ScriptCause) (onward : A → Result B ScriptCause) (next : B → Verdict)
    → outcome next (read >>= onward) ≡ outcome (λ value. outcome next (onward value)) read
outcome-bind (Ok value) onward next = refl
outcome-bind (Err cause) onward next = refl

pub guards-passed : {A : Type 0} (test : Bool) (cause : ScriptCause) (value : A) → Guards (passed test cause value) test cause
guards-passed true cause value = inl ((value, refl), refl)
guards-passed false cause value = inr (refl, refl)

guards-field : (number : Bool) (named : Option Field) (others : Result (List Field) ScriptCause) (names : Bool) → (not number || is_some named) ≡ true → Guards others names causes.Name
    → Guards (ok_or named causes.Name >>= λ field. others >>= λ more. Ok (field ∷ more)) ((number || is_some named) && names) causes.Name
guards-field true None others names fit guards = absurd (cc)
guards-field false None others names fit guards = inr (refl, refl)
guards-field true (Some field) others names fit (inl is) = inl ((field ∷ is.0.0, ap (λ read. read >>= λ more. Ok (field ∷ more)) is.0.1), is.1)
guards-field true (Some field) others names fit (inr is) = inr (ap (λ read. read >>= λ more. Ok (field ∷ more)) is.0, is.1)
guards-field false (Some field) others names fit (inl is) = inl ((field ∷ is.0.0, ap (λ read. read >>= λ more. Ok (field ∷ more)) is.0.1), is.1)
guards-field false (Some field) others names fit (inr is) = inr (ap (λ read. read >>= λ more. Ok (field ∷ more)) is.0, is.1)

-- once the numbers are numbers, fields are read exactly where the names are names
pub guards-fields : (all : List Kind) (words : List (List ℕ)) → numbers_fit all words ≡ true → Guards (fields_of_words all words) (names_fit all words) causes.Name
guards-fields all [] fit = inl (([], refl), refl)
guards-fields [] (word ∷ words) fit = inl (([], refl), refl)
guards-fields (kind ∷ others) (word ∷ words) fit =
    guards-field (is_number kind) (found kind word) (fields_of_words others words) (names_fit others words) (and_first _ _ fit)
    (guards-fields others words (and_second (fits_as_number kind word) _ fit))
