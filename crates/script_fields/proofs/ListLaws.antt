-- Reading one word after another.
use Rattle.std.proofs.Common.{◌≡◌, ℕ, true, List, [], ◌∷◌, ◌++◌, Result, Ok, Err, length, refl, arith}
use Rattle.script_fields.specs.Fields.{fields_of_words, numbers_fit}
use Rattle.script_fields.specs.declared.cause.ScriptCause.{ScriptCause}

-- values before those that are read after them
abbrev pub after : {A : Type 0} → List A → Result (List A) ScriptCause → Result (List A) ScriptCause
after prefix (Ok rest) = Ok (prefix ++ rest)
after prefix (Err cause) = Err cause

-- words after the last kind
pub no_items : {A : Type 0} (items : List A) → length items ≡ 0 → items ≡ []
no_items [] none = refl
no_items (item ∷ items) none = absurd (omega arith)

pub fields_of_none : (words : List (List ℕ)) → fields_of_words [] words ≡ Ok []
fields_of_none [] = refl
fields_of_none (word ∷ words) = refl

pub numbers_of_none : (words : List (List ℕ)) → numbers_fit [] words ≡ true
numbers_of_none [] = refl
numbers_of_none (word ∷ words) = refl
