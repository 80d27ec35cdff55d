-- The formats that words name.
use Rattle.std.proofs.Common.{◌≡◌, ◌≢◌, ℕ, List, [], ◌∷◌, Bool, true, false, Option, Some, None, IfSome, IfNone, find, refl, sym, ap, ◌∙◌}
use Rattle.std.specs.Str.{bytes_eq}
use Rattle.std.proofs.lemmas.Slice.Eq.{bytes_eq-Decides}
use Rattle.pixel_formats.specs.Format.{word}
use Rattle.pixel_formats.specs.declared.format.Format.{Format}
use Rattle.pixel_formats.specs.declared.format.Format.TheVariants.{Y8}
use Rattle.script_fields.specs.Fields.{format_named, formats}

unlike : (a b : List ℕ) → b ≢ a → bytes_eq a b ≡ false
unlike a b other = by_test (bytes_eq a b) (λ (same : bytes_eq a b ≡ true). other (sym ((bytes_eq-Decides a b).0 same)))
  where
    by_test : (test : Bool) → (test ≡ true → ⊥) → test ≡ false
    by_test true never = absurd (never refl)
    by_test false never = refl

-- a word that is that of none of some values finds none of them
pub find-unlike : {A : Type 0} (word_of : A → List ℕ) (name : List ℕ) (values : List A) →
    ((value : A) → name ≢ word_of value) → find (λ (value : A). bytes_eq (word_of value) name) values ≡ None
find-unlike word_of name [] none = refl
find-unlike word_of name (value ∷ values) none =
    rw (unlike (word_of value) name (none value)) (find-unlike word_of name values none)

-- a word of a format names it
pub format_named-word : (format : Format) → format_named (word format) ≡ Some format
format_named-word Y8 = refl
format_named-word _ = refl

pub format_found : (name : List ℕ) (found : Option Format) →
    IfSome found (λ (format : Format). name ≡ word format) → IfNone found ((format : Format) → name ≢ word format) → found ≡ format_named name
format_found name (Some format) is none = sym (ap format_named is ∙ format_named-word format)
format_found name None is none = sym (find-unlike word name formats none)
