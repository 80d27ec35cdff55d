-- How fields are printed, and the invariants of their types.
use Rattle.std.specs.Prelude.{◌≡◌, ℕ, pos, IsTrue, true, false, List, [], ◌∷◌, ◌++◌, codes, decimal, OnOk, Result}
use Rattle.std.specs.Fmt.{signed_decimal}
use Rattle.plane_rect.specs.Rectangle.{IsRectangle, plane_coordinate}
use Rattle.plane_rect.specs.Name.{is_name}
use Rattle.outside_io.specs.FileName.{is_file_name}
use Rattle.pixel_formats.specs.Format.{word}
use Rattle.pixel_formats.specs.Policies.{policy_word}
use Rattle.script_words.specs.Words.{spaced}
use Rattle.script_fields.specs.declared.field.Field.{Field}
use Rattle.script_fields.specs.declared.field.Field.TheVariants as fields

-- the words of a field
abbrev pub field_words : Field → List (List ℕ)
field_words (fields.Name name) = name ∷ []
field_words (fields.File name) = name ∷ []
field_words (fields.Format format) = word format ∷ []
field_words (fields.Policy policy) = policy_word policy ∷ []
field_words (fields.Natural value) = decimal value ∷ []
field_words (fields.Integer value) = signed_decimal value ∷ []
field_words (fields.Sideways true) = codes "h" ∷ []
field_words (fields.Sideways false) = codes "v" ∷ []
field_words fields.Operation = []
field_words (fields.Rect rect) =
    signed_decimal (plane_coordinate rect.first_column)
    ∷ signed_decimal (plane_coordinate rect.first_row)
    ∷ signed_decimal (pos rect.width)
    ∷ signed_decimal (pos rect.height)
    ∷ []

-- those of some fields
abbrev pub words_of_fields : List Field → List (List ℕ)
words_of_fields [] = []
words_of_fields (field ∷ others) = field_words field ++ words_of_fields others

-- a name is a name, a name of a file one, and a rectangle one of the plane
abbrev pub IsValid : Field → Type 0
IsValid (fields.Name name) = IsTrue (is_name name)
IsValid (fields.File name) = IsTrue (is_file_name name)
IsValid (fields.Rect rect) = IsRectangle rect
IsValid field = Unit {0}

abbrev pub AreValid : List Field → Type 0
AreValid [] = Unit {0}
AreValid (field ∷ others) = IsValid field × AreValid others

-- Fields are appended to a text, each word after a space, unless memory runs out. They are then what their types keep.
pub record PutsFields (fields : List Field) {E : Type 0} (result : Result (Unit {0}) E) (old new : List ℕ) : Type 0 where
  pub text : OnOk result (new ≡ old ++ spaced (words_of_fields fields))
  pub valid : OnOk result (AreValid fields)

-- names are names
abbrev pub AreNames : List (List ℕ) → Type 0
AreNames [] = Unit {0}
AreNames (name ∷ names) = IsTrue (is_name name) × AreNames names
