-- What words of kinds hold, with their ranges; and their words and fields.
use Rattle.std.specs.Prelude.{ℕ, ℤ, ◌-◌, ◌^◌, ◌≤◌, ◌≤ℤ◌, pos, neg_ℤ, nat_lt, int_le, Bool, true, false, ◌&&◌, IsTrue, List, [], ◌∷◌, codes, decimal, length}
use Rattle.std.specs.Fmt.{signed_decimal}
use Rattle.outside_io.specs.FileName.{is_file_name}
use Rattle.plane_rect.specs.Name.{is_name}
use Rattle.pixel_formats.specs.Format.{word}
use Rattle.pixel_formats.specs.Limits.{max_prefix_bytes, suits_areas}
use Rattle.pixel_formats.specs.Policies.{policy_word}
use Rattle.pixel_formats.specs.declared.abyss.Abyss.{Abyss}
use Rattle.pixel_formats.specs.declared.format.Format.{Format}
use Rattle.script_fields.specs.declared.field.Field.{Field}
use Rattle.script_fields.specs.declared.field.Field.TheVariants as fields
use Rattle.script_fields.specs.declared.kind.Kind.{Kind}
use Rattle.script_fields.specs.declared.kind.Kind.TheVariants as kinds

-- what a word of a kind holds; that of an operation is the word itself
abbrev pub Value : Kind → Type 0
Value kinds.Name = (name : List ℕ) × IsTrue (is_name name)
Value kinds.File = (name : List ℕ) × IsTrue (is_file_name name)
Value kinds.Prefix = (name : List ℕ) × IsTrue (is_file_name name) × (length name ≤ max_prefix_bytes)
Value kinds.Format = Format
Value kinds.Policy = Abyss
Value kinds.AreaPolicy = (policy : Abyss) × IsTrue (suits_areas policy)
Value kinds.Direction = Bool
Value kinds.Operation = List ℕ
Value (kinds.Natural low high) = (value : ℕ) × (low ≤ value) × (value ≤ high)
Value (kinds.Integer low high) = (value : ℤ) × (low ≤ℤ value) × (value ≤ℤ high)

abbrev pub Values : List Kind → Type 0
Values [] = Unit {0}
Values (kind ∷ others) = Value kind × Values others

-- the word of a direction
abbrev pub sideways_word : Bool → List ℕ
sideways_word true = codes "h"
sideways_word false = codes "v"

-- the word, as it is printed
abbrev pub word_with : (kind : Kind) → Value kind → List ℕ
word_with kinds.Name value = value.0
word_with kinds.File value = value.0
word_with kinds.Prefix value = value.0
word_with kinds.Format value = word value
word_with kinds.Policy value = policy_word value
word_with kinds.AreaPolicy value = policy_word value.0
word_with kinds.Direction value = sideways_word value
word_with kinds.Operation value = value
word_with (kinds.Natural low high) value = decimal value.0
word_with (kinds.Integer low high) value = signed_decimal value.0

abbrev pub words_with : (all : List Kind) → Values all → List (List ℕ)
words_with [] values = []
words_with (kind ∷ others) values = word_with kind values.0 ∷ words_with others values.1

-- the field that it is
abbrev pub field_with : (kind : Kind) → Value kind → Field
field_with kinds.Name value = fields.Name value.0
field_with kinds.File value = fields.File value.0
field_with kinds.Prefix value = fields.File value.0
field_with kinds.Format value = fields.Format value
field_with kinds.Policy value = fields.Policy value
field_with kinds.AreaPolicy value = fields.Policy value.0
field_with kinds.Direction value = fields.Sideways value
field_with kinds.Operation value = fields.Operation
field_with (kinds.Natural low high) value = fields.Natural value.0
field_with (kinds.Integer low high) value = fields.Integer value.0

abbrev pub fields_with : (all : List Kind) → Values all → List Field
fields_with [] values = []
fields_with (kind ∷ others) values = field_with kind values.0 ∷ fields_with others values.1

-- the numbers of a kind have at most ten digits
abbrev pub is_small : Kind → Bool
is_small (kinds.Natural low high) = nat_lt high (10 ^ 10)
is_small (kinds.Integer low high) = int_le (neg_ℤ (pos (10 ^ 10 - 1))) low && int_le high (pos (10 ^ 10 - 1))
is_small kind = true
