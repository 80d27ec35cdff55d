-- What the words of a command have to be, and the fields that they are, or why they are refused.
use Rattle.std.specs.Prelude.{ℕ, nat_le, is_some, Bool, true, false, not, ◌&&◌, ◌||◌, if◌then◌else◌, List, [], ◌∷◌, length, map, find, codes, Option, Some, None, Result, Ok, Err, slice_index_or}
use Rattle.std.specs.Borrow.{Bor}
use Rattle.std.specs.Option.{ok_or, option_and_then, option_map}
use Rattle.std.specs.Str.{bytes_eq}
use Rattle.plane_rect.specs.Rectangle.{Rectangle, new_rectangle, in_limits, scaled}
use Rattle.plane_rect.specs.Name.{is_name}
use Rattle.plane_rect.specs.declared.rect.RectRefused.{RectRefused}
use Rattle.pixel_formats.specs.Format.{word}
use Rattle.pixel_formats.specs.declared.format.Format.{Format}
use Rattle.pixel_formats.specs.declared.format.Format.TheVariants.{Y8, YA8, RGB8, RGBA8, Y16, YA16, RGB16, RGBA16, Y32, YA32, RGB32, RGBA32}
use Rattle.pixel_formats.specs.declared.abyss.Abyss.{Abyss}
use Rattle.outside_io.specs.FileName.{is_file_name}
use Rattle.script_words.specs.Numbers.{natural_in, integer_in}
use Rattle.pixel_formats.specs.Policies.{policy_named}
use Rattle.script_fields.specs.declared.cause.ScriptCause.{ScriptCause}
use Rattle.script_fields.specs.declared.cause.ScriptCause.TheVariants as causes
use Rattle.script_fields.specs.declared.field.Field.{Field}
use Rattle.script_fields.specs.declared.field.Field.TheVariants as fields
use Rattle.script_fields.specs.declared.kind.Kind.{Kind}
use Rattle.script_fields.specs.declared.kind.Kind.TheVariants as kinds
use Rattle.pixel_formats.specs.Limits.{max_frames, max_level, max_prefix_bytes, max_viewers, suits_areas}
use Rattle.script_fields.specs.Limits.{may_watch}
use Rattle.script_fields.specs.declared.rectangles.RectNumbers.{RectNumbers}

-- what is read, then what is read by it; the first cause is reported
infixl 10 ◌>>=◌
abbrev pub ◌>>=◌ : {A B : Type 0} → Result A ScriptCause → (A → Result B ScriptCause) → Result B ScriptCause
(Ok value) >>= next = next value
(Err cause) >>= next = Err cause

-- the texts of words
abbrev pub texts : List (Bor (List ℕ)) → List (List ℕ)
texts words = map (λ (word : Bor (List ℕ)). word.now) words

-- a word, by its index
abbrev pub word_at : List (List ℕ) → ℕ → List ℕ
word_at words index = slice_index_or words index []

-- a value that a test lets pass
abbrev pub passed : {A : Type 0} → Bool → ScriptCause → A → Result A ScriptCause
passed test cause value = if test then Ok value else Err cause

-- ---- choices

-- the first part of the names of several files
abbrev pub prefix_named : List ℕ → Option (List ℕ)
prefix_named word = if nat_le (length word) max_prefix_bytes && is_file_name word then Some word else None

-- all formats
abbrev pub formats : List Format
formats = Y8 ∷ YA8 ∷ RGB8 ∷ RGBA8 ∷ Y16 ∷ YA16 ∷ RGB16 ∷ RGBA16 ∷ Y32 ∷ YA32 ∷ RGB32 ∷ RGBA32 ∷ []

-- the format that a word names
abbrev pub format_named : List ℕ → Option Format
format_named name = find (λ (format : Format). bytes_eq (word format) name) formats

-- a policy that area operations may have
abbrev pub for_areas : Abyss → Option Abyss
for_areas policy = if suits_areas policy then Some policy else None

abbrev pub area_policy_named : List ℕ → Option Abyss
area_policy_named word = option_and_then for_areas (policy_named word)

-- `h` for left and right, `v` for top and bottom
abbrev pub direction_named : List ℕ → Option Bool
direction_named word =
    if bytes_eq word (codes "h") then Some true else if bytes_eq word (codes "v") then Some false else None

-- ---- one word

-- the field that a word of a kind is
abbrev pub found : Kind → List ℕ → Option Field
found kinds.Name word = if is_name word then Some (fields.Name word) else None
found kinds.File word = if is_file_name word then Some (fields.File word) else None
found kinds.Prefix word = option_map fields.File (prefix_named word)
found kinds.Format word = option_map fields.Format (format_named word)
found kinds.Policy word = option_map fields.Policy (policy_named word)
found kinds.AreaPolicy word = option_map fields.Policy (area_policy_named word)
found kinds.Direction word = option_map fields.Sideways (direction_named word)
found kinds.Operation word = Some fields.Operation
found (kinds.Natural low high) word = option_map fields.Natural (natural_in low high word)
found (kinds.Integer low high) word = option_map fields.Integer (integer_in low high word)

-- numbers are judged before all else
abbrev pub is_number : Kind → Bool
is_number (kinds.Natural low high) = true
is_number (kinds.Integer low high) = true
is_number kind = false

-- a word is a number where its kind is one
abbrev pub fits_as_number : Kind → List ℕ → Bool
fits_as_number kind word = not (is_number kind) || is_some (found kind word)

-- ---- all words, each of its kind

-- those that have to be numbers are
abbrev pub numbers_fit : List Kind → List (List ℕ) → Bool
numbers_fit kinds [] = true
numbers_fit [] (word ∷ words) = true
numbers_fit (kind ∷ kinds) (word ∷ words) = fits_as_number kind word && numbers_fit kinds words

-- the others are what they have to be
abbrev pub names_fit : List Kind → List (List ℕ) → Bool
names_fit kinds [] = true
names_fit [] (word ∷ words) = true
names_fit (kind ∷ kinds) (word ∷ words) = (is_number kind || is_some (found kind word)) && names_fit kinds words

-- the fields that they are, once the numbers are numbers
abbrev pub fields_of_words : List Kind → List (List ℕ) → Result (List Field) ScriptCause
fields_of_words kinds [] = Ok []
fields_of_words [] (word ∷ words) = Ok []
fields_of_words (kind ∷ kinds) (word ∷ words) = do
  field ← ok_or (found kind word) causes.Name
  others ← fields_of_words kinds words
  Ok (field ∷ others)

-- ---- lists among fields

abbrev pub names_in : List Field → List (List ℕ)
names_in [] = []
names_in (fields.Name name ∷ others) = name ∷ names_in others
names_in (field ∷ others) = names_in others

abbrev pub naturals_in : List Field → List ℕ
naturals_in [] = []
naturals_in (fields.Natural value ∷ others) = value ∷ naturals_in others
naturals_in (field ∷ others) = naturals_in others

-- ---- rectangles

-- a rectangle in limits
unfoldable pub rect_in_limits : Result Rectangle RectRefused → Result Rectangle ScriptCause
rect_in_limits (Ok rect) = passed (in_limits rect) causes.Rect rect
rect_in_limits (Err refused) = Err causes.Rect

abbrev pub rect_of : RectNumbers → Result Rectangle ScriptCause
rect_of numbers = rect_in_limits (new_rectangle numbers.x numbers.y numbers.w numbers.h)

-- a rectangle of a level whose positions are in limits at level 0 too
unfoldable pub level_rect_of : ℕ → RectNumbers → Result Rectangle ScriptCause
level_rect_of level numbers =
    rect_of numbers >>= λ rect. passed (nat_le level max_level && is_some (scaled level rect)) causes.Rect rect

-- a rectangle that so many viewers may render so many times, and once more
unfoldable pub watched_rect_of : ℕ → ℕ → RectNumbers → Result Rectangle ScriptCause
watched_rect_of viewers frames numbers =
    rect_of numbers
    >>= λ rect. passed (nat_le viewers max_viewers && nat_le frames max_frames && may_watch viewers frames rect) causes.Rect rect
