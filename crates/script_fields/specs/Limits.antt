-- The limits that the fields of a script's commands keep, and its rectangles.
use Rattle.std.specs.Prelude.{ℕ, ◌+◌, ◌*◌, ◌≤◌, ◌≤ℤ◌, IsTrue, nat_le, Bool, is_some, List, [], ◌∷◌, drop, length}
use Rattle.plane_rect.specs.Rectangle.{Rectangle, area, in_limits, scaled}
use Rattle.pixel_formats.specs.Limits.{IsIn, max_level, max_prefix_bytes, max_watched_pixels, suits_areas}
use Rattle.script_fields.specs.declared.field.Field.{Field}
use Rattle.script_fields.specs.declared.field.Field.TheVariants as fields
use Rattle.script_fields.specs.declared.kind.Kind.{Kind}
use Rattle.script_fields.specs.declared.kind.Kind.TheVariants as kinds

-- ---- fields by their kinds

-- a field is of a kind, and in its range
abbrev pub IsOf : Kind → Field → Type 0
IsOf kinds.Name (fields.Name name) = Unit {0}
IsOf kinds.File (fields.File name) = Unit {0}
IsOf kinds.Prefix (fields.File name) = length name ≤ max_prefix_bytes
IsOf kinds.Format (fields.Format format) = Unit {0}
IsOf kinds.Policy (fields.Policy policy) = Unit {0}
IsOf kinds.AreaPolicy (fields.Policy policy) = IsTrue (suits_areas policy)
IsOf kinds.Direction (fields.Sideways sideways) = Unit {0}
IsOf kinds.Operation fields.Operation = Unit {0}
IsOf (kinds.Natural low high) (fields.Natural value) = IsIn low high value
IsOf (kinds.Integer low high) (fields.Integer value) = (low ≤ℤ value) × (value ≤ℤ high)
IsOf kind field = ⊥

-- how many words a field has: a rectangle has four
abbrev pub word_count : Field → ℕ
word_count (fields.Rect rect) = 4
word_count field = 1

-- a field is of the first of some kinds, and a rectangle is in limits
abbrev pub IsFirst : List Kind → Field → Type 0
IsFirst all (fields.Rect rect) = IsTrue (in_limits rect)
IsFirst [] field = ⊥
IsFirst (kind ∷ others) field = IsOf kind field

-- fields are of the first of some kinds, in their order
abbrev pub AreOf : List Kind → List Field → Type 0
AreOf all [] = Unit {0}
AreOf all (field ∷ others) = IsFirst all field × AreOf (drop (word_count field) all) others

-- ---- rectangles

-- a rectangle that is read at a level
pub record IsLevelRect (level : ℕ) (rect : Rectangle) : Type 0 where
  pub range : level ≤ max_level
  pub limits : IsTrue (in_limits rect)
  pub scaled : IsTrue (is_some (scaled level rect))

-- viewers may render so many frames of a rectangle, and one more each
abbrev pub may_watch : ℕ → ℕ → Rectangle → Bool
may_watch viewers frames rect = nat_le (viewers * (frames + 1) * area rect) max_watched_pixels
