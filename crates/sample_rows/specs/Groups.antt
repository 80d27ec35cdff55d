-- The samples of a row in groups of one size, as a kernel takes them: pixels, single samples, or pairs of pixels.
use Rattle.std.specs.Prelude.{◌≡◌, ℕ, ◌+◌, ◌*◌, ◌/◌, ◌%◌, ◌<◌, ◌≤◌, List, length}
use Rattle.pixel_formats.specs.Row.{sample_at}

-- how many samples a group has, and how many bytes each
pub record Groups : Type 0 where
  pub size : ℕ
  pub depth : ℕ

abbrev pub groups : ℕ → ℕ → Groups
groups size depth = record { size = size; depth = depth }

-- the bytes of a group
abbrev pub group_bytes : Groups → ℕ
group_bytes g = g.size * g.depth

-- group number k of a row: its samples in order
abbrev pub group_at : Groups → List ℕ → ℕ → ℕ → ℕ
group_at g row k = λ i. sample_at g.depth row (k * g.size + i)

-- the blocks of a row have so many groups and bytes each
pub record Blocks (bytes count : ℕ) (g : Groups) : Type 0 where
  pub some_group : 0 < group_bytes g
  pub whole : bytes ≡ count * group_bytes g
  pub few : bytes ≤ 384

-- The first n groups of one row come each from the group of the same number of another.
abbrev pub Maps : Groups → Groups → ℕ → ((ℕ → ℕ) → ℕ → ℕ) → List ℕ → List ℕ → Type 0
Maps from to n value src dst = (k i : ℕ) → k < n → i < to.size → group_at to dst k i ≡ value (group_at from src k) i

-- The first n groups of one row come each from the groups of the same number of two others.
abbrev pub MapsPairs : Groups → Groups → Groups → ℕ → ((ℕ → ℕ) → (ℕ → ℕ) → ℕ → ℕ) → List ℕ → List ℕ → List ℕ → Type 0
MapsPairs first second to n value a b dst =
    (k i : ℕ) → k < n → i < to.size → group_at to dst k i ≡ value (group_at first a k) (group_at second b k) i

-- The first n groups of one row come each from the groups of the same number of three others.
abbrev pub MapsTriples : Groups → Groups → Groups → Groups → ℕ → ((ℕ → ℕ) → (ℕ → ℕ) → (ℕ → ℕ) → ℕ → ℕ) → List ℕ → List ℕ → List ℕ → List ℕ → Type 0
MapsTriples first second third to n value a b c dst =
    (k i : ℕ) → k < n → i < to.size → group_at to dst k i ≡ value (group_at first a k) (group_at second b k) (group_at third c k) i

-- the rows have whole groups alone, and equally many
pub record SameGroups (from to : Groups) (src dst : List ℕ) : Type 0 where
  pub read : length src % group_bytes from ≡ 0
  pub written : length dst % group_bytes to ≡ 0
  pub same_count : length src / group_bytes from ≡ length dst / group_bytes to
