-- Bytes that are copied between rectangles.
use Rattle.std.specs.Prelude.{◌≡◌, ℕ, ◌+◌, ◌-◌, ◌*◌, ◌%◌, ◌<◌, ◌≤◌, ◌⊎◌, List, length, slice_index}
use Rattle.plane_rect.specs.Rectangle.{Rectangle, Inside, offset}
use Rattle.patch_abyss.specs.declared.fill.RowParts.{RowParts}
use Rattle.patch_abyss.specs.declared.rows.Rows.{Rows}

-- a byte of the pixel of a position, among the bytes of a rectangle whose pixels have n each
abbrev pub byte_at : Rectangle → ℕ → List ℕ → ℕ → ℕ → ℕ → ℕ
byte_at r n bytes u v k = slice_index bytes (offset r u v * n + k)

-- The new bytes of a rectangle have at the positions of a part those of another rectangle, and at all others the old.
pub record HasPart (to from part : Rectangle) (n : ℕ) (source old new : List ℕ) : Type 0 where
  pub copied : (u v k : ℕ) → Inside u v part → k < n → byte_at to n new u v k ≡ byte_at from n source u v k
  pub kept : (u v k : ℕ) → Inside u v to → (Inside u v part → ⊥) → k < n → byte_at to n new u v k ≡ byte_at to n old u v k

-- the index of byte number k of row number j
abbrev pub row_byte : Rows → ℕ → ℕ → ℕ
row_byte rows j k = rows.start + j * rows.stride + k

-- so many rows of n bytes are among bytes
abbrev pub HaveRoom : Rows → ℕ → ℕ → List ℕ → Type 0
HaveRoom rows n many bytes = (j : ℕ) → j < many → row_byte rows j n ≤ length bytes

-- In so many rows of n bytes, byte number k of row number j is f j k, and the bytes beside the rows are the old ones.
pub record HasRows (rows : Rows) (n many : ℕ) (f : ℕ → ℕ → ℕ) (old new : List ℕ) : Type 0 where
  pub written : (j k : ℕ) → j < many → k < n → slice_index new (row_byte rows j k) ≡ f j k
  pub kept : (i : ℕ) → ((j : ℕ) → j < many → (i < row_byte rows j 0) ⊎ (row_byte rows j n ≤ i)) → slice_index new i ≡ slice_index old i

-- the bytes of rows
abbrev pub bytes_of : Rows → List ℕ → ℕ → ℕ → ℕ
bytes_of rows bytes j k = slice_index bytes (row_byte rows j k)

-- The bytes are so many rows of n bytes among others, one after the other.
pub record AreRows (rows : Rows) (n many : ℕ) (source bytes : List ℕ) : Type 0 where
  pub whole : length bytes ≡ many * n
  pub cut : (j k : ℕ) → j < many → k < n → slice_index bytes (j * n + k) ≡ bytes_of rows source j k

-- So many rows have the n bytes that f gives for a row periodically before their middle part, those that g gives after
-- it, and there the old ones.
pub record HasSides (parts : RowParts) (many n : ℕ) (f g : ℕ → ℕ → ℕ) (old new : List ℕ) : Type 0 where
  pub leading : (j k : ℕ) → j < many → k < parts.start → slice_index new (j * parts.count + k) ≡ f j (k % n)
  pub between : (j k : ℕ) → j < many → parts.start ≤ k → k < parts.end → slice_index new (j * parts.count + k) ≡ slice_index old (j * parts.count + k)
  pub trailing : (j k : ℕ) → j < many → parts.end ≤ k → k < parts.count → slice_index new (j * parts.count + k) ≡ g j ((k - parts.end) % n)
