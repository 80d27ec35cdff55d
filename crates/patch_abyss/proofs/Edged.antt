-- Rows over the columns of a rectangle whose middle parts are columns of a box, with a pixel periodically on each side.
use Rattle.std.proofs.Common.{◌≡◌, ℕ, ◌+◌, ◌-◌, ◌*◌, ◌%◌, ◌<◌, ◌≤◌, min, max, List, length, get_or, ap, ◌∙◌, arith}
use Rattle.std.proofs.Math.Nat.{mul-le-mul_right}
use Rattle.std.proofs.lemmas.Nat.{mod-mul-add}
use Rattle.plane_rect.specs.Rectangle.{Rectangle, Within, end_column}
use Rattle.patch_abyss.specs.Copied.{HasRows, HasSides, HaveRoom, bytes_of, row_byte}
use Rattle.patch_abyss.specs.declared.fill.RowParts.{RowParts}
use Rattle.patch_abyss.specs.declared.rows.Rows.{Rows}
use Rattle.patch_abyss.proofs.CopiedRows.{before_position, after_position}
use Rattle.patch_abyss.proofs.RowPixels.{SamePixel}

-- The numbers that the code counts with are those of a rectangle and a box: how many columns of the first are left of
-- the shared ones, which of the second's these are, how many bytes a pixel has, and the two widths.
pub record AreColumns (rect box : Rectangle) (n before first last p w v : ℕ) : Type 0 where
  pub at_before : before ≡ min (max box.first_column rect.first_column) (end_column rect) - rect.first_column
  pub at_first : first ≡ min (max rect.first_column box.first_column) (end_column box) - box.first_column
  pub at_last : last ≡ min (max (end_column rect) box.first_column) (end_column box) - box.first_column
  pub is_n : p ≡ n
  pub is_width : w ≡ rect.width
  pub is_len : v ≡ box.width

-- where the code has the box under another name
pub AreColumns-of : {rect bounds box : Rectangle} {n before first last p w v : ℕ} → bounds ≡ box → before ≡ min (max bounds.first_column rect.first_column) (end_column rect) - rect.first_column →
    first ≡ min (max rect.first_column bounds.first_column) (end_column bounds) - bounds.first_column → last ≡ min (max (end_column rect) bounds.first_column) (end_column bounds) - bounds.first_column →
    p ≡ n → w ≡ rect.width → v ≡ bounds.width → AreColumns rect box n before first last p w v
AreColumns-of {rect} {bounds} {box} is_box at_before at_first at_last is_n is_width is_len = record {
  at_before = at_before ∙ ap (λ (r : Rectangle). min (max r.first_column rect.first_column) (end_column rect) - rect.first_column) is_box;
  at_first = at_first ∙ ap (λ (r : Rectangle). min (max rect.first_column r.first_column) (end_column r) - r.first_column) is_box;
  at_last = at_last ∙ ap (λ (r : Rectangle). min (max (end_column rect) r.first_column) (end_column r) - r.first_column) is_box;
  is_n = is_n;
  is_width = is_width;
  is_len = is_len ∙ ap (λ (r : Rectangle). r.width) is_box;
}

module _ {rect box : Rectangle} {n before first last p w v : ℕ} (columns : AreColumns rect box n before first last p w v) where
  -- how many columns are in both
  abbrev both : ℕ
  both = last - first

  in_from : first + both ≤ box.width
  in_from = omega (arith, columns.at_first, columns.at_last)

  in_to : before + both ≤ rect.width
  in_to = omega (arith, columns.at_before, columns.at_first, columns.at_last)

  is_before : (k : ℕ) → rect.first_column + k < box.first_column → k < rect.width → k < before
  is_before k lt inside = omega (arith, columns.at_before)

  is_within : (k : ℕ) → Within box.first_column box.width (rect.first_column + k) → k < rect.width → (before ≤ k) × (k < before + both) × (first + (k - before) ≡ rect.first_column + k - box.first_column)
  is_within k there inside =
      (omega (arith, columns.at_before, there.0), omega (arith, columns.at_before, columns.at_first, columns.at_last, there.0, there.1), omega (arith, columns.at_before, columns.at_first, there.0, there.1))

  is_after : (k : ℕ) → box.first_column + box.width ≤ rect.first_column + k → k < rect.width → before + both ≤ k
  is_after k le inside = omega (arith, columns.at_before, columns.at_first, columns.at_last)

  abbrev parts : RowParts
  parts = record { count = w * p; start = before * p; end = before * p + both * p }

  is_count : w * p ≡ rect.width * n
  is_count = ap (λ (m : ℕ). m * p) columns.is_width ∙ ap (λ (q : ℕ). rect.width * q) columns.is_n

  is_period : v * p ≡ box.width * n
  is_period = ap (λ (m : ℕ). m * p) columns.is_len ∙ ap (λ (q : ℕ). box.width * q) columns.is_n

  is_start : before * p ≡ before * n
  is_start = ap (λ (q : ℕ). before * q) columns.is_n

  is_both : both * p ≡ both * n
  is_both = ap (λ (q : ℕ). both * q) columns.is_n

  -- ---- the columns that both have

  module _ {targets middle : Rows} (is_targets : targets ≡ record { start = before * p; stride = w * p }) (is_middle : middle ≡ record { start = first * p; stride = v * p }) where
    target_byte : (j k : ℕ) → row_byte targets j k ≡ before * n + j * (rect.width * n) + k
    target_byte j k = ap (λ (r : Rows). row_byte r j k) is_targets ∙ omega (arith, is_start, ap (λ (m : ℕ). j * m) is_count)

    middle_byte : (j k : ℕ) → row_byte middle j k ≡ first * n + j * (box.width * n) + k
    middle_byte j k = ap (λ (r : Rows). row_byte r j k) is_middle ∙ omega (arith, ap (λ (q : ℕ). first * q) columns.is_n, ap (λ (m : ℕ). j * m) is_period)

    pub targets_room : (many : ℕ) (to : List ℕ) → length to ≡ many * (rect.width * n) → HaveRoom targets (parts.end - parts.start) many to
    targets_room many to long j below =
        let rows : (j + 1) * (rect.width * n) ≤ many * (rect.width * n) = mul-le-mul_right (rect.width * n) (omega arith) in
        omega (arith, target_byte j (parts.end - parts.start), is_both, long, rows, mul-le-mul_right n in_to)

    pub middle_room : (many : ℕ) (from : List ℕ) → length from ≡ many * (box.width * n) → HaveRoom middle (parts.end - parts.start) many from
    middle_room many from long j below =
        let rows : (j + 1) * (box.width * n) ≤ many * (box.width * n) = mul-le-mul_right (box.width * n) (omega arith) in
        omega (arith, middle_byte j (parts.end - parts.start), is_both, long, rows, mul-le-mul_right n in_from)

    pub edged-inside : (many : ℕ) (f g : ℕ → ℕ → ℕ) (from old mid new : List ℕ) → HasRows targets (parts.end - parts.start) many (bytes_of middle from) old mid → HasSides parts many p f g mid new →
        (j k : ℕ) → j < many → k < rect.width → Within box.first_column box.width (rect.first_column + k) → SamePixel n new (j * rect.width + k) from (j * box.width + (rect.first_column + k - box.first_column))
    edged-inside many f g from old mid new rows sides j k below inside there = λ b within.
        let h = is_within k there inside in
        let q = (k - before) * n + b in
        let at_k : before + (k - before) ≡ k = omega (arith, h.0) in
        let position : k * n + b ≡ before * n + q = omega (arith, ap (λ (i : ℕ). i * n) at_k) in
        let in_middle : q < both * n = before_position (k - before) both n b (omega (arith, h.0, h.1)) within in
        let column : first * n + (k - before) * n ≡ (rect.first_column + k - box.first_column) * n = omega (arith, ap (λ (i : ℕ). i * n) h.2) in
        ap (λ (i : ℕ). get_or new i 0) (omega (arith, ap (λ (m : ℕ). j * m) is_count))
        ∙ sides.between j (k * n + b) below (omega (arith, is_start, position)) (omega (arith, is_start, is_both, position, in_middle))
        ∙ ap (λ (i : ℕ). get_or mid i 0) (omega (arith, target_byte j q, position, ap (λ (m : ℕ). j * m) is_count))
        ∙ rows.written j q below (omega (arith, is_both, in_middle))
        ∙ ap (λ (i : ℕ). get_or from i 0) (omega (arith, middle_byte j q, column))

  -- ---- the columns left and right of them

  module _ {many : ℕ} {f g : ℕ → ℕ → ℕ} {mid new : List ℕ} (sides : HasSides parts many p f g mid new) (j k : ℕ) (below : j < many) (inside : k < rect.width) where
    pub edged-first_column : (other : List ℕ) (i : ℕ) → ((b : ℕ) → f j b ≡ get_or other (i * n + b) 0) → rect.first_column + k < box.first_column → SamePixel n new (j * rect.width + k) other i
    edged-first_column other i same lt = λ b within.
        ap (λ (q : ℕ). get_or new q 0) (omega (arith, ap (λ (m : ℕ). j * m) is_count))
        ∙ sides.leading j (k * n + b) below (omega (arith, is_start, before_position k before n b (is_before k lt inside) within))
        ∙ ap (λ (m : ℕ). f j ((k * n + b) % m)) columns.is_n
        ∙ ap (λ (q : ℕ). f j q) (mod-mul-add k n b within)
        ∙ same b

    pub edged-end_column : (other : List ℕ) (i : ℕ) → ((b : ℕ) → g j b ≡ get_or other (i * n + b) 0) → box.first_column + box.width ≤ rect.first_column + k → SamePixel n new (j * rect.width + k) other i
    edged-end_column other i same le = λ b within.
        let past = is_after k le inside in
        let more = k - (before + both) in
        let at_k : before + both + more ≡ k = omega (arith, past) in
        let position : k * n + b - parts.end ≡ more * n + b = omega (arith, is_start, is_both, ap (λ (i : ℕ). i * n) at_k) in
        ap (λ (q : ℕ). get_or new q 0) (omega (arith, ap (λ (m : ℕ). j * m) is_count))
        ∙ sides.trailing j (k * n + b) below (omega (arith, is_start, is_both, after_position (before + both) k n b past)) (omega (arith, is_count, before_position k rect.width n b inside within))
        ∙ ap (λ (q : ℕ). g j (q % p)) position
        ∙ ap (λ (m : ℕ). g j ((more * n + b) % m)) columns.is_n
        ∙ ap (λ (q : ℕ). g j q) (mod-mul-add more n b within)
        ∙ same b

  -- ---- the first pixels of whole rows of the box

  module _ {pixels : Rows} (is_pixels : pixels ≡ record { start = 0; stride = v * p }) where
    first_position : (j b : ℕ) → row_byte pixels j b ≡ j * box.width * n + b
    first_position j b = ap (λ (r : Rows). row_byte r j b) is_pixels ∙ omega (arith, ap (λ (m : ℕ). j * m) is_period)

    pub first_room : (many : ℕ) (from : List ℕ) → 0 < box.width → length from ≡ many * (box.width * n) → HaveRoom pixels p many from
    first_room many from some long j below =
        let rows : (j + 1) * (box.width * n) ≤ many * (box.width * n) = mul-le-mul_right (box.width * n) (omega arith) in
        omega (arith, first_position j p, columns.is_n, mul-le-mul_right n some, long, rows)

    pub first_bytes : (from : List ℕ) (j b : ℕ) → bytes_of pixels from j b ≡ get_or from (j * box.width * n + b) 0
    first_bytes from j b = ap (λ (i : ℕ). get_or from i 0) (first_position j b)

  -- ---- the last pixels of whole rows of the box

  module _ {pixels : Rows} (is_pixels : pixels ≡ record { start = v * p - p; stride = v * p }) (some : 0 < box.width) where
    last_column : (box.width - 1) * n + n ≡ box.width * n
    last_column =
        let back : box.width - 1 + 1 ≡ box.width = omega (arith, some) in
        omega (arith, ap (λ (i : ℕ). i * n) back)

    last_position : (j b : ℕ) → row_byte pixels j b ≡ (j * box.width + (box.width - 1)) * n + b
    last_position j b = ap (λ (r : Rows). row_byte r j b) is_pixels ∙ omega (arith, columns.is_n, is_period, last_column, ap (λ (m : ℕ). j * m) is_period)

    pub last_room : (many : ℕ) (from : List ℕ) → length from ≡ many * (box.width * n) → HaveRoom pixels p many from
    last_room many from long j below =
        let rows : (j + 1) * (box.width * n) ≤ many * (box.width * n) = mul-le-mul_right (box.width * n) (omega arith) in
        omega (arith, last_position j p, columns.is_n, long, rows, last_column)

    pub last_bytes : (from : List ℕ) (j b : ℕ) → bytes_of pixels from j b ≡ get_or from ((j * box.width + (box.width - 1)) * n + b) 0
    last_bytes from j b = ap (λ (i : ℕ). get_or from i 0) (last_position j b)

-- rows that are all the same one
pub once_bytes : {once : Rows} (from : List ℕ) (n j b : ℕ) → once ≡ record { start = 0; stride = 0 } → bytes_of once from j b ≡ get_or from (0 * n + b) 0
once_bytes from n j b is_once = ap (λ (r : Rows). bytes_of r from j b) is_once ∙ ap (λ (i : ℕ). get_or from i 0) (omega arith)
