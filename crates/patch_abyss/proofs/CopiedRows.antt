-- Rows of bytes that are copied from one rectangle to another.
use Rattle.std.proofs.Common.{◌≡◌, ℕ, ◌+◌, ◌-◌, ◌*◌, ◌<◌, ◌≤◌, List, ◌++◌, length, take, drop, get_or, refl, sym, ap, ◌∙◌, ◌⊎◌, inl, inr, subst, arith}
use Rattle.std.proofs.Math.Nat.{mul-le-mul_right}
use Rattle.std.proofs.lemmas.Bool.{cases_lt}
use Rattle.std.proofs.lemmas.Nat.{mul-add-lt}
use Rattle.std.proofs.lemmas.List.{get_or-drop, get_or_append_left, get_or-append_right, get_or-take, length-take}
use Rattle.std.proofs.Math.ListN.{length-append, length-drop}
use Rattle.plane_rect.specs.Rectangle.{Rectangle, IsRectangle, Inside, Includes, area, offset, end_column, end_row}
use Rattle.patch_abyss.specs.Copied.{AreRows, HasPart, HasRows, HaveRoom, bytes_of, row_byte}
use Rattle.patch_abyss.specs.declared.rows.Rows.{Rows}
use borrow.Rule.Slice.PartMut.{put_mid, post_of}

-- ---- a row with a part written

module _ (row part : List ℕ) (a k : ℕ) (room : a + k ≤ length row) (long : length part ≡ k) where
  prefix : length (take a row) ≡ a
  prefix = omega (arith, length-take a row)

  pub written-before : (p : ℕ) → p < a → get_or (put_mid a k row part) p 0 ≡ get_or row p 0
  written-before p lt =
      get_or_append_left (take a row) (part ++ post_of a k row) 0 p (omega (arith, prefix)) ∙ get_or-take a row p 0 lt

  pub written-there : (p q : ℕ) → p ≡ a + q → q < k → get_or (put_mid a k row part) p 0 ≡ get_or part q 0
  written-there p q at lt =
      get_or-append_right (take a row) (part ++ post_of a k row) a p 0 prefix (omega arith)
      ∙ ap (λ (n : ℕ). get_or (part ++ post_of a k row) n 0) (omega arith)
      ∙ get_or_append_left part (post_of a k row) 0 q (omega arith)

  pub written-trailing : (p : ℕ) → a + k ≤ p → get_or (put_mid a k row part) p 0 ≡ get_or row p 0
  written-trailing p past =
      get_or-append_right (take a row) (part ++ post_of a k row) a p 0 prefix (omega arith)
      ∙ get_or-append_right part (post_of a k row) k (p - a) 0 long (omega arith)
      ∙ get_or-drop k (drop a row) (p - a - k) 0
      ∙ get_or-drop a row (k + (p - a - k)) 0
      ∙ ap (λ (n : ℕ). get_or row n 0) (omega arith)

-- ---- positions before and after others

pub before_position : (p q n k : ℕ) → p < q → k < n → p * n + k < q * n
before_position p q n k lt within = omega (arith, mul-add-lt p n k q lt within)

pub after_position : (p q n k : ℕ) → p ≤ q → p * n ≤ q * n + k
after_position p q n k le = omega (arith, mul-le-mul_right n le)

row_above : (r : Rectangle) (u v first_column row : ℕ) → Inside u v r → v < row → offset r u v < offset r first_column row
row_above r u v first_column row there above =
    let rows : (v - r.first_row + 1) * r.width ≤ (row - r.first_row) * r.width = mul-le-mul_right r.width (omega arith) in
    omega (arith, rows)

row_below : (r : Rectangle) (u v first_column row w : ℕ) → r.first_row ≤ row → r.first_column ≤ first_column → first_column + w ≤ end_column r → row < v → offset r first_column row + w ≤ offset r u v
row_below r u v first_column row w first_row first last below =
    let rows : (row - r.first_row + 1) * r.width ≤ (v - r.first_row) * r.width = mul-le-mul_right r.width (omega arith) in
    omega (arith, rows)

-- ---- rows copied one after the other

pub HasRows-none : (rows : Rows) (n : ℕ) (f : ℕ → ℕ → ℕ) (old : List ℕ) → HasRows rows n 0 f old old
HasRows-none rows n f old = record {
  written = λ j k below within. absurd (omega arith);
  kept = λ i beside. refl;
}

-- rows without bytes
pub HasRows-no_bytes : (rows : Rows) (n many : ℕ) (f : ℕ → ℕ → ℕ) (old : List ℕ) → n ≡ 0 → HasRows rows n many f old old
HasRows-no_bytes rows n many f old none = record {
  written = λ j k below within. absurd (omega arith);
  kept = λ i beside. refl;
}

-- no row begins before the one above it ends
pub row_after : (rows : Rows) (n j m : ℕ) → n ≤ rows.stride → j < m → row_byte rows j n ≤ row_byte rows m 0
row_after rows n j m apart below = omega (arith, mul-le-mul_right rows.stride below)

-- one row more is written after those above it
pub HasRows-next : (rows : Rows) (n j : ℕ) (f : ℕ → ℕ → ℕ) (old now piece : List ℕ) (a e : ℕ) → n ≤ rows.stride → a ≡ row_byte rows j 0 → e ≡ row_byte rows j n →
    row_byte rows j n ≤ length now → length piece ≡ n → ((k : ℕ) → k < n → get_or piece k 0 ≡ f j k) → HasRows rows n j f old now →
    HasRows rows n (j + 1) f old (put_mid a (e - a) now piece)
HasRows-next rows n j f old now piece a e apart at_a at_e room long same before =
    let fits : a + (e - a) ≤ length now = omega (arith, at_a, at_e, room) in
    let whole : length piece ≡ e - a = omega (arith, at_a, at_e, long) in
    record {
      written = λ m k below within.
          elim (cases_lt m j) [
            | inl above ↦
                written-before now piece a (e - a) fits whole (row_byte rows m k) (omega (arith, at_a, row_after rows n m j apart above))
                ∙ before.written m k above within
            | inr here ↦
                let is_last : m ≡ j = omega arith in
                rw is_last (written-there now piece a (e - a) fits whole (row_byte rows j k) k (omega (arith, at_a)) (omega (arith, at_a, at_e)) ∙ same k within)
          ];
      kept = λ i beside.
          elim (beside j (omega arith)) [
            | inl lt ↦ written-before now piece a (e - a) fits whole i (omega (arith, at_a, lt))
            | inr le ↦ written-trailing now piece a (e - a) fits whole i (omega (arith, at_a, at_e, le))
          ]
          ∙ before.kept i (λ m below. beside m (omega arith));
    }

-- a row of other bytes
module _ (rows : Rows) (n j b f : ℕ) (source : List ℕ) (at_b : b ≡ row_byte rows j 0) (at_f : f ≡ row_byte rows j n) (inside : row_byte rows j n ≤ length source) where
  abbrev cut_row : List ℕ
  cut_row = take (f - b) (drop b source)

  pub length-row : length cut_row ≡ n
  length-row = omega (arith, at_b, at_f, inside, length-take (f - b) (drop b source), length-drop b source)

  pub get_or-row : (k : ℕ) → k < n → get_or cut_row k 0 ≡ bytes_of rows source j k
  get_or-row k within =
      get_or-take (f - b) (drop b source) k 0 (omega (arith, at_b, at_f)) ∙ get_or-drop b source k 0 ∙ ap (λ (i : ℕ). get_or source i 0) (omega (arith, at_b))

-- one row more is copied from other bytes
pub HasRows-copied : (targets sources : Rows) (n j : ℕ) (from old now piece : List ℕ) (a e b f : ℕ) → n ≤ targets.stride →
    a ≡ row_byte targets j 0 → e ≡ row_byte targets j n → row_byte targets j n ≤ length now →
    b ≡ row_byte sources j 0 → f ≡ row_byte sources j n → row_byte sources j n ≤ length from → piece ≡ take (f - b) (drop b from) →
    HasRows targets n j (bytes_of sources from) old now → HasRows targets n (j + 1) (bytes_of sources from) old (put_mid a (e - a) now piece)
HasRows-copied targets sources n j from old now piece a e b f apart at_a at_e room at_b at_f inside is before =
    HasRows-next targets n j (bytes_of sources from) old now piece a e apart at_a at_e room
    (ap length is ∙ length-row sources n j b f from at_b at_f inside)
    (λ k within. ap (λ (xs : List ℕ). get_or xs k 0) is ∙ get_or-row sources n j b f from at_b at_f inside k within) before

-- rows that are appended to others
pub AreRows-none : (rows : Rows) (n : ℕ) (source bytes : List ℕ) → length bytes ≡ 0 → AreRows rows n 0 source bytes
AreRows-none rows n source bytes none = record {
  whole = omega (arith, none);
  cut = λ j k below within. absurd (omega arith);
}

pub AreRows-next : (rows : Rows) (n j : ℕ) (source now piece new : List ℕ) → length piece ≡ n → ((k : ℕ) → k < n → get_or piece k 0 ≡ bytes_of rows source j k) →
    new ≡ now ++ piece → AreRows rows n j source now → AreRows rows n (j + 1) source new
AreRows-next rows n j source now piece new long same is before = record {
  whole = ap length is ∙ omega (arith, length-append now piece, before.whole, long);
  cut = λ m k below within.
      ap (λ (xs : List ℕ). get_or xs (m * n + k) 0) is
      ∙ elim (cases_lt m j) [
        | inl above ↦
            get_or_append_left now piece 0 (m * n + k) (omega (arith, before.whole, before_position m j n k above within)) ∙ before.cut m k above within
        | inr here ↦
            let is_last : m ≡ j = omega arith in
            rw is_last
            (get_or-append_right now piece (j * n) (j * n + k) 0 before.whole (omega arith) ∙ ap (λ (i : ℕ). get_or piece i 0) (omega arith) ∙ same k within)
      ];
}

-- ---- the rows of a part of a rectangle

-- where a byte of a pixel of the part is
pub byte_of_part : (r part : Rectangle) (n : ℕ) (s : Rows) (u v k : ℕ) → Inside part.first_column part.first_row r → s.start ≡ offset r part.first_column part.first_row * n → s.stride ≡ r.width * n →
    part.first_column ≤ u → part.first_row ≤ v → offset r u v * n + k ≡ row_byte s (v - part.first_row) ((u - part.first_column) * n + k)
byte_of_part r part n s u v k corner begins apart column row =
    let down : v - r.first_row ≡ part.first_row - r.first_row + (v - part.first_row) = omega (arith, corner.row) in
    let aside : u - r.first_column ≡ part.first_column - r.first_column + (u - part.first_column) = omega (arith, corner.column) in
    omega (arith, begins, ap (λ (i : ℕ). (v - part.first_row) * i) apart, ap (λ (i : ℕ). i * r.width * n) down, ap (λ (i : ℕ). i * n) aside)

module _ (to from part : Rectangle) (n count : ℕ) (targets sources : Rows) (source old new : List ℕ)
    (in_to : Includes to part) (in_from : Includes from part) (wide : 0 < part.width) (high : 0 < part.height)
    (to_start : targets.start ≡ offset to part.first_column part.first_row * n) (to_stride : targets.stride ≡ to.width * n)
    (from_start : sources.start ≡ offset from part.first_column part.first_row * n) (from_stride : sources.stride ≡ from.width * n)
    (of_count : count ≡ part.width * n) (rows : HasRows targets count part.height (bytes_of sources source) old new) where
  abbrev first : Inside part.first_column part.first_row part
  first = record { column = (omega arith, omega arith); row = (omega arith, omega arith) }

  abbrev last : Inside (part.first_column + part.width - 1) part.first_row part
  last = record { column = (omega arith, omega arith); row = (omega arith, omega arith) }

  row_at : (j : ℕ) → row_byte targets j 0 ≡ offset to part.first_column (part.first_row + j) * n
  row_at j =
      let corner = in_to _ _ first in
      let down : part.first_row + j - to.first_row ≡ part.first_row - to.first_row + j = omega (arith, corner.row) in
      omega (arith, to_start, ap (λ (i : ℕ). j * i) to_stride, ap (λ (i : ℕ). i * to.width * n) down)

  leading : (u v k j : ℕ) → offset to u v < offset to part.first_column (part.first_row + j) → k < n → offset to u v * n + k < row_byte targets j 0
  leading u v k j lt within = omega (arith, row_at j, before_position (offset to u v) (offset to part.first_column (part.first_row + j)) n k lt within)

  trailing : (u v k j : ℕ) → offset to part.first_column (part.first_row + j) + part.width ≤ offset to u v → row_byte targets j count ≤ offset to u v * n + k
  trailing u v k j le =
      omega (arith, row_at j, of_count, after_position (offset to part.first_column (part.first_row + j) + part.width) (offset to u v) n k le)

  beside_in_row : (u v k j : ℕ) → Inside u v to → (Inside u v part → ⊥) → k < n → j < part.height → v ≡ part.first_row + j →
      (offset to u v * n + k < row_byte targets j 0) ⊎ (row_byte targets j count ≤ offset to u v * n + k)
  beside_in_row u v k j there out within below here =
      let begin = in_to _ _ first in
      elim (cases_lt u part.first_column) [
        | inl lt ↦ inl (leading u v k j (rw here (omega (arith, there.column))) within)
        | inr le ↦
            elim (cases_lt u (part.first_column + part.width)) [
              | inl inside ↦ absurd (out (record { column = (le, inside); row = (omega arith, omega arith) }))
              | inr past ↦ inr (trailing u v k j (rw here (omega (arith, begin.column))))
            ]
      ]

  beside : (u v k : ℕ) → Inside u v to → (Inside u v part → ⊥) → k < n → (j : ℕ) → j < part.height →
      (offset to u v * n + k < row_byte targets j 0) ⊎ (row_byte targets j count ≤ offset to u v * n + k)
  beside u v k there out within j below =
      let begin = in_to _ _ first in
      let end = in_to _ _ last in
      elim (cases_lt v (part.first_row + j)) [
        | inl above ↦ inl (leading u v k j (row_above to u v part.first_column (part.first_row + j) there above) within)
        | inr from_here ↦
            elim (cases_lt (part.first_row + j) v) [
              | inl under ↦
                  inr (trailing u v k j (row_below to u v part.first_column (part.first_row + j) part.width (omega (arith, begin.row)) begin.column.0 (omega (arith, end.column)) under))
              | inr here ↦ beside_in_row u v k j there out within below (omega arith)
            ]
      ]

  pub HasPart-rows : HasPart to from part n source old new
  HasPart-rows = record {
    copied = λ u v k there within.
        let j = v - part.first_row in
        let q = (u - part.first_column) * n + k in
        let in_row : q < count = omega (arith, mul-add-lt (u - part.first_column) n k part.width (omega (arith, there.column)) within) in
        ap (λ (i : ℕ). get_or new i 0) (byte_of_part to part n targets u v k (in_to _ _ first) to_start to_stride there.column.0 there.row.0)
        ∙ rows.written j q (omega (arith, there.row)) in_row
        ∙ ap (λ (i : ℕ). get_or source i 0) (sym (byte_of_part from part n sources u v k (in_from _ _ first) from_start from_stride there.column.0 there.row.0));
    kept = λ u v k there out within. rows.kept (offset to u v * n + k) (beside u v k there out within);
  }

-- a rectangle that has a row has columns
pub some_columns : (r : Rectangle) (row : ℕ) → IsRectangle r → r.first_row ≤ row → row < end_row r → 0 < r.width
some_columns r row is above below =
    elim (cases_lt 0 r.width) [
      | inl some ↦ some
      | inr none ↦ absurd (omega (arith, ap (λ (r : Rectangle). r.height) (is.empty_width (omega arith))))
    ]

-- ---- where the rows of a part are

module _ (r part : Rectangle) (n : ℕ) (inside : Includes r part) (wide : 0 < part.width) (high : 0 < part.height) where
  corner : Inside part.first_column part.first_row r
  corner = inside part.first_column part.first_row (record { column = (omega arith, omega arith); row = (omega arith, omega arith) })

  far : Inside (part.first_column + part.width - 1) (part.first_row + part.height - 1) r
  far = inside (part.first_column + part.width - 1) (part.first_row + part.height - 1) (record { column = (omega arith, omega arith); row = (omega arith, omega arith) })

  pub rows_have_room : (rows : Rows) (count : ℕ) (bytes : List ℕ) → rows.start ≡ offset r part.first_column part.first_row * n → rows.stride ≡ r.width * n → count ≡ part.width * n →
      length bytes ≡ area r * n → HaveRoom rows count part.height bytes
  rows_have_room rows count bytes begins apart of_count long j below =
      let down : part.first_row - r.first_row + j + 1 ≤ r.height = omega (arith, corner.row, far.row) in
      let aside : part.first_column - r.first_column + part.width ≤ r.width = omega (arith, corner.column, far.column) in
      omega (arith, begins, ap (λ (i : ℕ). j * i) apart, of_count, long, mul-le-mul_right (r.width * n) down, mul-le-mul_right n aside)

  -- as the code counts them: of w pixels each, and h rows
  pub part_has_room : (rows : Rows) (w h : ℕ) (bytes : List ℕ) → rows.start ≡ offset r part.first_column part.first_row * n → rows.stride ≡ r.width * n →
      w ≡ part.width → h ≡ part.height → length bytes ≡ area r * n → HaveRoom rows (w * n) h bytes
  part_has_room rows w h bytes begins apart is_width is_height long =
      subst (λ (m : ℕ). HaveRoom rows (w * n) m bytes) (sym is_height)
      (rows_have_room rows (w * n) bytes begins apart (ap (λ (i : ℕ). i * n) is_width) long)
