-- The laws of levels of images that agree.
use Rattle.std.proofs.Common.{◌≡◌, ◌≢◌, ℕ, zero, suc, ◌+◌, ◌-◌, ◌*◌, ◌/◌, ◌<◌, ◌≤◌, ◌↔◌, ◌⊎◌, inl, inr, replicate, refl, sym, ap, ◌∙◌, arith}
use Rattle.std.proofs.lemmas.Bool.{cases_lt}
use Rattle.plane_rect.specs.Rectangle.{Includes, Rectangle, Inside, IsRectangle, empty, end_column, end_row, half, halved, origin}
use Rattle.plane_rect.specs.Tile.{Tile, tile_at, tile_of, tile_origin, tile_square}
use Rattle.plane_rect.proofs.Moved.{halved-positions}
use Rattle.plane_rect.proofs.RectangleLaws.{IsRectangle-empty}
use Rattle.plane_rect.proofs.Rectangles.{Inside-spanning}
use Rattle.plane_rect.proofs.TileLists.{Inside-tile_square}
use Rattle.pixel_formats.specs.Format.{channels}
use Rattle.pixel_formats.specs.declared.format.Format.{Format}
use Rattle.model_images.specs.Agreement.{AgreeElsewhere, AgreeEverywhere, AgreeOver}
use Rattle.model_images.specs.FromRaw.{byte_count}
use Rattle.model_images.specs.Image.{Image, at}
use Rattle.model_images.specs.Level.{below, doubled, halved_image, level, level_box, mean_at, source_of_level, tile_above, tile_at_level}
use Rattle.model_images.specs.Paint.{blank, cut}
use Rattle.model_images.specs.Raw.{raw, tile_bytes}
use Rattle.model_images.proofs.Agreeing.{at-cut}
use Rattle.model_images.proofs.Laws.{at_no_channel, at_outside}
use Rattle.model_images.proofs.LevelLaws.{InLimits-level, IsRectangle-level, at-halved_image, empty-level, half-of_four, level-format, level-most}
use Rattle.model_images.proofs.Positions.{by_positions}
use Rattle.model_images.proofs.RawLaws.{raw-over, raw-zeros}

-- a mean of zeros
mean-zero : (image : Image) (u v c : ℕ)
    → ((m n : ℕ) → (m ≡ doubled u) ⊎ (m ≡ doubled u + 1) → (n ≡ doubled v) ⊎ (n ≡ doubled v + 1) → at image m n c ≡ 0) → mean_at image u v c ≡ 0
mean-zero image u v c zeros =
    let upper_left = zeros (doubled u) (doubled v) (inl refl) (inl refl) in
    let upper_right = zeros (doubled u + 1) (doubled v) (inr refl) (inl refl) in
    let lower_left = zeros (doubled u) (doubled v + 1) (inl refl) (inr refl) in
    let lower_right = zeros (doubled u + 1) (doubled v + 1) (inr refl) (inr refl) in
    rw (upper_left, upper_right, lower_left, lower_right) refl

pub halved-mean : (image : Image) (u v c : ℕ) → IsRectangle image.box → origin / 2 ≤ u → origin / 2 ≤ v → at (halved_image image) u v c ≡ mean_at image u v c
halved-mean image u v c is wide high =
    by_positions _ u v (halved image.box)
    (λ h. elim (cases_lt c (channels image.format)) [
      | inl k ↦ at-halved_image image u v c h k
      | inr beyond ↦ at_no_channel (halved_image image) u v c beyond ∙ sym (mean-zero image u v c (λ m n p q. at_no_channel image m n c beyond))
    ])
    (λ out. at_outside (halved_image image) u v c out
    ∙ sym (mean-zero image u v c (λ m n p q. at_outside image m n c (λ there.
    out ((halved-positions u v image.box is).1 (m, n, there, half-of_four u m wide p, half-of_four v n high q))))))

pub halved-before : (image : Image) (u v c : ℕ) → (u < origin / 2) ⊎ (v < origin / 2) → at (halved_image image) u v c ≡ 0
halved-before image u v c before = at_outside (halved_image image) u v c (λ h. outside before h)
  where
    outside : (u < origin / 2) ⊎ (v < origin / 2) → Inside u v (halved image.box) → ⊥
    outside (inl left) h =
        let spans = (Inside-spanning u v (half image.box.first_column) (half image.box.first_row) (half (end_column image.box + 1)) (half (end_row image.box + 1))).0 h in
        omega (arith, spans, left)
    outside (inr above) h =
        let spans = (Inside-spanning u v (half image.box.first_column) (half image.box.first_row) (half (end_column image.box + 1)) (half (end_row image.box + 1))).0 h in
        omega (arith, spans, above)

-- halved images are the same at a position where the four samples are
halves-same : (a b : Image) (u v c : ℕ) → IsRectangle a.box → IsRectangle b.box
    → (origin / 2 ≤ u → origin / 2 ≤ v → (m n : ℕ) → (m ≡ doubled u) ⊎ (m ≡ doubled u + 1) → (n ≡ doubled v) ⊎ (n ≡ doubled v + 1) → at a m n c ≡ at b m n c)
    → at (halved_image a) u v c ≡ at (halved_image b) u v c
halves-same a b u v c is_a is_b same = elim (cases_lt u (origin / 2)) [
  | inl left ↦ halved-before a u v c (inl left) ∙ sym (halved-before b u v c (inl left))
  | inr wide ↦ elim (cases_lt v (origin / 2)) [
    | inl above ↦ halved-before a u v c (inr above) ∙ sym (halved-before b u v c (inr above))
    | inr high ↦ halved-mean a u v c is_a wide high ∙ means wide high ∙ sym (halved-mean b u v c is_b wide high)
  ]
]
  where
    means : origin / 2 ≤ u → origin / 2 ≤ v → mean_at a u v c ≡ mean_at b u v c
    means wide high =
        let equal = same wide high in
        let upper_left = equal (doubled u) (doubled v) (inl refl) (inl refl) in
        let upper_right = equal (doubled u + 1) (doubled v) (inr refl) (inl refl) in
        let lower_left = equal (doubled u) (doubled v + 1) (inl refl) (inr refl) in
        let lower_right = equal (doubled u + 1) (doubled v + 1) (inr refl) (inr refl) in
        rw (upper_left, upper_right, lower_left, lower_right) refl

pub levels-agree : (a b : Image) (z : ℕ) → IsRectangle a.box → IsRectangle b.box → AgreeEverywhere a b → AgreeEverywhere (level a z) (level b z)
unfolding level
levels-agree a b zero is_a is_b agreed = agreed
levels-agree a b (suc z) is_a is_b agreed =
    let before = levels-agree a b z is_a is_b agreed in
    record {
      format = before.format;
      samples = λ u v c.
          halves-same (level a z) (level b z) u v c (IsRectangle-level a z is_a) (IsRectangle-level b z is_b)
          (λ wide high m n p q. before.samples m n c);
    }

pub level-box : (image : Image) (z : ℕ) → (level image z).box ≡ level_box image.box z
unfolding level
level-box image zero = refl
level-box image (suc z) = ap halved (level-box image z)

-- ---- parts of levels

-- along one side: the two positions that are averaged for one of a part
below-side : (first width u m : ℕ) → first ≤ u → u < first + width → origin / 2 ≤ u → (m ≡ doubled u) ⊎ (m ≡ doubled u + 1)
    → (doubled first ≤ m) × (m < doubled first + (doubled (first + width) - doubled first))
below-side first width u m from to wide (inl e) = (omega (arith, from, e), omega (arith, from, to, wide, e))
below-side first width u m from to wide (inr e) = (omega (arith, from, e), omega (arith, from, to, wide, e))

halves-local : (a b : Image) (r : Rectangle) → IsRectangle a.box → IsRectangle b.box → AgreeOver a b (below r) → AgreeOver (halved_image a) (halved_image b) r
halves-local a b r is_a is_b same u v c there =
    halves-same a b u v c is_a is_b (λ wide high m n p q. same m n c (record {
      column = below-side r.first_column r.width u m there.column.0 there.column.1 wide p;
      row = below-side r.first_row r.height v n there.row.0 there.row.1 high q;
    }))

pub levels-local : (a b : Image) (z : ℕ) (r : Rectangle) → IsRectangle a.box → IsRectangle b.box → AgreeOver a b (source_of_level r z) → AgreeOver (level a z) (level b z) r
unfolding level
levels-local a b zero r is_a is_b same = same
levels-local a b (suc z) r is_a is_b same =
    halves-local (level a z) (level b z) r (IsRectangle-level a z is_a) (IsRectangle-level b z is_b) (levels-local a b z (below r) is_a is_b same)

pub levels-local-bytes : (a b : Image) (z : ℕ) (r : Rectangle) → IsRectangle a.box → IsRectangle b.box → a.format ≡ b.format
    → AgreeOver a b (source_of_level r z) → raw (level a z) r ≡ raw (level b z) r
levels-local-bytes a b z r is_a is_b format same =
    raw-over (level a z) (level b z) r (level-format a z ∙ format ∙ sym (level-format b z)) (levels-local a b z r is_a is_b same)

pub level-part : (image : Image) (box : Rectangle) (z : ℕ) (r : Rectangle) → IsRectangle image.box → IsRectangle box → Includes box (source_of_level r z)
    → raw (level (cut image box) z) r ≡ raw (level image z) r
level-part image box z r is is_box inside =
    levels-local-bytes (cut image box) image z r is_box is refl (λ u v c there. at-cut image box u v c (inside u v there))

-- the image of no position has none at each level
level-blank : (format : Format) (z u v c : ℕ) → at (level (blank empty format) z) u v c ≡ 0
level-blank format z u v c =
    omega (arith, level-most (blank empty format) z c 0 (λ u v. rw (zero-at u v) (omega arith)) u v)
  where
    zero-at : (u v : ℕ) → at (blank empty format) u v c ≡ 0
    zero-at u v = at_outside (blank empty format) u v c (λ h. absurd (omega (arith, h.column)))

pub level-zeros : (image : Image) (z : ℕ) (r : Rectangle) → IsRectangle image.box → ((u v c : ℕ) → Inside u v (source_of_level r z) → at image u v c ≡ 0)
    → raw (level image z) r ≡ replicate (byte_count r image.format) 0
level-zeros image z r is zeros =
    let nothing = blank empty image.format in
    raw-zeros (level image z) r (λ u v c there known.
    levels-local image nothing z r is IsRectangle-empty
    (λ m n k below. zeros m n k below ∙ sym (at_outside nothing m n k (λ h. absurd (omega (arith, h.column))))) u v c there
    ∙ level-blank image.format z u v c)
    ∙ ap (λ (f : Format). replicate (byte_count r f) 0) (level-format image z)

-- ---- one tile of each level

-- along one side: a position is in the tile above that of the two which are averaged for it
above-side : (tile u m : ℕ) → origin / 2 ≤ u → (m ≡ doubled u) ⊎ (m ≡ doubled u + 1) → 64 * tile ≤ m → m < 64 * tile + 64
    → (64 * (tile / 2 + tile_origin / 2) ≤ u) × (u < 64 * (tile / 2 + tile_origin / 2) + 64)
above-side tile u m wide (inl e) from to = (omega (arith, wide, e, from, to), omega (arith, wide, e, from, to))
above-side tile u m wide (inr e) from to = (omega (arith, wide, e, from, to), omega (arith, wide, e, from, to))

halves-elsewhere : (a b : Image) (tile : Tile) → IsRectangle a.box → IsRectangle b.box → AgreeElsewhere a b (tile_square tile)
    → AgreeElsewhere (halved_image a) (halved_image b) (tile_square (tile_above tile))
halves-elsewhere a b tile is_a is_b agreed = record {
  format = agreed.format;
  samples = λ u v c out. halves-same a b u v c is_a is_b (λ wide high m n p q. agreed.samples m n c (λ there. out (record {
    column = above-side tile.column u m wide p there.column.0 there.column.1;
    row = above-side tile.row v n high q there.row.0 there.row.1;
  })));
}

pub levels-elsewhere : (a b : Image) (tile : Tile) (z : ℕ) → IsRectangle a.box → IsRectangle b.box → AgreeElsewhere a b (tile_square tile)
    → AgreeElsewhere (level a z) (level b z) (tile_square (tile_at_level tile z))
unfolding level
levels-elsewhere a b tile zero is_a is_b agreed = agreed
levels-elsewhere a b tile (suc z) is_a is_b agreed =
    halves-elsewhere (level a z) (level b z) (tile_at_level tile z) (IsRectangle-level a z is_a) (IsRectangle-level b z is_b) (levels-elsewhere a b tile z is_a is_b agreed)

pub levels-other_tiles : (a b : Image) (tile other : Tile) (z : ℕ) → IsRectangle a.box → IsRectangle b.box → AgreeElsewhere a b (tile_square tile)
    → other ≢ tile_at_level tile z → tile_bytes (level a z) other ≡ tile_bytes (level b z) other
levels-other_tiles a b tile other z is_a is_b agreed apart =
    let changed = tile_at_level tile z in
    let levels = levels-elsewhere a b tile z is_a is_b agreed in
    raw-over (level a z) (level b z) (tile_square other) levels.format (λ u v c there.
    levels.samples u v c (λ here. apart ((Inside-tile_square u v other).0 there ∙ sym ((Inside-tile_square u v changed).0 here))))

-- ---- which positions are averaged

-- along one side: a position is below exactly those that are the half of it
below-exact : (first width u : ℕ) → ((doubled first ≤ u) × (u < doubled first + (doubled (first + width) - doubled first))) ↔ ((first ≤ half u) × (half u < first + width))
below-exact first width u = (λ h. (omega (arith, h.0, h.1), omega (arith, h.0, h.1)), λ h. (omega (arith, h.0, h.1), omega (arith, h.0, h.1)))

pub Inside-below : (u v : ℕ) (r : Rectangle) → Inside u v (below r) ↔ Inside (half u) (half v) r
Inside-below u v r =
    let columns = below-exact r.first_column r.width u in
    let rows = below-exact r.first_row r.height v in
    (λ h. record { column = columns.0 h.column; row = rows.0 h.row }, λ h. record { column = columns.1 h.column; row = rows.1 h.row })

-- a column or row halved so many times
halves : ℕ → ℕ → ℕ
halves n zero = n
halves n (suc z) = half (halves n z)

Inside-source : (z : ℕ) (u v : ℕ) (r : Rectangle) → Inside u v (source_of_level r z) ↔ Inside (halves u z) (halves v z) r
unfolding halves
Inside-source zero u v r = (λ h. h, λ h. h)
Inside-source (suc z) u v r =
    let before = Inside-source z u v (below r) in
    let here = Inside-below (halves u z) (halves v z) r in
    (λ h. here.0 (before.0 h), λ h. before.1 (here.1 h))

-- the tile above that of a position is the tile of its half
above-half : (u v : ℕ) → tile_above (tile_at u v) ≡ tile_at (half u) (half v)
above-half u v =
    let column : tile_of u / 2 + tile_origin / 2 ≡ tile_of (half u) = omega arith in
    let row : tile_of v / 2 + tile_origin / 2 ≡ tile_of (half v) = omega arith in
    ap (λ (n : ℕ). let tile : Tile = record { column = n; row = tile_of v / 2 + tile_origin / 2 } in tile) column
    ∙ ap (λ (n : ℕ). let tile : Tile = record { column = tile_of (half u); row = n } in tile) row

tile-halves : (u v z : ℕ) → tile_at_level (tile_at u v) z ≡ tile_at (halves u z) (halves v z)
unfolding halves
tile-halves u v zero = refl
tile-halves u v (suc z) =
    ap tile_above (tile-halves u v z)
    ∙ above-half (halves u z) (halves v z)

pub Inside-source_of_tile : (u v : ℕ) (tile : Tile) (z : ℕ) → Inside u v (source_of_level (tile_square tile) z) ↔ (tile_at_level (tile_at u v) z ≡ tile)
Inside-source_of_tile u v tile z =
    let source = Inside-source z u v (tile_square tile) in
    let square = Inside-tile_square (halves u z) (halves v z) tile in
    (λ h. tile-halves u v z ∙ sym (square.0 (source.0 h)), λ e. source.1 (square.1 (sym e ∙ tile-halves u v z)))

pub ruleset box_laws = (IsRectangle-level, InLimits-level, empty-level, level-box)
