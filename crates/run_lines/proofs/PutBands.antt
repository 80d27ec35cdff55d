-- Raw bytes that are put over a rectangle in two parts: first those of the rows from one on, then those of the rows above.
use Rattle.std.proofs.Common.{◌≡◌, ℕ, suc, ◌+◌, ◌-◌, ◌*◌, ◌<◌, ◌≤◌, ◌⊎◌, inl, inr, Bool, true, false, cond, List, [], ◌∷◌, map, length, take, drop, get_or, Option, Some, None, refl, sym, ap, subst, ◌∙◌, arith}
use Rattle.std.proofs.lemmas.Bool.{cases_lt}
use Rattle.std.specs.Prelude.{unwrap_or}
use Rattle.std.specs.Option.{option_map}
use Rattle.std.specs.Str.{bytes_eq}
use Rattle.std.proofs.lemmas.List.{get_or-drop}
use Rattle.plane_rect.specs.Rectangle.{Inside, Rectangle, hull, offset}
use Rattle.plane_rect.proofs.RectangleLaws.{offset-below}
use Rattle.pixel_formats.specs.Format.{channels, depth, pixel_bytes}
use Rattle.pixel_formats.specs.declared.format.Format.{Format}
use Rattle.pixel_formats.proofs.FormatLaws.{sample_equal, sample_fits}
use Rattle.model_images.specs.FromRaw.{byte_count, pixels_from_raw}
use Rattle.model_images.specs.Image.{Image, at, is_inside}
use Rattle.model_images.specs.Paint.{no_image, painted}
use Rattle.model_images.proofs.Laws.{generated_equal}
use Rattle.model_images.proofs.Painting.{at-painted, painted-outside}
use Rattle.model_images.proofs.Positions.{not_inside}
use Rattle.model_images.proofs.Samples.{Inside_from, inside_where}
use Rattle.model_graphs.specs.Shapes.{Shape}
use Rattle.model_buffers.specs.BufferEdit.{Refusal, edit_refused, written_by}
use Rattle.model_buffers.specs.Edits.{by_view, table_with, unless_refused, written}
use Rattle.model_buffers.specs.Layout.{AreDistinct, TableLayout, View, find, root_shape}
use Rattle.model_buffers.specs.Table.{Table, layout_of, root_image}
use Rattle.model_buffers.specs.declared.edit.BufferEdit.TheVariants.{Put}
use Rattle.model_buffers.proofs.FindLaws.{find-listed, name_from_test, same_name}
use Rattle.model_buffers.proofs.ShapeLaws.{layout-with, root_shape-is}
use Rattle.model_states.specs.Rectangles.{Rectangles, with_written}
use Rattle.model_states.specs.Workspace.{Workspace}
use Rattle.model_sessions.specs.Steps.{after_edit, with_edit, with_working}
use Rattle.run_lines.proofs.Cuts.{IsCut, bottom, hull-cut, hull-parts, top}
use Rattle.root_tiles.proofs.Solid.{sample-taken}

-- ---- samples

-- a byte of a sample of a pixel after so many others
after : (format : Format) (n o c m : ℕ) → n * pixel_bytes format + (depth format * (o * channels format + c) + m) ≡ depth format * ((n + o) * channels format + c) + m
after format n o c m = omega arith

rows_apart : (w a b u : ℕ) → w * a + (b * w + u) ≡ (a + b) * w + u
rows_apart w a b u = omega arith

module _ (r : Rectangle) (row : ℕ) (cut : IsCut r row) (format : Format) (bytes : List ℕ) where
  abbrev count : ℕ
  count = byte_count (top r row) format

  abbrev all : ℕ → ℕ → ℕ → ℕ
  all = pixels_from_raw r format bytes

  abbrev first : ℕ → ℕ → ℕ → ℕ
  first = pixels_from_raw (top r row) format (take count bytes)

  abbrev second : ℕ → ℕ → ℕ → ℕ
  second = pixels_from_raw (bottom r row) format (drop count bytes)

  first-samples : (u v c : ℕ) → Inside u v (top r row) → c < channels format → first u v c ≡ all u v c
  first-samples u v c there few =
      let o = offset (top r row) u v in
      let below = offset-below u v (top r row) there in
      sample-taken format bytes count (o * channels format + c) (sample_fits format (r.width * (row - r.first_row)) o c below few)

  later : (u v : ℕ) → Inside u v (bottom r row) → r.width * (row - r.first_row) + offset (bottom r row) u v ≡ offset r u v
  later u v there =
      let sum : (row - r.first_row) + (v - row) ≡ v - r.first_row = omega (arith, cut.first, there.row.0) in
      rows_apart r.width (row - r.first_row) (v - row) (u - r.first_column) ∙ ap (λ (n : ℕ). n * r.width + (u - r.first_column)) sum

  second-samples : (u v c : ℕ) → Inside u v (bottom r row) → c < channels format → second u v c ≡ all u v c
  second-samples u v c there few =
      let o = offset (bottom r row) u v in
      sample_equal (depth format) (drop count bytes) bytes (o * channels format + c) (offset r u v * channels format + c)
      (λ m below.
      get_or-drop count bytes (depth format * (o * channels format + c) + m) 0
      ∙ ap (λ (i : ℕ). get_or bytes i 0)
      (after format (r.width * (row - r.first_row)) o c m ∙ ap (λ (n : ℕ). depth format * (n * channels format + c) + m) (later u v there)))

-- ---- images

module _ (r : Rectangle) (row : ℕ) (cut : IsCut r row) (image : Image) (f first second : ℕ → ℕ → ℕ → ℕ)
    (above : (u v c : ℕ) → Inside u v (top r row) → c < channels image.format → first u v c ≡ f u v c)
    (below : (u v c : ℕ) → Inside u v (bottom r row) → c < channels image.format → second u v c ≡ f u v c) where
  in_top : (u v : ℕ) → Inside u v (top r row) → Inside u v r
  in_top u v there = record { column = there.column; row = (there.row.0, omega (arith, there.row.1, cut.first, cut.last)) }

  in_bottom : (u v : ℕ) → Inside u v (bottom r row) → Inside u v r
  in_bottom u v there = record { column = there.column; row = (omega (arith, there.row.0, cut.first), omega (arith, there.row.1, cut.last)) }

  in_neither : (u v : ℕ) → is_inside u v (top r row) ≡ false → is_inside u v (bottom r row) ≡ false → Inside u v r → ⊥
  in_neither u v not_top not_bottom there = cases (cases_lt v row)
    where
      cases : (v < row) ⊎ (row ≤ v) → ⊥
      cases (inl high) =
          let here : Inside u v (top r row) = record { column = there.column; row = (there.row.0, omega (arith, high, cut.first)) } in
          absurd (let e = inside_where u v (top r row) here in cc)
      cases (inr low) =
          let here : Inside u v (bottom r row) = record { column = there.column; row = (low, omega (arith, there.row.1, cut.last)) } in
          absurd (let e = inside_where u v (bottom r row) here in cc)

  painted-cut : painted (painted image (bottom r row) second) (top r row) first ≡ painted image r f
  painted-cut =
      generated_equal image.box image.format
      (λ u v c. cond (is_inside u v (top r row)) (first u v c) (at (painted image (bottom r row) second) u v c))
      (λ u v c. cond (is_inside u v r) (f u v c) (at image u v c))
      same
    where
      old : ℕ → ℕ → ℕ → ℕ
      old = at (painted image (bottom r row) second)

      in_part : (u v c : ℕ) → Inside u v r → f u v c ≡ cond (is_inside u v r) (f u v c) (at image u v c)
      in_part u v c there = let e = inside_where u v r there in rw e refl

      lower : (u v c : ℕ) → Inside u v image.box → c < channels image.format → is_inside u v (top r row) ≡ false → (b : Bool) → is_inside u v (bottom r row) ≡ b
          → at (painted image (bottom r row) second) u v c ≡ cond (is_inside u v r) (f u v c) (at image u v c)
      lower u v c inside few not_top true here =
          let there = Inside_from u v (bottom r row) here in
          at-painted image (bottom r row) second u v c there inside few ∙ below u v c there few ∙ in_part u v c (in_bottom u v there)
      lower u v c inside few not_top false not_bottom =
          let out = not_inside u v r (in_neither u v not_top not_bottom) in
          sym (painted-outside image (bottom r row) second u v c (λ there. absurd (let e = inside_where u v (bottom r row) there in cc))) ∙ rw out refl

      upper : (u v c : ℕ) → Inside u v image.box → c < channels image.format → (b : Bool) → is_inside u v (top r row) ≡ b
          → cond b (first u v c) (at (painted image (bottom r row) second) u v c) ≡ cond (is_inside u v r) (f u v c) (at image u v c)
      upper u v c inside few true here =
          let there = Inside_from u v (top r row) here in
          above u v c there few ∙ in_part u v c (in_top u v there)
      upper u v c inside few false not_top = lower u v c inside few not_top (is_inside u v (bottom r row)) refl

      same : (u v c : ℕ) → Inside u v image.box → c < channels image.format
          → cond (is_inside u v (top r row)) (first u v c) (at (painted image (bottom r row) second) u v c) ≡ cond (is_inside u v r) (f u v c) (at image u v c)
      same u v c inside few = upper u v c inside few (is_inside u v (top r row)) refl

-- ---- tables

module _ (root : List ℕ) (r : Rectangle) (row : ℕ) (cut : IsCut r row) (format : Format) (bytes : List ℕ) where
  abbrev whole : ℕ → ℕ → ℕ → ℕ
  whole = pixels_from_raw r format bytes

  abbrev upper : ℕ → ℕ → ℕ → ℕ
  upper = pixels_from_raw (top r row) format (take (byte_count (top r row) format) bytes)

  abbrev lower : ℕ → ℕ → ℕ → ℕ
  lower = pixels_from_raw (bottom r row) format (drop (byte_count (top r row) format) bytes)

  abbrev change : Rectangle → (ℕ → ℕ → ℕ → ℕ) → List ℕ × Image → List ℕ × Image
  change part f entry = (entry.0, cond (bytes_eq root entry.0) (painted entry.1 part f) entry.1)

  image-cut : (b : Bool) (image : Image) → (b ≡ true → image.format ≡ format)
      → cond b (painted (cond b (painted image (bottom r row) lower) image) (top r row) upper) (cond b (painted image (bottom r row) lower) image)
      ≡ cond b (painted image r whole) image
  image-cut false image known = refl
  image-cut true image known =
      painted-cut r row cut image whole upper lower
      (λ u v c there few. first-samples r row cut format bytes u v c there (subst (λ (k : Format). c < channels k) (known refl) few))
      (λ u v c there few. second-samples r row cut format bytes u v c there (subst (λ (k : Format). c < channels k) (known refl) few))

  entries-cut : (entries : List (List ℕ × Image))
      → ((i : ℕ) (d : List ℕ × Image) → i < length entries → bytes_eq root (get_or entries i d).0 ≡ true → (get_or entries i d).1.format ≡ format)
      → map (change (top r row) upper) (map (change (bottom r row) lower) entries) ≡ map (change r whole) entries
  entries-cut [] known = refl
  entries-cut (e ∷ entries) known =
      let here = image-cut (bytes_eq root e.0) e.1 (known 0 e (omega arith)) in
      let rest = entries-cut entries (λ i d below. known (suc i) d (omega (arith, below))) in
      ap (λ (image : Image). let entry : List ℕ × Image = (e.0, image) in entry ∷ map (change (top r row) upper) (map (change (bottom r row) lower) entries)) here
      ∙ ap (λ (tail : List (List ℕ × Image)). change r whole e ∷ tail) rest

module _ (table : Table) (name : List ℕ) (view : View) (there : find table.buffers name ≡ Some view) where
  abbrev pub format_there : Format
  format_there = (root_image table view.root).format

  abbrev written-there : Rectangle → List ℕ → Table
  written-there r bytes = written table view.root r (pixels_from_raw r format_there bytes)

  pub put-there : (r : Rectangle) (bytes : List ℕ) → table_with table (Put name r bytes) ≡ written-there r bytes
  put-there r bytes = ap (λ (o : Option View). by_view table o (λ view. written table view.root r (pixels_from_raw r (root_image table view.root).format bytes))) there

  written_by-there : (r : Rectangle) (bytes : List ℕ) → written_by (layout_of table) (Put name r bytes) ≡ Some (view.root, r)
  written_by-there r bytes = ap (λ (o : Option View). option_map (λ (root : List ℕ). (root, r)) (option_map (λ (view : View). view.root) o)) there

  written-layout : (r : Rectangle) (bytes : List ℕ) → layout_of (written-there r bytes) ≡ layout_of table
  written-layout r bytes = ap layout_of (sym (put-there r bytes)) ∙ layout-with table (Put name r bytes)

  -- a root's format is the same once one is painted
  same_format : (r : Rectangle) (bytes : List ℕ) → (root_image (written-there r bytes) view.root).format ≡ format_there
  same_format r bytes =
      ap (λ (s : Shape). s.format) (sym (root_shape-is (written-there r bytes) view.root))
      ∙ ap (λ (l : TableLayout). (root_shape l view.root).format) (written-layout r bytes)
      ∙ ap (λ (s : Shape). s.format) (root_shape-is table view.root)

  known_format : AreDistinct table.roots → (i : ℕ) (d : List ℕ × Image) → i < length table.roots → bytes_eq view.root (get_or table.roots i d).0 ≡ true → (get_or table.roots i d).1.format ≡ format_there
  known_format distinct i d below same =
      let listed = find-listed table.roots distinct i d below in
      let found : find table.roots view.root ≡ Some (get_or table.roots i d).1 = ap (find table.roots) (name_from_test view.root (get_or table.roots i d).0 same) ∙ listed in
      ap (λ (o : Option Image). (unwrap_or o no_image).format) (sym found)

  module _ (distinct : AreDistinct table.roots) (r : Rectangle) (row : ℕ) (cut : IsCut r row) (bytes : List ℕ) where
    abbrev split : ℕ
    split = byte_count (top r row) format_there

    abbrev once : Table
    once = written-there (bottom r row) (drop split bytes)

    written-cut : written once view.root (top r row) (pixels_from_raw (top r row) format_there (take split bytes)) ≡ written-there r bytes
    written-cut =
        ap (λ (roots : List (List ℕ × Image)). let t : Table = record { roots = roots; buffers = table.buffers } in t)
        (entries-cut view.root r row cut format_there bytes table.roots (known_format distinct))

-- ---- workspaces

hulls-cut : (entries : Rectangles) (root : List ℕ) (r : Rectangle) (row : ℕ) → IsCut r row →
    with_written (with_written entries root (bottom r row)) root (top r row) ≡ with_written entries root r
hulls-cut [] root r row cut =
    let same = same_name root in
    let none : hull (bottom r row) (top r row) ≡ r = hull-parts r row cut in
    rw (same, none) refl
hulls-cut (e ∷ entries) root r row cut = cases (bytes_eq root e.0) refl (hulls-cut entries root r row cut)
  where
    cases : (b : Bool) → bytes_eq root e.0 ≡ b → with_written (with_written entries root (bottom r row)) root (top r row) ≡ with_written entries root r
        → with_written (cond b ((e.0, hull e.1 (bottom r row)) ∷ entries) (e ∷ with_written entries root (bottom r row))) root (top r row)
        ≡ cond b ((e.0, hull e.1 r) ∷ entries) (e ∷ with_written entries root r)
    cases true same rest = let both = hull-cut r row cut e.1 in rw (same, both) refl
    cases false apart rest = rw (apart, rest) refl

module _ {Op Delta : Type 0} where
  -- the workspace after a put that isn't refused
  abbrev after_put : Workspace Table Op Delta → List ℕ → Rectangle → (ℕ → ℕ → ℕ → ℕ) → Workspace Table Op Delta
  after_put workspace root r f = record workspace { working = written workspace.working root r f; written = with_written workspace.written root r }

  put-workspace : (workspace : Workspace Table Op Delta) (name : List ℕ) (view : View) → find workspace.working.buffers name ≡ Some view → (r : Rectangle) (bytes : List ℕ) →
      edit_refused (layout_of workspace.working) (Put name r bytes) ≡ None →
      after_edit workspace (Put name r bytes) ≡ after_put workspace view.root r (pixels_from_raw r (root_image workspace.working view.root).format bytes)
  put-workspace workspace name view there r bytes none =
      let table = workspace.working in
      ap (λ (refusal : Refusal). with_edit workspace (Put name r bytes) (unless_refused refusal (table_with table (Put name r bytes)))) none
      ∙ ap (λ (t : Table). with_working workspace t (written_by (layout_of table) (Put name r bytes))) (put-there table name view there r bytes)
      ∙ ap (λ (o : Option (List ℕ × Rectangle)). with_working workspace (written table view.root r (pixels_from_raw r (root_image table view.root).format bytes)) o) (written_by-there table name view there r bytes)

  -- Bytes that are put over the rows from one on, and then over those above, are put over all.
  pub put-cut : (workspace : Workspace Table Op Delta) (name : List ℕ) (view : View) → find workspace.working.buffers name ≡ Some view → AreDistinct workspace.working.roots →
      (r : Rectangle) (row : ℕ) → IsCut r row → (bytes : List ℕ) (count : ℕ) → count ≡ byte_count (top r row) (root_image workspace.working view.root).format →
      edit_refused (layout_of workspace.working) (Put name r bytes) ≡ None →
      edit_refused (layout_of workspace.working) (Put name (bottom r row) (drop count bytes)) ≡ None →
      edit_refused (layout_of workspace.working) (Put name (top r row) (take count bytes)) ≡ None →
      after_edit (after_edit workspace (Put name (bottom r row) (drop count bytes))) (Put name (top r row) (take count bytes)) ≡ after_edit workspace (Put name r bytes)
  put-cut workspace name view there distinct r row cut bytes count counted all lower upper =
      let table = workspace.working in
      let format = (root_image table view.root).format in
      let second = pixels_from_raw (bottom r row) format (drop count bytes) in
      let once = after_put workspace view.root (bottom r row) second in
      let layout : layout_of once.working ≡ layout_of table = written-layout table name view there (bottom r row) (drop count bytes) in
      let known : (root_image once.working view.root).format ≡ format = same_format table name view there (bottom r row) (drop count bytes) in
      let upper_once : edit_refused (layout_of once.working) (Put name (top r row) (take count bytes)) ≡ None = ap (λ (l : TableLayout). edit_refused l (Put name (top r row) (take count bytes))) layout ∙ upper in
      ap (λ (w : Workspace Table Op Delta). after_edit w (Put name (top r row) (take count bytes))) (put-workspace workspace name view there (bottom r row) (drop count bytes) lower)
      ∙ put-workspace once name view there (top r row) (take count bytes) upper_once
      ∙ ap (λ (f : Format). after_put once view.root (top r row) (pixels_from_raw (top r row) f (take count bytes))) known
      ∙ ap (λ (w : Rectangles). let s : Workspace Table Op Delta = record once { working = written once.working view.root (top r row) (pixels_from_raw (top r row) format (take count bytes)); written = w } in s)
      (hulls-cut workspace.written view.root r row cut)
      ∙ ap (λ (t : Table). let s : Workspace Table Op Delta = record workspace { working = t; written = with_written workspace.written view.root r } in s)
      (subst (λ (n : ℕ). written (written table view.root (bottom r row) (pixels_from_raw (bottom r row) format (drop n bytes))) view.root (top r row) (pixels_from_raw (top r row) format (take n bytes)) ≡ written table view.root r (pixels_from_raw r format bytes))
      (sym counted) (written-cut table name view there distinct r row cut bytes))
      ∙ sym (put-workspace workspace name view there r bytes all)
