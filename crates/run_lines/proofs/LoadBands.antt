-- Rasters that are loaded by bands, the last one first: what was put so far is put as if by one edit.
use Rattle.std.proofs.Common.{◌≡◌, ℕ, ◌+◌, ◌-◌, ◌*◌, ◌/◌, ◌<◌, ◌≤◌, ◌⊎◌, inl, inr, ◌==◌, Bool, true, List, length, take, drop, Some, None, Option, Result, Ok, Err, refl, sym, ap, ◌∙◌, subst, arith}
use Rattle.std.proofs.lemmas.Bool.Decides.{nat_tests}
use Rattle.std.proofs.lemmas.List.{drop-drop, length-drop, take_all}
use Rattle.std.specs.Option.{is_some}
use Rattle.buffer_view.specs.Causes.{HasEditCause}
use Rattle.buffer_view.specs.declared.refused.BufferRefused.{BufferRefused}
use Rattle.buffer_view.specs.declared.refused.BufferRefused.TheVariants as buffer_refusals
use Rattle.chain_owners.proofs.Growing.{grows-both, grows-more, grows-same}
use Rattle.chain_owners.specs.Counts.{Grows}
use Rattle.commit_session.specs.declared.refused.SessionRefused.{SessionRefused}
use Rattle.model_buffers.proofs.FindLaws.{AreDistinct-from_mapped}
use Rattle.model_buffers.proofs.ShapeLaws.{root_shape-is}
use Rattle.model_buffers.specs.BufferEdit.{edit_refused, if_known, put_refused, unless}
use Rattle.model_buffers.specs.Layout.{AreDistinct, TableLayout, View, find, root_shape, view_shape}
use Rattle.model_buffers.specs.Table.{Table, layout_of, root_image}
use Rattle.model_buffers.specs.declared.edit.BufferEdit.TheVariants.{Put}
use Rattle.model_buffers.specs.declared.refused.EditRefused.TheVariants.{OutOfBounds, WrongSize}
use Rattle.model_graphs.specs.Shapes.{Shape, shape_of_image}
use Rattle.model_images.specs.FromRaw.{byte_count}
use Rattle.model_images.specs.TileCounts.{tile_count}
use Rattle.model_operations.specs.declared.operation.IntOp.{IntOp}
use Rattle.model_sessions.specs.Sessions.{Session}
use Rattle.model_sessions.specs.Steps.{EditBuffer, with_workspace}
use Rattle.model_states.specs.Rectangles.{Rectangles}
use Rattle.model_states.specs.Workspace.{Workspace}
use Rattle.pixel_formats.specs.declared.format.Format.{Format}
use Rattle.plane_rect.specs.Rectangle.{IsRectangle, Rectangle, end_row, includes}
use Rattle.run_lines.proofs.BandParts.{after-row, before-end, nothing}
use Rattle.run_lines.proofs.Cuts.{IsCut, bottom, fewer-rows, includes-rows, rows-between, rows_at, tiles-cut, top, wide-rows}
use Rattle.run_lines.proofs.PutBands.{put-cut}
use Rattle.run_lines.specs.Bands.{BeginsBand, IsReached, bytes_of_rows, rows_between}
use Rattle.run_lines.specs.Edited.{IsEdited, IsHeld, SessionOver, layout_in, stepped}
use Rattle.run_lines.specs.Rasters.{IsPartRead}
use Rattle.chain_owners.proofs.Causes.{cause-before, cause-more}
use Rattle.chain_owners.specs.Cause.{HasSwapCause}
use Rattle.chain_owners.specs.declared.swap_refused.SwapRefused.{SwapRefused}
use Rattle.chain_owners.specs.declared.swap_refused.SwapRefused.TheVariants as swap_refusals

-- ---- puts that aren't refused

module _ (layout : TableLayout) (name : List ℕ) (view : View) (there : find layout.buffers name ≡ Some view) where
  abbrev pub format_in : Format
  format_in = (root_shape layout view.root).format

  -- the bytes of a rectangle that the buffer has
  pub not_refused : (part : Rectangle) (bytes : List ℕ) → includes view.extent part ≡ true → length bytes ≡ byte_count part format_in → edit_refused layout (Put name part bytes) ≡ None
  not_refused part bytes inside long =
      let wanted = byte_count part format_in in
      let whole : (length bytes == wanted) ≡ true = grind (arith, nat_tests, long) in
      ap (λ (o : Option View). if_known o (λ view. put_refused (view_shape layout view) part bytes)) there
      ∙ ap (λ (b : Bool). unless b OutOfBounds (unless (length bytes == wanted) (WrongSize (length bytes) wanted) None)) inside
      ∙ ap (λ (b : Bool). unless b (WrongSize (length bytes) wanted) None) whole

  module _ (distinct : AreDistinct layout.roots) (r : Rectangle) (row : ℕ) (cut : IsCut r row) (bytes : List ℕ) (count : ℕ) (counted : count ≡ byte_count (top r row) format_in) where
    -- a session of the layout, after both parts
    stepped-cut : (before : Session Table IntOp) → layout_of before.history.workspace.working ≡ layout → edit_refused layout (Put name r bytes) ≡ None →
        edit_refused layout (Put name (bottom r row) (drop count bytes)) ≡ None → edit_refused layout (Put name (top r row) (take count bytes)) ≡ None →
        stepped (stepped before (EditBuffer (Put name (bottom r row) (drop count bytes)))) (EditBuffer (Put name (top r row) (take count bytes)))
        ≡ stepped before (EditBuffer (Put name r bytes))
    stepped-cut before is all lower upper =
        let workspace = before.history.workspace in
        let table = workspace.working in
        let found : find table.buffers name ≡ Some view = ap (λ (l : TableLayout). find l.buffers name) is ∙ there in
        let apart : AreDistinct table.roots = AreDistinct-from_mapped shape_of_image table.roots (subst (λ (l : TableLayout). AreDistinct l.roots) (sym is) distinct) in
        let format : (root_image table view.root).format ≡ format_in =
        ap (λ (s : Shape). s.format) (sym (root_shape-is table view.root)) ∙ ap (λ (l : TableLayout). (root_shape l view.root).format) is in
        let many : count ≡ byte_count (top r row) (root_image table view.root).format = counted ∙ ap (byte_count (top r row)) (sym format) in
        ap (λ (w : Workspace Table IntOp Rectangles). let s : Session Table IntOp = record before { history = with_workspace before.history w } in s)
        (put-cut workspace name view found apart r row cut bytes count many
        (ap (λ (l : TableLayout). edit_refused l (Put name r bytes)) is ∙ all)
        (ap (λ (l : TableLayout). edit_refused l (Put name (bottom r row) (drop count bytes))) is ∙ lower)
        (ap (λ (l : TableLayout). edit_refused l (Put name (top r row) (take count bytes))) is ∙ upper))

-- ---- parts that are put one after the other

module _ (old mid new : SessionOver) (name : List ℕ) (view : View) (there : find (layout_in old).buffers name ≡ Some view) (same : layout_in mid ≡ layout_in old) where
  -- Both parts of a rectangle are put: so is the rectangle.
  pub edited-cut : AreDistinct (layout_in old).roots → (r : Rectangle) (row : ℕ) → IsCut r row → row ≡ 64 * (row / 64) → (bytes : List ℕ) (count : ℕ) →
      count ≡ byte_count (top r row) (format_in (layout_in old) name view there) → edit_refused (layout_in old) (Put name r bytes) ≡ None →
      IsEdited (Put name (bottom r row) (drop count bytes)) (Ok tt) old mid → IsEdited (Put name (top r row) (take count bytes)) (Ok tt) mid new →
      IsEdited (Put name r bytes) (Ok tt) old new
  edited-cut distinct r row cut edge bytes count counted none first second =
      let upper : edit_refused (layout_in old) (Put name (top r row) (take count bytes)) ≡ None =
      ap (λ (l : TableLayout). edit_refused l (Put name (top r row) (take count bytes))) (sym same) ∙ second.carried_out in
      let fewer = tiles-cut r row cut edge in
      let fewer_both : tile_count (bottom r row) + tile_count (top r row) ≤ tile_count r = omega (arith, fewer) in
      record {
        carried_out = none;
        session = λ before of.
            subst (IsHeld new.parts new.held)
            (stepped-cut (layout_in old) name view there distinct r row cut bytes count counted before of.working.layout none first.carried_out upper)
            (second.session (stepped before (EditBuffer (Put name (bottom r row) (drop count bytes)))) (first.session before of));
        exact = λ cause is. absurd (cc);
        cause = tt;
        capacity = second.capacity ∙ first.capacity;
        content = second.content ∙ first.content;
        counts = grows-more (tile_count (bottom r row) + tile_count (top r row)) (tile_count r) old.counts new.counts fewer_both
            (grows-both (tile_count (bottom r row)) (tile_count (top r row)) old.counts mid.counts new.counts first.counts second.counts);
      }

  -- A part stops: so does the rectangle, if neither is refused for itself.
  pub stopped-in : (r : Rectangle) (bytes : List ℕ) → edit_refused (layout_in old) (Put name r bytes) ≡ None → (part : Rectangle) (read : List ℕ) → edit_refused (layout_in old) (Put name part read) ≡ None →
      (added : ℕ) → added + tile_count part ≤ tile_count r → Grows added old.counts mid.counts → mid.parts.capacity ≡ old.parts.capacity → is_some mid.held.content ≡ is_some old.held.content →
      (refused : SessionRefused) → IsEdited (Put name part read) (Err refused) mid new → IsEdited (Put name r bytes) (Err refused) old new
  stopped-in r bytes none part read none_part added few grows capacity content refused is = record {
    carried_out = tt;
    session = λ before of. tt;
    exact = λ cause e. absurd (cc);
    cause = record { lower = is.cause.lower; is = is.cause.is; by_cause = cause_in is.cause.lower is.cause.by_cause };
    capacity = is.capacity ∙ capacity;
    content = is.content ∙ content;
    counts = grows-more (added + tile_count part) (tile_count r) old.counts new.counts few (grows-both added (tile_count part) old.counts mid.counts new.counts grows is.counts);
  }
    where
      swap_in : (stopped : SwapRefused) → HasSwapCause mid.counts new.counts (mid.counts.names + tile_count part) stopped → HasSwapCause old.counts new.counts (old.counts.names + tile_count r) stopped
      swap_in stopped by =
          cause-more old.counts new.counts (mid.counts.names + tile_count part) (old.counts.names + tile_count r) stopped (omega (arith, grows.names, few))
          (cause-before old.counts mid.counts new.counts added (mid.counts.names + tile_count part) stopped grows by)

      cause_in : (lower : BufferRefused) → HasEditCause (layout_in mid) (Put name part read) mid.counts new.counts lower → HasEditCause (layout_in old) (Put name r bytes) old.counts new.counts lower
      cause_in (buffer_refusals.Edit cause) by =
          absurd (let other : edit_refused (layout_in mid) (Put name part read) ≡ None = ap (λ (l : TableLayout). edit_refused l (Put name part read)) same ∙ none_part in cc)
      cause_in (buffer_refusals.Swap swap_refusals.SwapFault) by = swap_in swap_refusals.SwapFault by
      cause_in (buffer_refusals.Swap (swap_refusals.SwapFull needed longest)) by = swap_in (swap_refusals.SwapFull needed longest) by
      cause_in (buffer_refusals.Swap swap_refusals.NoMemory) by = absurd by
      cause_in buffer_refusals.NoMemory by = tt

-- ---- what was put of a raster

-- The rows from one on are put, of a file that has as many bytes as are wanted.
pub record ArePut (found : Option (List ℕ)) (name : List ℕ) (r : Rectangle) (format : Format) (first : ℕ) (old now : SessionOver) : Type 0 where
  pub bytes : List ℕ
  pub there : found ≡ Some bytes
  pub whole : length bytes ≡ byte_count r format
  pub edited : IsEdited (Put name (rows_at r first (end_row r - first)) (drop (bytes_of_rows r format (first - r.first_row)) bytes)) (Ok tt) old now

-- nothing is put, or the rows from one on
abbrev pub IsLoaded : Option (List ℕ) → List ℕ → Rectangle → Format → ℕ → SessionOver → SessionOver → Type 0
IsLoaded found name r format end old now =
    ((end ≡ end_row r) × (now ≡ old)) ⊎ ((end < end_row r) × ArePut found name r format end old now)

-- A put of a whole file did this.
pub record IsLoad (found : Option (List ℕ)) (name : List ℕ) (r : Rectangle) (result : Result (Unit {0}) SessionRefused) (old new : SessionOver) : Type 0 where
  pub bytes : List ℕ
  pub there : found ≡ Some bytes
  pub edited : IsEdited (Put name r bytes) result old new

-- ---- a band more

same_bytes : (found : Option (List ℕ)) (a b : List ℕ) → found ≡ Some a → found ≡ Some b → a ≡ b
same_bytes found a b first second = cc

module _ (old now next : SessionOver) (name : List ℕ) (view : View) (there : find (layout_in old).buffers name ≡ Some view) (same : layout_in now ≡ layout_in old)
    (distinct : AreDistinct (layout_in old).roots) (r : Rectangle) (format : Format) (is : IsRectangle r) (inside : includes view.extent r ≡ true)
    (format_is : format_in (layout_in old) name view there ≡ format)
    (end row : ℕ) (reached : IsReached r end) (begins : BeginsBand r end row) (found : Option (List ℕ)) (read : List ℕ) (long : length read ≡ bytes_of_rows r format (end - row))
    (part : IsPartRead found (bytes_of_rows r format (row - r.first_row)) (bytes_of_rows r format (end - row)) (end == end_row r) (byte_count r format) read)
    (loaded : IsLoaded found name r format end old now) where
  abbrev from : ℕ
  from = bytes_of_rows r format (row - r.first_row)

  abbrev many : ℕ
  many = bytes_of_rows r format (end - row)

  band-rows : rows_between r row end ≡ rows_at r row (end - row)
  band-rows = rows-between r is row end begins.first reached.last begins.last (λ some. begins.some (reached.some some))

  -- the file has as many bytes as are wanted
  whole : length part.bytes ≡ byte_count r format
  whole = elim loaded [
    | inl (at, same_session) ↦ part.ends (grind (arith, nat_tests, at))
    | inr (below, put) ↦ ap length (same_bytes found part.bytes put.bytes part.there put.there) ∙ put.whole
  ]

  rest-long : length (drop from part.bytes) ≡ bytes_of_rows r format (end_row r - row)
  rest-long = omega (arith, length-drop from part.bytes, whole, after-row r format is end row reached begins)

  -- the rows from the band's first on aren't refused, nor is the band
  rest-passes : edit_refused (layout_in old) (Put name (rows_at r row (end_row r - row)) (drop from part.bytes)) ≡ None
  rest-passes =
      not_refused (layout_in old) name view there (rows_at r row (end_row r - row)) (drop from part.bytes)
      (includes-rows view.extent r row (end_row r - row) begins.first (omega (arith, begins.last, reached.last)) is inside)
      (rest-long ∙ ap (byte_count (rows_at r row (end_row r - row))) (sym format_is))

  band-passes : edit_refused (layout_in old) (Put name (rows_between r row end) read) ≡ None
  band-passes =
      subst (λ (band : Rectangle). edit_refused (layout_in old) (Put name band read) ≡ None) (sym band-rows)
      (not_refused (layout_in old) name view there (rows_at r row (end - row)) read
      (includes-rows view.extent r row (end - row) begins.first (omega (arith, begins.last, reached.last)) is inside)
      (long ∙ ap (byte_count (rows_at r row (end - row))) (sym format_is)))

  whole-passes : edit_refused (layout_in old) (Put name r part.bytes) ≡ None
  whole-passes = not_refused (layout_in old) name view there r part.bytes inside (whole ∙ ap (byte_count r) (sym format_is))

  -- The band and the rows that were put are the two parts of the rows from the band's first on, which are cut where a row
  -- of tiles ends.
  record AreParts : Type 0 where
    pub some : row < end
    pub cut : IsCut (rows_at r row (end_row r - row)) end
    pub edge : end ≡ 64 * (end / 64)
    pub height : (row + (end_row r - row)) - end ≡ end_row r - end

  rest-cut : end < end_row r → AreParts
  rest-cut below =
      let first : row < end = begins.some (reached.some (omega (arith, below, reached.first))) in
      record {
        some = first;
        cut = record { wide = wide-rows r is (omega (arith, below, reached.first)); first = first; last = omega (arith, below, first) };
        edge = elim reached.edge [
          | inl at ↦ absurd (omega (arith, at, below))
          | inr on ↦ on
        ];
        height = omega (arith, begins.last, reached.last);
      }

  -- The band is put: so are the rows from its first on.
  rows-put : IsEdited (Put name (rows_between r row end) read) (Ok tt) now next → IsEdited (Put name (rows_at r row (end_row r - row)) (drop from part.bytes)) (Ok tt) old next
  rows-put edited = by loaded
    where
      by : IsLoaded found name r format end old now → IsEdited (Put name (rows_at r row (end_row r - row)) (drop from part.bytes)) (Ok tt) old next
      by (inl (at, same_session)) =
          let few : length (drop from part.bytes) ≤ many = omega (arith, rest-long, ap (λ (e : ℕ). bytes_of_rows r format (e - row)) at) in
          let all : read ≡ drop from part.bytes = part.part ∙ take_all many (drop from part.bytes) few in
          let rows : rows_between r row end ≡ rows_at r row (end_row r - row) = band-rows ∙ ap (λ (e : ℕ). rows_at r row (e - row)) at in
          subst (λ (session : SessionOver). IsEdited (Put name (rows_at r row (end_row r - row)) (drop from part.bytes)) (Ok tt) session next) same_session
          (subst (λ (b : List ℕ). IsEdited (Put name (rows_at r row (end_row r - row)) b) (Ok tt) now next) all
          (subst (λ (band : Rectangle). IsEdited (Put name band read) (Ok tt) now next) rows edited))
      by (inr (below, put)) =
          let rest = rows_at r row (end_row r - row) in
          let parts = rest-cut below in
          let dropped : drop many (drop from part.bytes) ≡ drop (bytes_of_rows r format (end - r.first_row)) put.bytes =
          drop-drop many from part.bytes ∙ ap (λ (n : ℕ). drop n part.bytes) (before-end r format is end row reached begins)
          ∙ ap (drop (bytes_of_rows r format (end - r.first_row))) (same_bytes found part.bytes put.bytes part.there put.there) in
          let first : IsEdited (Put name (bottom rest end) (drop many (drop from part.bytes))) (Ok tt) old now =
          subst (λ (h : ℕ). IsEdited (Put name (rows_at r end h) (drop many (drop from part.bytes))) (Ok tt) old now) (sym parts.height)
          (subst (λ (b : List ℕ). IsEdited (Put name (rows_at r end (end_row r - end)) b) (Ok tt) old now) (sym dropped) put.edited) in
          let second : IsEdited (Put name (top rest end) (take many (drop from part.bytes))) (Ok tt) now next =
          subst (λ (b : List ℕ). IsEdited (Put name (rows_at r row (end - row)) b) (Ok tt) now next) part.part
          (subst (λ (band : Rectangle). IsEdited (Put name band read) (Ok tt) now next) band-rows edited) in
          edited-cut old now next name view there same distinct rest end parts.cut parts.edge (drop from part.bytes) many (ap (byte_count (top rest end)) (sym format_is)) rest-passes first second

  pub band-put : IsEdited (Put name (rows_between r row end) read) (Ok tt) now next → ArePut found name r format row old next
  band-put edited = record { bytes = part.bytes; there = part.there; whole = whole; edited = rows-put edited }

  -- It is the last band: the file is put.
  pub all-put : row ≤ r.first_row → IsEdited (Put name (rows_between r row end) read) (Ok tt) now next → IsLoad found name r (Ok tt) old next
  all-put at edited =
      let first : row ≡ r.first_row = omega (arith, at, begins.first) in
      let none : row - r.first_row ≡ 0 = omega (arith, at) in
      let height : end_row r - row ≡ r.height = omega (arith, first) in
      let rows : rows_at r row (end_row r - row) ≡ r = rw (height, first) refl in
      let bytes : drop from part.bytes ≡ part.bytes = ap (λ (n : ℕ). drop (bytes_of_rows r format n) part.bytes) none ∙ ap (λ (n : ℕ). drop n part.bytes) (nothing r format) in
      record {
        bytes = part.bytes;
        there = part.there;
        edited = subst (λ (b : List ℕ). IsEdited (Put name r b) (Ok tt) old next) bytes
            (subst (λ (all : Rectangle). IsEdited (Put name all (drop from part.bytes)) (Ok tt) old next) rows (rows-put edited));
      }

  -- The band stops: so does the file.
  pub band-stopped : (refused : SessionRefused) → IsEdited (Put name (rows_between r row end) read) (Err refused) now next → IsLoad found name r (Err refused) old next
  band-stopped refused edited = record { bytes = part.bytes; there = part.there; edited = by loaded }
    where
      few : tile_count (rows_between r row end) ≤ tile_count r
      few = fewer-rows r is row end begins.first reached.last

      by : IsLoaded found name r format end old now → IsEdited (Put name r part.bytes) (Err refused) old next
      by (inl (at, same_session)) =
          stopped-in old now next name view there same r part.bytes whole-passes (rows_between r row end) read band-passes 0 (omega (arith, few))
          (subst (λ (session : SessionOver). Grows 0 old.counts session.counts) (sym same_session) (grows-same old.counts))
          (ap (λ (session : SessionOver). session.parts.capacity) same_session) (ap (λ (session : SessionOver). is_some session.held.content) same_session) refused edited
      by (inr (below, put)) =
          let rest = rows_at r row (end_row r - row) in
          let parts = rest-cut below in
          let some : row < end = parts.some in
          let both : tile_count (rows_at r row (end - row)) + tile_count (rows_at r end (end_row r - end)) ≤ tile_count rest =
          subst (λ (h : ℕ). tile_count (rows_at r row (end - row)) + tile_count (rows_at r end h) ≤ tile_count rest) parts.height (tiles-cut rest end parts.cut parts.edge) in
          let rows : tile_count (rows_between r row end) ≡ tile_count (rows_at r row (end - row)) = ap tile_count band-rows in
          let all : tile_count rest ≤ tile_count r =
          subst (λ (part : Rectangle). tile_count part ≤ tile_count r)
          (rows-between r is row (end_row r) begins.first (omega arith) (omega (arith, some, below)) (λ high. omega (arith, some, below)))
          (fewer-rows r is row (end_row r) begins.first (omega arith)) in
          stopped-in old now next name view there same r part.bytes whole-passes (rows_between r row end) read band-passes (tile_count (rows_at r end (end_row r - end)))
          (omega (arith, both, rows, all)) put.edited.counts put.edited.capacity put.edited.content refused edited
