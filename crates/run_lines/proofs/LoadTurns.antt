-- One band of a raster more, in all files that a shelf may have.
use Rattle.std.proofs.Common.{◌≡◌, ℕ, ◌-◌, ◌<◌, ◌≤◌, ◌==◌, List, length, Option, Some, None, Ok, Err, IsSomeAnd, IfSome, inr, refl, subst, arith}
use Rattle.std.specs.Option.{option_map}
use Rattle.chain_owners.specs.Held.{Held}
use Rattle.commit_session.specs.Parts.{Parts}
use Rattle.commit_session.specs.Seen.{IsOver}
use Rattle.commit_session.specs.declared.refused.SessionRefused.{SessionRefused}
use Rattle.model_buffers.proofs.FactLaws.{fact-found}
use Rattle.model_buffers.specs.Layout.{AreDistinct, TableLayout, View, fact_in, facts_of, find}
use Rattle.model_buffers.specs.declared.edit.BufferEdit.TheVariants.{Put}
use Rattle.model_graphs.specs.Facts.{fact_of}
use Rattle.model_graphs.specs.declared.buffer.BufferFact.{BufferFact}
use Rattle.model_images.specs.FromRaw.{byte_count}
use Rattle.model_operations.specs.Meanings.{int_meanings, same_operation}
use Rattle.model_operations.specs.declared.operation.IntOp.{IntOp}
use Rattle.outside_io.specs.Files.{Files, file}
use Rattle.pixel_formats.specs.declared.format.Format.{Format}
use Rattle.plane_rect.specs.Rectangle.{IsRectangle, Rectangle, end_row}
use Rattle.run_lines.proofs.LoadBands.{IsLoad, IsLoaded, all-put, band-put, band-stopped}
use Rattle.run_lines.specs.Bands.{BeginsBand, IsReached, bytes_of_rows, rows_between}
use Rattle.run_lines.specs.Edited.{IsEdited, SessionOver, layout_in}
use Rattle.run_lines.specs.Rasters.{IsPartRead, IsTarget}

-- ---- the buffer

-- the view of a buffer that is known
pub known_view : (layout : TableLayout) (name : List ℕ) (r : Rectangle) (format : Format) → IsSomeAnd (fact_of (facts_of layout) name) (IsTarget r format) →
    (view : View) × (find layout.buffers name ≡ Some view) × IsTarget r format (fact_in layout name view)
known_view layout name r format target = by (find layout.buffers name) refl (subst (λ (o : Option BufferFact). IsSomeAnd o (IsTarget r format)) (fact-found layout name) target)
  where
    by : (o : Option View) → find layout.buffers name ≡ o → IsSomeAnd (option_map (fact_in layout name) o) (IsTarget r format) → (view : View) × (find layout.buffers name ≡ Some view) × IsTarget r format (fact_in layout name view)
    by None found target = absurd target
    by (Some view) found target = (view, found, target)

-- no name of a root stands twice
pub roots-apart : (parts : Parts IntOp) (held : Held) → IsOver same_operation int_meanings parts held → AreDistinct parts.versions.working.layout.roots
roots-apart parts held over =
    subst (λ (layout : TableLayout). AreDistinct layout.roots) over.is.working.layout over.valid.history.working.layout.root_names

-- ---- a band

-- what holds of each value
pub all_some : {X : Type 0} → (o : Option X) (P : X → Type 0) → ((x : X) → P x) → IfSome o P
all_some None P each = tt
all_some (Some x) P each = each x

both_some : {X : Type 0} → (o : Option X) (P Q R : X → Type 0) → ((x : X) → P x → Q x → R x) → IfSome o P → IfSome o Q → IfSome o R
both_some None P Q R step first second = tt
both_some (Some x) P Q R step first second = step x first second

module _ (old now next : SessionOver) (name : List ℕ) (r : Rectangle) (format : Format) (target : IsSomeAnd (fact_of (facts_of (layout_in old)) name) (IsTarget r format))
    (distinct : AreDistinct (layout_in old).roots) (same : layout_in now ≡ layout_in old) (is : IsRectangle r) (end row : ℕ) (reached : IsReached r end) (begins : BeginsBand r end row)
    (shelf : Option Files) (source read : List ℕ) (long : length read ≡ bytes_of_rows r format (end - row))
    (part : IfSome shelf (λ (actual : Files). IsPartRead (file actual source) (bytes_of_rows r format (row - r.first_row)) (bytes_of_rows r format (end - row)) (end == end_row r) (byte_count r format) read))
    (loaded : IfSome shelf (λ (actual : Files). IsLoaded (file actual source) name r format end old now)) where
  abbrev known : (view : View) × (find (layout_in old).buffers name ≡ Some view) × IsTarget r format (fact_in (layout_in old) name view)
  known = known_view (layout_in old) name r format target

  -- the band is put, and others are left
  pub turn_put : r.first_row < row → IsEdited (Put name (rows_between r row end) read) (Ok tt) now next → IfSome shelf (λ (actual : Files). IsLoaded (file actual source) name r format row old next)
  turn_put left edited =
      both_some shelf _ _ (λ (actual : Files). IsLoaded (file actual source) name r format row old next)
      (λ actual first second.
      let below : row < end_row r = omega (arith, left, begins.last, reached.last, begins.some (omega (arith, left, begins.last))) in
      inr (below, band-put old now next name known.0 known.1 same distinct r format is known.2.inside known.2.same end row reached begins (file actual source) read long first second edited))
      part loaded

  -- it is put, and none is left
  pub turn_done : row ≤ r.first_row → IsEdited (Put name (rows_between r row end) read) (Ok tt) now next → IfSome shelf (λ (actual : Files). IsLoad (file actual source) name r (Ok tt) old next)
  turn_done none edited =
      both_some shelf _ _ (λ (actual : Files). IsLoad (file actual source) name r (Ok tt) old next)
      (λ actual first second. all-put old now next name known.0 known.1 same distinct r format is known.2.inside known.2.same end row reached begins (file actual source) read long first second none edited)
      part loaded

  -- it stops
  pub turn_stopped : (refused : SessionRefused) → IsEdited (Put name (rows_between r row end) read) (Err refused) now next → IfSome shelf (λ (actual : Files). IsLoad (file actual source) name r (Err refused) old next)
  turn_stopped refused edited =
      both_some shelf _ _ (λ (actual : Files). IsLoad (file actual source) name r (Err refused) old next)
      (λ actual first second. band-stopped old now next name known.0 known.1 same distinct r format is known.2.inside known.2.same end row reached begins (file actual source) read long first second refused edited)
      part loaded
