-- Each answer of an edit has its cause.
use Rattle.std.proofs.Common.{◌≡◌, ℕ, ℤ, List, Some, Ok, inl, inr, refl, sym, subst}
use Rattle.std.specs.Prelude.{MatchOption}
use Rattle.plane_rect.specs.Rectangle.{Rectangle, Includes, shifted}
use Rattle.model_graphs.specs.Shapes.{Shape}
use Rattle.model_buffers.specs.declared.refused.EditRefused.{EditRefused}
use Rattle.model_buffers.specs.declared.edit.BufferEdit.{BufferEdit}
use Rattle.model_buffers.specs.declared.edit.BufferEdit.TheVariants.{Create, Sub, Duplicate, Fill, Put, Copy}
use Rattle.model_buffers.specs.BufferEdit.{add_refused, copy_refused, edit_refused, fill_refused, if_known, put_refused}
use Rattle.model_buffers.specs.Layout.{TableLayout, View, find, buffer_shape, view_shape}
use Rattle.model_buffers.specs.Causes.{IsKnown, IsAddable, AddRefused, AddFromRefused, IsFillable, FillRefused, IsPuttable, PutRefused, HasMoved, HasBoth, IsCopyable, CopyRefused, IsCarriedOut, IsRefused}
use Rattle.model_buffers.proofs.AnswerLaws.{known, added, filled, put, copied}

module _ (layout : TableLayout) where
  pub known-seen : (name : List ℕ) (view : View) → find layout.buffers name ≡ Some view → IsKnown layout name
  known-seen name view e = rw e refl

  -- what is seen through the view of a buffer is the buffer
  pub shape-seen : (name : List ℕ) (view : View) → find layout.buffers name ≡ Some view → view_shape layout view ≡ buffer_shape layout name
  shape-seen name view e = rw e refl

  create-causes : (name : List ℕ) → MatchOption (add_refused layout name) (IsAddable layout name) (AddRefused layout name)
  create-causes name =
      added (IsAddable layout name) (AddRefused layout name) layout name (λ taken. taken) (λ none full. (none, full)) (λ none room. (none, room))

  -- a new name, where another buffer must be there
  from-causes : (name from : List ℕ)
      → MatchOption (if_known (find layout.buffers from) (λ view. add_refused layout name)) (IsKnown layout from × IsAddable layout name) (AddFromRefused layout name from)
  from-causes name from =
      known (IsKnown layout from × IsAddable layout name) (AddFromRefused layout name from) (find layout.buffers from) _ (λ none. none) (λ view e.
      let there = known-seen from view e in
      added (IsKnown layout from × IsAddable layout name) (AddFromRefused layout name from) layout name
      (λ taken. (there, taken)) (λ none full. (there, (none, full))) (λ none room. (there, (none, room))))

  fill-causes : (name : List ℕ) (r : Rectangle) (samples : List ℕ)
      → MatchOption (edit_refused layout (Fill name r samples)) (IsFillable layout name r samples) (FillRefused layout name r samples)
  fill-causes name r samples =
      known (IsFillable layout name r samples) (FillRefused layout name r samples) (find layout.buffers name) _ (λ none. none) (λ view e.
      let there = known-seen name view e in
      subst (λ (shape : Shape). MatchOption (fill_refused shape r samples) (IsFillable layout name r samples) (FillRefused layout name r samples)) (sym (shape-seen name view e))
      (filled (IsFillable layout name r samples) (FillRefused layout name r samples) (buffer_shape layout name) r samples
      (λ out. (there, out)) (λ inside other. ((there, inside), other)) (λ inside pixel. ((there, inside), pixel))))

  put-causes : (name : List ℕ) (r : Rectangle) (bytes : List ℕ)
      → MatchOption (edit_refused layout (Put name r bytes)) (IsPuttable layout name r bytes) (PutRefused layout name r bytes)
  put-causes name r bytes =
      known (IsPuttable layout name r bytes) (PutRefused layout name r bytes) (find layout.buffers name) _ (λ none. none) (λ view e.
      let there = known-seen name view e in
      subst (λ (shape : Shape). MatchOption (put_refused shape r bytes) (IsPuttable layout name r bytes) (PutRefused layout name r bytes)) (sym (shape-seen name view e))
      (put (IsPuttable layout name r bytes) (PutRefused layout name r bytes) (buffer_shape layout name) r bytes
      (λ out. (there, out)) (λ inside other. ((there, inside), other, refl, refl)) (λ inside same. ((there, inside), same))))

  module _ (from to : List ℕ) (r : Rectangle) (dx dy : ℤ) where
    abbrev Done : Type 0
    Done = IsCopyable layout from to r dx dy

    abbrev Refused : EditRefused → Type 0
    Refused = CopyRefused layout from to r dx dy

    copy-causes : MatchOption (edit_refused layout (Copy from to r dx dy)) Done Refused
    copy-causes =
        known Done Refused (find layout.buffers from) _ (λ none. inl none) (λ source s.
        known Done Refused (find layout.buffers to) _ (λ none. inr none) (λ target t.
        let there = known-seen from source s in
        let here = known-seen to target t in
        let both : Includes (buffer_shape layout from).box r → (m : Rectangle) → shifted dx dy r ≡ Ok m → Includes (buffer_shape layout to).box m → HasBoth layout from to r dx dy =
        λ inside m e room. ((there, inside), here, subst (HasMoved layout to) (sym e) room) in
        subst (λ (shape : Shape). MatchOption (copy_refused shape (view_shape layout target) r (shifted dx dy r)) Done Refused) (sym (shape-seen from source s))
        (subst (λ (shape : Shape). MatchOption (copy_refused (buffer_shape layout from) shape r (shifted dx dy r)) Done Refused) (sym (shape-seen to target t))
        (copied Done Refused (buffer_shape layout from) (buffer_shape layout to) r (shifted dx dy r)
        (λ out. (there, here, λ has. out has.0.1))
        (λ inside refused e. (there, here, λ has. subst (HasMoved layout to) e has.2))
        (λ inside m e out. (there, here, λ has. out (subst (HasMoved layout to) e has.2)))
        (λ inside m e room unlike. (both inside m e room, unlike))
        (λ inside m e room same. (both inside m e room, same))))))

  pub causes : (edit : BufferEdit) → MatchOption (edit_refused layout edit) (IsCarriedOut layout edit) (IsRefused layout edit)
  causes (Create name format extent) = create-causes name
  causes (Sub name parent r) = from-causes name parent
  causes (Duplicate name from) = from-causes name from
  causes (Fill name r samples) = fill-causes name r samples
  causes (Put name r bytes) = put-causes name r bytes
  causes (Copy from to r dx dy) = copy-causes from to r dx dy
