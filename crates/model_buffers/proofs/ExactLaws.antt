-- The facts of `Causes` exclude each other, so each answer comes exactly where its fact holds.
use Rattle.std.proofs.Common.{◌≡◌, ◌↔◌, ◌⊎◌, ℤ, ℕ, List, None, Some, Ok, Err, inl, inr, refl, sym, ap, ◌∙◌, subst, arith}
use Rattle.std.specs.Prelude.{IsOk, MatchOption}
use Rattle.plane_rect.specs.Rectangle.{Rectangle}
use Rattle.model_buffers.specs.declared.refused.EditRefused.{EditRefused}
use Rattle.model_buffers.specs.declared.refused.EditRefused.TheVariants.{UnknownBuffer, NameTaken, OutOfBounds, WrongSize, Formats, TooManyBuffers}
use Rattle.model_buffers.specs.declared.edit.BufferEdit.{BufferEdit}
use Rattle.model_buffers.specs.declared.edit.BufferEdit.TheVariants.{Create, Sub, Duplicate, Fill, Put, Copy}
use Rattle.model_buffers.specs.BufferEdit.{Refusal, edit_refused}
use Rattle.model_buffers.specs.Causes.{IsKnown, IsUnknown, IsAddable, AddRefused, AddFromRefused, IsFillable, FillRefused, IsPuttable, PutRefused, IsCopyable, CopyRefused, IsCarriedOut, IsRefused}
use Rattle.model_buffers.specs.Edits.{edited_table, table_with, unless_refused}
use Rattle.model_buffers.specs.Layout.{TableLayout}
use Rattle.model_buffers.specs.Table.{Table, layout_of}
use Rattle.model_buffers.proofs.CauseLaws.{causes}

-- ---- a new name

clash : (layout : TableLayout) (name : List ℕ) → IsKnown layout name → IsUnknown layout name → ⊥
clash layout name k u = cc (k, u)

module _ (layout : TableLayout) (name : List ℕ) where
  pub add-alone : (e : EditRefused) → AddRefused layout name e → IsAddable layout name → ⊥
  add-alone NameTaken k a = clash layout name k a.0
  add-alone TooManyBuffers f a = omega (arith, f.1, a.1)
  add-alone e x a = x

  pub add-apart : (e f : EditRefused) → AddRefused layout name e → AddRefused layout name f → e ≡ f
  add-apart NameTaken NameTaken p q = refl
  add-apart TooManyBuffers TooManyBuffers p q = refl
  add-apart NameTaken TooManyBuffers p q = absurd (clash layout name p q.0)
  add-apart TooManyBuffers NameTaken p q = absurd (clash layout name q p.0)
  add-apart NameTaken f p q = absurd q
  add-apart TooManyBuffers f p q = absurd q
  add-apart e f p q = absurd p

  module _ (from : List ℕ) where
    pub from-alone : (e : EditRefused) → AddFromRefused layout name from e → IsKnown layout from × IsAddable layout name → ⊥
    from-alone UnknownBuffer u a = clash layout from a.0 u
    from-alone e x a = add-alone e x.1 a.1

    pub from-apart : (e f : EditRefused) → AddFromRefused layout name from e → AddFromRefused layout name from f → e ≡ f
    from-apart UnknownBuffer UnknownBuffer p q = refl
    from-apart UnknownBuffer f p q = absurd (clash layout from q.0 p)
    from-apart e UnknownBuffer p q = absurd (clash layout from p.0 q)
    from-apart e f p q = add-apart e f p.1 q.1

-- ---- a rectangle of a buffer

module _ (layout : TableLayout) (name : List ℕ) (r : Rectangle) (given : List ℕ) where
  pub fill-alone : (e : EditRefused) → FillRefused layout name r given e → IsFillable layout name r given → ⊥
  fill-alone UnknownBuffer u a = clash layout name a.0.0 u
  fill-alone OutOfBounds o a = o.1 a.0.1
  fill-alone Formats x a = x.1 a.1
  fill-alone e x a = x

  pub fill-apart : (e f : EditRefused) → FillRefused layout name r given e → FillRefused layout name r given f → e ≡ f
  fill-apart UnknownBuffer UnknownBuffer p q = refl
  fill-apart OutOfBounds OutOfBounds p q = refl
  fill-apart Formats Formats p q = refl
  fill-apart UnknownBuffer OutOfBounds p q = absurd (clash layout name q.0 p)
  fill-apart UnknownBuffer Formats p q = absurd (clash layout name q.0.0 p)
  fill-apart OutOfBounds UnknownBuffer p q = absurd (clash layout name p.0 q)
  fill-apart OutOfBounds Formats p q = absurd (p.1 q.0.1)
  fill-apart Formats UnknownBuffer p q = absurd (clash layout name p.0.0 q)
  fill-apart Formats OutOfBounds p q = absurd (q.1 p.0.1)
  fill-apart UnknownBuffer f p q = absurd q
  fill-apart OutOfBounds f p q = absurd q
  fill-apart Formats f p q = absurd q
  fill-apart e f p q = absurd p

  pub put-alone : (e : EditRefused) → PutRefused layout name r given e → IsPuttable layout name r given → ⊥
  put-alone UnknownBuffer u a = clash layout name a.0.0 u
  put-alone OutOfBounds o a = o.1 a.0.1
  put-alone (WrongSize found wanted) x a = x.1 a.1
  put-alone e x a = x

  pub put-apart : (e f : EditRefused) → PutRefused layout name r given e → PutRefused layout name r given f → e ≡ f
  put-apart UnknownBuffer UnknownBuffer p q = refl
  put-apart OutOfBounds OutOfBounds p q = refl
  put-apart (WrongSize found wanted) (WrongSize found' wanted') p q =
      ap (λ (n : ℕ). WrongSize n wanted) (p.2 ∙ sym q.2) ∙ ap (λ (n : ℕ). WrongSize found' n) (p.3 ∙ sym q.3)
  put-apart UnknownBuffer OutOfBounds p q = absurd (clash layout name q.0 p)
  put-apart UnknownBuffer (WrongSize found wanted) p q = absurd (clash layout name q.0.0 p)
  put-apart OutOfBounds UnknownBuffer p q = absurd (clash layout name p.0 q)
  put-apart OutOfBounds (WrongSize found wanted) p q = absurd (p.1 q.0.1)
  put-apart (WrongSize found wanted) UnknownBuffer p q = absurd (clash layout name p.0.0 q)
  put-apart (WrongSize found wanted) OutOfBounds p q = absurd (q.1 p.0.1)
  put-apart UnknownBuffer f p q = absurd q
  put-apart OutOfBounds f p q = absurd q
  put-apart (WrongSize found wanted) f p q = absurd q
  put-apart e f p q = absurd p

-- ---- a copy

module _ (layout : TableLayout) (from to : List ℕ) (r : Rectangle) (dx dy : ℤ) where
  clash_of_two : IsUnknown layout from ⊎ IsUnknown layout to → IsKnown layout from → IsKnown layout to → ⊥
  clash_of_two (inl u) k l = clash layout from k u
  clash_of_two (inr u) k l = clash layout to l u

  pub copy-alone : (e : EditRefused) → CopyRefused layout from to r dx dy e → IsCopyable layout from to r dx dy → ⊥
  copy-alone UnknownBuffer u a = clash_of_two u a.0.0.0 a.0.1
  copy-alone OutOfBounds o a = o.2 a.0
  copy-alone Formats x a = x.1 a.1
  copy-alone e x a = x

  pub copy-apart : (e f : EditRefused) → CopyRefused layout from to r dx dy e → CopyRefused layout from to r dx dy f → e ≡ f
  copy-apart UnknownBuffer UnknownBuffer p q = refl
  copy-apart OutOfBounds OutOfBounds p q = refl
  copy-apart Formats Formats p q = refl
  copy-apart UnknownBuffer OutOfBounds p q = absurd (clash_of_two p q.0 q.1)
  copy-apart UnknownBuffer Formats p q = absurd (clash_of_two p q.0.0.0 q.0.1)
  copy-apart OutOfBounds UnknownBuffer p q = absurd (clash_of_two q p.0 p.1)
  copy-apart OutOfBounds Formats p q = absurd (p.2 q.0)
  copy-apart Formats UnknownBuffer p q = absurd (clash_of_two q p.0.0.0 p.0.1)
  copy-apart Formats OutOfBounds p q = absurd (q.2 p.0)
  copy-apart UnknownBuffer f p q = absurd q
  copy-apart OutOfBounds f p q = absurd q
  copy-apart Formats f p q = absurd q
  copy-apart e f p q = absurd p

-- ---- each edit

module _ (layout : TableLayout) where
  alone : (edit : BufferEdit) (e : EditRefused) → IsRefused layout edit e → IsCarriedOut layout edit → ⊥
  alone (Create name format extent) = add-alone layout name
  alone (Sub name parent r) = from-alone layout name parent
  alone (Duplicate name from) = from-alone layout name from
  alone (Fill name r samples) = fill-alone layout name r samples
  alone (Put name r bytes) = put-alone layout name r bytes
  alone (Copy from to r dx dy) = copy-alone layout from to r dx dy

  apart : (edit : BufferEdit) (e f : EditRefused) → IsRefused layout edit e → IsRefused layout edit f → e ≡ f
  apart (Create name format extent) = add-apart layout name
  apart (Sub name parent r) = from-apart layout name parent
  apart (Duplicate name from) = from-apart layout name from
  apart (Fill name r samples) = fill-apart layout name r samples
  apart (Put name r bytes) = put-apart layout name r bytes
  apart (Copy from to r dx dy) = copy-apart layout from to r dx dy

-- ---- each answer

module _ (A : Type 0) (R : EditRefused → Type 0) (lone : (e : EditRefused) → R e → A → ⊥) where
  exactly_done : (r : Refusal) → MatchOption r A R → (r ≡ None) ↔ A
  exactly_done None a = (λ _. a, λ _. refl)
  exactly_done (Some e) x = (λ h. absurd (cc), λ a. absurd (lone e x a))

  exactly_refused : ((e f : EditRefused) → R e → R f → e ≡ f) → (r : Refusal) → MatchOption r A R → (e : EditRefused) → (r ≡ Some e) ↔ R e
  exactly_refused one None a e = (λ h. absurd (cc), λ x. absurd (lone e x a))
  exactly_refused one (Some f) y e = (λ h. let same : f ≡ e = cc h in subst R same y, λ x. ap Some (one f e y x))

pub carried_out : (layout : TableLayout) (edit : BufferEdit) → (edit_refused layout edit ≡ None) ↔ IsCarriedOut layout edit
carried_out layout edit =
    exactly_done (IsCarriedOut layout edit) (IsRefused layout edit) (alone layout edit) (edit_refused layout edit) (causes layout edit)

pub refused : (layout : TableLayout) (edit : BufferEdit) (e : EditRefused) → (edit_refused layout edit ≡ Some e) ↔ IsRefused layout edit e
refused layout edit =
    exactly_refused (IsCarriedOut layout edit) (IsRefused layout edit) (alone layout edit) (apart layout edit) (edit_refused layout edit) (causes layout edit)

ok_where : (r : Refusal) (after : Table) → IsOk (unless_refused r after) ↔ (r ≡ None)
ok_where None after = (λ _. refl, λ _. refl)
ok_where (Some e) after = (λ h. absurd (cc), λ h. absurd (cc))

err_where : (r : Refusal) (after : Table) (e : EditRefused) → (unless_refused r after ≡ Err e) ↔ (r ≡ Some e)
err_where None after e = (λ h. absurd (cc), λ h. absurd (cc))
err_where (Some f) after e = (λ h. let same : f ≡ e = cc h in ap Some same, λ h. let same : f ≡ e = cc h in ap Err same)

pub table-carried_out : (table : Table) (edit : BufferEdit) → IsOk (edited_table table edit) ↔ IsCarriedOut (layout_of table) edit
table-carried_out table edit =
    let ok = ok_where (edit_refused (layout_of table) edit) (table_with table edit) in
    let done = carried_out (layout_of table) edit in
    (λ h. done.0 (ok.0 h), λ h. ok.1 (done.1 h))

pub table-refused : (table : Table) (edit : BufferEdit) (e : EditRefused) → (edited_table table edit ≡ Err e) ↔ IsRefused (layout_of table) edit e
table-refused table edit e =
    let err = err_where (edit_refused (layout_of table) edit) (table_with table edit) e in
    let by = refused (layout_of table) edit e in
    (λ h. by.0 (err.0 h), λ h. err.1 (by.1 h))

pub table-after : (table : Table) (edit : BufferEdit) → edit_refused (layout_of table) edit ≡ None → edited_table table edit ≡ Ok (table_with table edit)
table-after table edit none = ap (λ (r : Refusal). unless_refused r (table_with table edit)) none
