use Rattle.std.proofs.Common.{refl, rules, ◌≡◌, ◌∙◌, None, ap, sym, subst}
use Rattle.std.proofs.lemmas.Result.{err_from_is_err_and}
use Rattle.model_buffers.specs.BufferEdit.{edit_refused, layout_with}
use Rattle.model_buffers.specs.declared.edit.BufferEdit.TheVariants.{Sub}
use Rattle.model_buffers.specs.Layout.{TableLayout}
use Rattle.buffer_view.specs.BufferTables.{AreBuffersOver, BufferTable, IsBufferTable, table_of}
use Rattle.buffer_view.proofs.Changed.{held_as}
use Rattle.buffer_view.proofs.Added.{edited-new, over-parted, shown-parted, table-parted}
use Rattle.buffer_view.proofs.Edited.{add-failed, add-refused}
use Rattle.buffer_view.proofs.Refusals.{exact-none}
use Rattle.buffer_view.proofs.buffers.Buffers.sub.Goals as goal

pub returns-in-Some : goal.returns-in-Some
returns-in-Some c =
    add-refused (Sub c.args.name c.args.parent c.args.rect) c.args.self.now _ c.in-Some.refused refl
    (ap (λ (b : BufferTable). edit_refused b.layout (Sub c.args.name c.args.parent c.args.rect)) (sym c.self.view_is) ∙ sym (c.sub_refused.ensures c.args.rect) ∙ c.in-Some.is)

pub returns-in_err-reserve : goal.returns-in_err-reserve
returns-in_err-reserve c =
    let p = err_from_is_err_and c.from_residual.result c.from_residual.ensures.1 in
    rw (p.1, p.2) (add-failed (Sub c.args.name c.args.parent c.args.rect) c.args.self.now _ (search rules)
    (ap (λ (b : BufferTable). edit_refused b.layout (Sub c.args.name c.args.parent c.args.rect)) (sym c.self.view_is) ∙ sym (c.sub_refused.ensures c.args.rect) ∙ c.in_default.is))

pub sub-requires-clause-carried_out : goal.sub-requires-clause-carried_out
sub-requires-clause-carried_out c =
    let e = Sub c.args.name c.args.parent c.args.rect in
    ap (λ (l : TableLayout). edit_refused l e) c.reserve.ensures.layout ∙ sym (c.sub_refused.ensures c.args.rect) ∙ c.in_default.is

is : (c : goal.After-sub) → IsBufferTable c.args.self.now
is c = subst IsBufferTable c.self.view_is c.self.invariant

none : (c : goal.After-sub) → edit_refused c.args.self.now.layout (Sub c.args.name c.args.parent c.args.rect) ≡ None
none c =
    ap (λ (b : BufferTable). edit_refused b.layout (Sub c.args.name c.args.parent c.args.rect)) (sym c.self.view_is)
    ∙ sym (c.sub_refused.ensures c.args.rect) ∙ c.in_default.is

-- the table with the new buffer
after : (c : goal.After-sub) → held_as c.sub.new.self.layout c.self.inside.roots.items
    ≡ held_as (layout_with c.args.self.now.layout (Sub c.args.name c.args.parent c.args.rect)) c.args.self.now.roots
after c =
    let old : BufferTable = record { layout = c.self.inside.layout.layout; roots = c.self.inside.roots.items } in
    edited-new old c.args.self.now c.self.view_is (Sub c.args.name c.args.parent c.args.rect) c.reserve.new.self.layout c.sub.new.self.layout c.reserve.ensures.layout c.sub.ensures

pub invariant_of-self-2 : goal.invariant_of-self-2
invariant_of-self-2 c =
    subst IsBufferTable (sym (after c)) (table-parted c.args.self.now (is c) c.args.name c.args.parent c.args.rect c.first_column.ensures.rectangle (none c))

pub returns : goal.returns
returns c =
    let now = c.args.self.now in
    record {
      layout = ap (λ (b : BufferTable). b.layout) (after c);
      table = λ held.
          ap (λ (b : BufferTable). table_of b held) (after c)
          ∙ shown-parted now (is c) c.args.name c.args.parent c.args.rect c.first_column.ensures.rectangle (none c) held;
      exact = λ cause given. exact-none _ (edit_refused now.layout (Sub c.args.name c.args.parent c.args.rect)) cause (none c) given;
      cause = tt;
      carried_out = none c;
      over = λ held over.
          subst (λ (b : BufferTable). AreBuffersOver b held) (sym (after c))
          (over-parted now (is c) c.args.name c.args.parent c.args.rect c.first_column.ensures.rectangle (none c) held over);
      names = search rules;
    }
