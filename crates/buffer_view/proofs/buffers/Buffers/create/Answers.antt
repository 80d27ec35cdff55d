use Rattle.std.proofs.Common.{refl, rules, ◌≡◌, ◌∙◌, List, [], ◌∷◌, ◌++◌, None, ap, sym, subst}
use Rattle.std.proofs.lemmas.Result.{err_from_is_err_and}
use Rattle.model_buffers.specs.BufferEdit.{edit_refused}
use Rattle.model_buffers.specs.declared.edit.BufferEdit.TheVariants.{Create}
use Rattle.model_buffers.specs.Layout.{TableLayout}
use Rattle.plane_rect.specs.Rectangle.{InLimits, IsRectangle}
use Rattle.root_tiles.specs.Roots.{RootTiles, empty_root}
use Rattle.buffer_view.specs.BufferTables.{AreBuffersOver, BufferTable, IsBufferTable, buffers_names, table_of}
use Rattle.buffer_view.proofs.Changed.{held_as}
use Rattle.buffer_view.proofs.Added.{created-new, names-created, over-created, shown-created, table-created, with_new}
use Rattle.buffer_view.proofs.Edited.{add-failed, add-refused}
use Rattle.buffer_view.proofs.Refusals.{exact-none}
use Rattle.buffer_view.proofs.buffers.Buffers.create.Goals as goal

pub returns-in-Some : goal.returns-in-Some
returns-in-Some c =
    add-refused (Create c.args.name c.args.format c.args.extent) c.args.self.now _ c.in-Some.refused refl
    (ap (λ (b : BufferTable). edit_refused b.layout (Create c.args.name c.args.format c.args.extent)) (sym c.self.view_is) ∙ sym (c.create_refused.ensures c.args.format c.args.extent) ∙ c.in-Some.is)

pub returns-in_err-reserve : goal.returns-in_err-reserve
returns-in_err-reserve c =
    let p = err_from_is_err_and c.from_residual.result c.from_residual.ensures.1 in
    rw (p.1, p.2) (add-failed (Create c.args.name c.args.format c.args.extent) c.args.self.now _ (search rules)
    (ap (λ (b : BufferTable). edit_refused b.layout (Create c.args.name c.args.format c.args.extent)) (sym c.self.view_is) ∙ sym (c.create_refused.ensures c.args.format c.args.extent) ∙ c.in_default.is))

pub returns-in_err-reserve-2 : goal.returns-in_err-reserve-2
returns-in_err-reserve-2 c =
    let p = err_from_is_err_and c.from_residual-in_err-reserve-2.result c.from_residual-in_err-reserve-2.ensures.1 in
    rw (p.1, p.2) (add-failed (Create c.args.name c.args.format c.args.extent) c.args.self.now _ (search rules)
    (ap (λ (b : BufferTable). edit_refused b.layout (Create c.args.name c.args.format c.args.extent)) (sym c.self.view_is) ∙ sym (c.create_refused.ensures c.args.format c.args.extent) ∙ c.in_default.is))

pub create-requires-clause-carried_out : goal.create-requires-clause-carried_out
create-requires-clause-carried_out c =
    let e = Create c.args.name c.args.format c.args.extent in
    ap (λ (l : TableLayout). edit_refused l e) c.reserve.ensures.layout ∙ sym (c.create_refused.ensures c.args.format c.args.extent) ∙ c.in_default.is

is : (c : goal.After-push_reserved) → IsBufferTable c.args.self.now
is c = subst IsBufferTable c.self.view_is c.self.invariant

none : (c : goal.After-push_reserved) → edit_refused c.args.self.now.layout (Create c.args.name c.args.format c.args.extent) ≡ None
none c =
    ap (λ (b : BufferTable). edit_refused b.layout (Create c.args.name c.args.format c.args.extent)) (sym c.self.view_is)
    ∙ sym (c.create_refused.ensures c.args.format c.args.extent) ∙ c.in_default.is

-- the table with the new buffer
after : (c : goal.After-push_reserved) → held_as c.create.new.self.layout c.push_reserved.new.self.items
    ≡ with_new c.args.self.now (empty_root c.args.extent c.args.format) c.args.name c.args.extent
after c =
    let old : BufferTable = record { layout = c.self.inside.layout.layout; roots = c.self.inside.roots.items } in
    let more = c.push_reserved.ensures.items ∙ ap (λ (rs : List RootTiles). rs ++ c.new.result ∷ []) c.reserve-2.ensures.items in
    created-new old c.args.self.now c.self.view_is c.args.name c.args.format c.args.extent c.reserve.new.self.layout c.create.new.self.layout c.push_reserved.new.self.items c.new.result
    c.reserve.ensures.layout c.create.ensures more c.new.ensures

pub invariant_of-self-2 : goal.invariant_of-self-2
invariant_of-self-2 c = subst IsBufferTable (sym (after c)) (table-created c.args.self.now (is c) c.args.name c.args.format c.args.extent (c.first_column.ensures.rectangle, c.requires) (none c))

pub returns : goal.returns
returns c =
    let now = c.args.self.now in
    let box : IsRectangle c.args.extent × InLimits c.args.extent = (c.first_column.ensures.rectangle, c.requires) in
    record {
      layout = search rules;
      table = λ held. ap (λ (b : BufferTable). table_of b held) (after c) ∙ shown-created now (is c) c.args.name c.args.format c.args.extent box (none c) held;
      exact = λ cause given. exact-none _ (edit_refused now.layout (Create c.args.name c.args.format c.args.extent)) cause (none c) given;
      cause = tt;
      carried_out = none c;
      over = λ held over.
          subst (λ (b : BufferTable). AreBuffersOver b held) (sym (after c))
          (over-created now (is c) c.args.name c.args.format c.args.extent box (none c) held
          (c.new_roots_are_blank.ensures.over c.args.extent c.args.format held c.first_column.ensures.rectangle c.requires) over);
      names = ap buffers_names (after c) ∙ names-created now (is c) c.args.name c.args.format c.args.extent box (none c);
    }
