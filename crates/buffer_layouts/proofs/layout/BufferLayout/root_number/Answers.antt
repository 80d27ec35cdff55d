use Rattle.std.proofs.Common.{ap, sym, refl, ◌∙◌, length, unwrap_or}
use Rattle.std.specs.Str.{bytes_eq}
use Rattle.buffer_layouts.specs.Layouts.{root_entry}
use Rattle.buffer_layouts.specs.declared.views.RootShape.{RootShape}
use Rattle.buffer_layouts.proofs.Numbering.{number, number_mapped, position_is}
use Rattle.buffer_layouts.proofs.layout.BufferLayout.root_number.Goals as goal

pub returns : goal.returns
returns c =
    let roots = c.roots-roots.result.now in
    let name = c.args.name in
    let named = λ (root : RootShape). bytes_eq name root.name in
    c.unwrap_or.ensures ∙ ap (λ found. unwrap_or found (length roots)) c.number_named.ensures ∙ position_is named roots
    ∙ sym (number_mapped root_entry (λ (root : RootShape). root.name) (λ root. refl) roots name)
    ∙ ap (λ entries. number entries name) c.roots-roots.ensures
