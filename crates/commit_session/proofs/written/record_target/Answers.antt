use Rattle.std.proofs.Common.{◌≡◌, None, Some, [], refl, sym, ap, ◌∙◌, rules}
use Rattle.std.specs.Option.{option_map}
use Rattle.model_buffers.specs.declared.edit.BufferEdit.TheVariants.{Put}
use Rattle.model_graphs.specs.Facts.{rectangles_of}
use Rattle.commit_session.specs.Steps.{after_writing}
use Rattle.commit_session.proofs.Hulls.{pair_of, written-is}
use Rattle.commit_session.proofs.written.record_target.Goals as goal

pub returns-in_default : goal.returns-in_default
returns-in_default c =
    let layout = c.args.buffers.now.layout in
    let target = c.args.target in
    let is = written-is layout (Put target.buffer target.rect []) (Some target) target c.fact.result refl refl c.fact.ensures in
    let none : c.fact.result ≡ None = search rules in
    sym (ap (after_writing (rectangles_of c.args.written.now.items)) (is ∙ ap (option_map (pair_of target.rect)) none))

pub returns-in-Some : goal.returns-in-Some
returns-in-Some c =
    let layout = c.args.buffers.now.layout in
    let target = c.args.target in
    let is = written-is layout (Put target.buffer target.rect []) (Some target) target c.fact.result refl refl c.fact.ensures in
    c.add_written.ensures
    ∙ sym (ap (after_writing (rectangles_of c.args.written.now.items)) (is ∙ ap (option_map (pair_of target.rect)) c.in-Some.is))
