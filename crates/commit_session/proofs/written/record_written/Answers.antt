use Rattle.std.proofs.Common.{sym, ap, ◌∙◌}
use Rattle.std.specs.Option.{option_and_then}
use Rattle.std.specs.Prelude.{Ok}
use Rattle.model_buffers.specs.BufferEdit.{on_root}
use Rattle.model_graphs.specs.Facts.{rectangles_of}
use Rattle.commit_session.specs.Steps.{after_writing}
use Rattle.commit_session.specs.declared.written.Target.{Target}
use Rattle.commit_session.proofs.written.record_written.Goals as goal

pub returns-in-Some : goal.returns-in-Some
returns-in-Some c =
    let layout = c.args.buffers.now.layout in
    c.record_target.ensures
    ∙ sym (ap (after_writing (rectangles_of c.args.written.now.items))
    (c.target_of.ensures layout ∙ ap (option_and_then (λ (t : Target). on_root layout t.buffer (Ok t.rect))) c.in-Some.is))
