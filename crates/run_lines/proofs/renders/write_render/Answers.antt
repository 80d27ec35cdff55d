use Rattle.std.proofs.Common.{◌≡◌, [], ◌∷◌, length, sym, ap, ◌∙◌}
use Rattle.model_runs.specs.declared.ending.End.TheVariants as ends
use Rattle.run_lines.proofs.Leaving.{HasCause-same_end, HasCause-then, Leaves-first, Leaves-same_end, Leaves-same_text, Leaves-then, none_falls, nothing_done}
use Rattle.run_lines.proofs.BandBytes.{bytes-some}
use Rattle.run_lines.proofs.PictureWrites.{shown-format}
use Rattle.model_runs.specs.Events.{Puts, Writes, events_alone}
use Rattle.model_runs.specs.Texts.{render_text}
use Rattle.strip_patches.specs.Shown.{picture_box, picture_format}
use Rattle.run_lines.proofs.renders.write_render.Goals as goal

pub returns-in_err-text-clause-leaves : goal.returns-in_err-text-clause-leaves
returns-in_err-text-clause-leaves g c = λ known shows.
    let picture = c.args.picture in
    let any = bytes-some known (picture_format picture) (picture_box picture) (shown-format known picture shows) in
    (any.0, any.1, Leaves-same_end _ ends.NoMemory _ _ _ c.from_residual.ensures.1 (nothing_done _ _))

pub returns-in_err-write_picture-clause-leaves : goal.returns-in_err-write_picture-clause-leaves
returns-in_err-write_picture-clause-leaves g c = λ known shows.
    let left = c.in_err-write_picture.ensures.leaves known _ shows in
    let bytes = left.0 in (
      bytes,
      left.1,
      Leaves-same_end _ _ _ _ _ c.from_residual-in_err-write_picture.ensures.1
          (Leaves-first (Writes c.args.file.now bytes ∷ []) (events_alone (Puts (render_text c.args.line c.args.commit (length bytes)) ∷ [])) _ _ _ left.2),
    )

pub returns-in_err-write_picture-clause-cause : goal.returns-in_err-write_picture-clause-cause
returns-in_err-write_picture-clause-cause g c = HasCause-same_end _ _ _ _ c.from_residual-in_err-write_picture.ensures.1 (c.in_err-write_picture.ensures.cause _)

pub returns-clause-leaves : goal.returns-clause-leaves
returns-clause-leaves g c = λ known shows.
    let left = c.in_ok-write_picture.ensures.leaves known _ shows in
    let bytes = left.0 in
    let text : c.deref.result.now ≡ render_text c.args.line c.args.commit (length bytes) =
    c.deref.ensures ∙ c.in_ok-text.ensures ∙ ap (render_text c.args.line c.args.commit) (c.picture_bytes.ensures ∙ sym left.1.count) in (
      bytes,
      left.1,
      Leaves-then (Writes c.args.file.now bytes ∷ []) (events_alone (Puts (render_text c.args.line c.args.commit (length bytes)) ∷ [])) _ _ _ _
          (left.2.whole tt) (Leaves-same_text _ _ _ _ _ text (c.put_text.ensures.leaves _)),
    )

pub returns-clause-cause : goal.returns-clause-cause
returns-clause-cause g c = HasCause-then _ _ _ _ (none_falls (c.in_ok-write_picture.ensures.cause _)) (c.put_text.ensures.cause _ _)
