use Rattle.std.proofs.Common.{[], ◌∷◌, length}
use Rattle.run_lines.proofs.Leaving.{HasCause-same_end, HasCause-then, Leaves-first, Leaves-same_end, Leaves-then, none_falls}
use Rattle.model_runs.specs.Events.{Puts, Writes, events_alone}
use Rattle.model_runs.specs.Texts.{grab_text}
use Rattle.run_lines.proofs.files.write_grab.Goals as goal

pub returns-in_err-write_file-clause-leaves : goal.returns-in_err-write_file-clause-leaves
returns-in_err-write_file-clause-leaves g c =
    let bytes = c.args.bytes.now in
    Leaves-same_end _ _ _ _ _ c.from_residual.ensures.1
    (Leaves-first (Writes c.args.file.now bytes ∷ []) (events_alone (Puts (grab_text c.args.line (length bytes)) ∷ [])) _ _ _ (c.in_err-write_file.ensures.leaves _))

pub returns-in_err-write_file-clause-cause : goal.returns-in_err-write_file-clause-cause
returns-in_err-write_file-clause-cause g c = HasCause-same_end _ _ _ _ c.from_residual.ensures.1 (c.in_err-write_file.ensures.cause _)

pub returns-clause-leaves : goal.returns-clause-leaves
returns-clause-leaves g c =
    let bytes = c.args.bytes.now in
    Leaves-then (Writes c.args.file.now bytes ∷ []) (events_alone (Puts (grab_text c.args.line (length bytes)) ∷ [])) _ _ _ _
    ((c.in_ok-write_file.ensures.leaves _).whole tt) (c.report_grab.ensures.leaves _)

pub returns-clause-cause : goal.returns-clause-cause
returns-clause-cause g c = HasCause-then _ _ _ _ (none_falls (c.in_ok-write_file.ensures.cause _)) (c.report_grab.ensures.cause _ _)
