use Rattle.made_jobs.proofs.Texts.{render_put}
use Rattle.made_jobs.proofs.script.put_render.Goals as goal

pub returns : goal.returns
returns c =
    rw (c.in_ok-extend_from_slice-3.ensures.items, c.in_ok-extend_from_slice-2.ensures.items, c.in_ok-extend_from_slice.ensures.items, c.as_bytes-3.ensures.value, c.as_bytes-2.ensures.value, c.format.ensures.text, c.as_bytes.ensures.value)
    (render_put _ _)
