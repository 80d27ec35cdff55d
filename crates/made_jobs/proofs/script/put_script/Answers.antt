use Rattle.made_jobs.proofs.Texts.{script_put}
use Rattle.made_jobs.proofs.script.put_script.Goals as goal

pub returns-clause-text : goal.returns-clause-text
returns-clause-text c =
    rw (c.in_ok-extend_from_slice-2.ensures.items, c.as_bytes-2.ensures.value, c.in_ok-put_edits.ensures.text, c.in_ok-put_render.ensures, c.in_ok-extend_from_slice.ensures.items, c.as_bytes.ensures.value, c.new-text.ensures.items)
    (script_put c.args.generator.now.state)
