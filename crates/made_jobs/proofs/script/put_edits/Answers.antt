use Rattle.std.proofs.Common.{arith, ◌∙◌}
use Rattle.made_jobs.proofs.Draws.{state_at_end, state_more}
use Rattle.made_jobs.proofs.Texts.{edits_at_end, edits_more}
use Rattle.made_jobs.proofs.script.put_edits.Goals as goal

pub loop-edit-preserved : goal.loop-edit-preserved
loop-edit-preserved c = record {
  text = c.loop-edit.invariant.text
      ∙ rw (c.in_ok-put_render.ensures, c.in_ok-extend_from_slice.ensures.items, c.as_bytes.ensures.value, c.in_ok-put_fill.ensures.text, c.in_ok-put_fill.ensures.state)
      (edits_more c.args.count c.loop-edit.edit c.loop-edit.generator.state c.loop-edit.text.items (omega arith));
  state = c.loop-edit.invariant.state ∙ rw c.in_ok-put_fill.ensures.state (state_more c.args.count c.loop-edit.edit c.loop-edit.generator.state (omega arith));
}

pub returns-clause-text : goal.returns-clause-text
returns-clause-text c = edits_at_end c.args.count c.loop-edit.edit c.loop-edit.generator.state _ _ c.loop-edit.text.items c.loop-edit-test.false c.loop-edit.invariant.text

pub returns-clause-state : goal.returns-clause-state
returns-clause-state c = state_at_end c.args.count c.loop-edit.edit c.loop-edit.generator.state _ c.loop-edit-test.false c.loop-edit.invariant.state
