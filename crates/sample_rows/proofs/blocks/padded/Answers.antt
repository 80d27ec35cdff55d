use Rattle.std.proofs.Common.{length, get_or, ap, ◌∙◌}
use Rattle.sample_rows.proofs.GroupLaws.{before_zeros}
use Rattle.sample_rows.proofs.blocks.padded.Goals as goal

pub returns : goal.returns
returns c p =
    before_zeros c.copy_from_slice.new.self (length c.args.row.now) 384 p ∙ ap (λ l. get_or l p 0) c.copy_from_slice.ensures.after
