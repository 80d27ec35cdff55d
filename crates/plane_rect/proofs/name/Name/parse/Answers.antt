use Rattle.std.proofs.Common.{rules}
use Rattle.plane_rect.proofs.Names.{written_name}
use Rattle.plane_rect.proofs.name.Name.parse.Goals as goal

pub invariant_of-result : goal.invariant_of-result
invariant_of-result c = rw c.copy_from_slice.ensures.after (written_name c.args.word.now (search rules))
