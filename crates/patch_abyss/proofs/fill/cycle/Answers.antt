use Rattle.patch_abyss.proofs.Repeated.{cycled}
use Rattle.patch_abyss.proofs.fill.cycle.Goals as goal

pub returns-clause-bytes : goal.returns-clause-bytes
returns-clause-bytes c =
    cycled c.args.to.now c.args.from.now c.copy_from_slice.new.self c.repeat.new.bytes c.min-prefix.result
    c.requires c.min-prefix.ensures c.copy_from_slice.ensures.after c.repeat.ensures.bytes
