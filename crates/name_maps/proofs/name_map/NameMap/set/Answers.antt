use Rattle.std.proofs.Common.{sym, ◌∙◌}
use Rattle.name_maps.proofs.Lengths.{len_set}
use Rattle.name_maps.proofs.name_map.NameMap.set.Goals as goal

pub invariant_of-self : goal.invariant_of-self
invariant_of-self g c = c.self.invariant ∙ sym (rw c.set.ensures (len_set c.self.inside.pages c.args.name c.args.value (rw (← c.self.view_is) at c.requires)))
