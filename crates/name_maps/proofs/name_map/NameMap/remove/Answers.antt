use Rattle.std.proofs.Common.{◌-◌, sym, ap, ◌∙◌}
use Rattle.name_maps.proofs.PageLaws.{not_removed}
use Rattle.name_maps.proofs.Lengths.{len_removed, len_some, none_there}
use Rattle.name_maps.proofs.name_map.NameMap.remove.Goals as goal

pub overflow_sub-self : goal.overflow_sub-self
overflow_sub-self g c = rw c.self.invariant (len_some c.self.inside.pages c.args.name (rw (c.is_some.ensures, c.get.ensures) at c.if-is_some.true))

pub invariant_of-self : goal.invariant_of-self
invariant_of-self g c = ap (λ n. n - 1) c.self.invariant
    ∙ sym (rw c.remove.ensures (len_removed c.self.inside.pages c.args.name (rw (c.is_some.ensures, c.get.ensures) at c.if-is_some.true)))

pub returns-else-is_some : goal.returns-else-is_some
returns-else-is_some g c = rw (← c.self.view_is)
    (not_removed c.self.inside.pages c.args.name (sym (none_there _ (rw (c.is_some.ensures, c.get.ensures) at c.if-is_some.false))))
