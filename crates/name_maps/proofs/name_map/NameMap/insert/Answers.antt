use Rattle.std.proofs.Common.{◌≡◌, Bool, true, false, not, cond, Option, Some, None, is_some, is_none, refl}
use Rattle.std.proofs.lemmas.Bool.{false≢true, true≢false}
use Rattle.std.specs.FinMap as map
use Rattle.name_maps.proofs.Lengths.{len_counted, sum_is}
use Rattle.name_maps.proofs.name_map.NameMap.insert.Goals as goal
use mir.Val.{bool_byte}

one_if_none : {X : Type 0} (o : Option X) (b : Bool) → is_some o ≡ not b → bool_byte b ≡ cond (is_none o) 1 0
one_if_none None true is = refl
one_if_none None false is = absurd (false≢true is)
one_if_none (Some x) true is = absurd (true≢false is)
one_if_none (Some x) false is = refl

pub invariant_of-self-2 : goal.invariant_of-self-2
invariant_of-self-2 g c = rw c.in_ok-put.ensures.put
    (len_counted c.self.inside.pages c.args.name c.args.value c.self.inside.len _ c.in_ok-len.len c.self.invariant
    (one_if_none (map.get c.self.inside.pages c.args.name) c.is_none-more.result (rw c.get.ensures at c.is_none-more.ensures))
    (sum_is c.checked_add.result _ _ c.in_ok-len.len c.checked_add.ensures c.in_ok-len.ensures.ok_part))
