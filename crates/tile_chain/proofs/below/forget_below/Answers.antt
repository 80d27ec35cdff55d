use Rattle.std.proofs.Common.{◌∙◌, length, rules}
use Rattle.std.specs.Cmp.{nat_eq_equiv}
use Rattle.std.specs.Map.Iter.{deref_pair}
use Rattle.std.proofs.lemmas.Map.Entries.{lookup_from_place}
use Rattle.std.proofs.lemmas.Map.Iter.{iter_turn}
use Rattle.tile_chain.proofs.Moves.{given_up-held, given_up-laws}
use Rattle.tile_chain.proofs.below.forget_below.Goals as goal

pub loop-name-preserved : goal.loop-name-preserved
loop-name-preserved g c =
    let es = c.args.tiles.now.entries in
    let turn = iter_turn deref_pair es c.loop-name.yielded c.into_iter-name-iterator.result c.loop-name.name-iterator c.next.new.self c.next.result
    (c.into_iter-name-iterator.ensures.into_iter_gives ∙ c.iter-name-items.ensures.rest) c.loop-name.yielded_by (c.in-Some.name, c.in-Some.field-0-1)
    c.in-Some.is c.next.ensures.steps in
    let there = lookup_from_place nat_eq_equiv es (length c.loop-name.yielded) c.in-Some.name.now c.in-Some.field-0-1.now c.len.ensures.valid.0 turn.1 in
    record {
      held = given_up-held es c.in-Some.name.now c.in-Some.field-0-1.now (g.H.ChainMeaning.held c.loop-name.below)
          (g.H.ChainMeaning.held c.forget_where_there.new.below) there c.forget_where_there.ensures.held ∙ c.loop-name.invariant.held;
      cached = λ laws. given_up-laws es c.in-Some.name.now c.in-Some.field-0-1.now (g.H.ChainMeaning.held c.loop-name.below)
          (g.H.ChainMeaning.held c.forget_where_there.new.below) there c.forget_where_there.ensures.held c.args.tiles.now.cap (c.loop-name.invariant.cached laws);
      continues = search rules;
      loans = search rules;
      valid = λ valid. c.forget_where_there.ensures.valid (c.loop-name.invariant.valid valid);
    }
