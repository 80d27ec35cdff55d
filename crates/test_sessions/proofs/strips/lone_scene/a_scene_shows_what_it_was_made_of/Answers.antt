use Rattle.std.proofs.Common.{refl, arith}
use Rattle.std.specs.List.{IsDistinct}
use Rattle.test_sessions.proofs.strips.lone_scene.a_scene_shows_what_it_was_made_of.Goals as goal

pub new-scene-requires-clause-distinct : goal.new-scene-requires-clause-distinct
unfolding IsDistinct
new-scene-requires-clause-distinct g c = rw c.new-2.ensures.items tt

pub new-scene-requires-clause-stated : goal.new-scene-requires-clause-stated
unfolding IsDistinct
new-scene-requires-clause-stated g c =
    rw (c.new.ensures.items, c.new-2.ensures.items)
    (record { valid = record { few = omega arith; distinct = tt; steps = tt }; shapes = refl })
