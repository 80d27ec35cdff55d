use Rattle.std.proofs.Common.{◌≡◌, take}
use Rattle.test_viewers.proofs.scenes.copy_facts.Given as goal

abbrev pub invariant-loop-fact : goal.invariant-loop-fact
invariant-loop-fact g l = l.copied.items ≡ take l.fact-index l.facts
