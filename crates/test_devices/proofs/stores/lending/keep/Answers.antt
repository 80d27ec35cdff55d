use Rattle.std.proofs.Common.{rules}
use Rattle.std.specs.FinMap.{gets}
use Rattle.test_devices.proofs.stores.lending.keep.Goals as goal

pub put-answer-requires : goal.put-answer-requires
put-answer-requires g c = rw (c.over-store.ensures.placement, c.in_ok-memory.ensures.empty) search (rules, gets)
