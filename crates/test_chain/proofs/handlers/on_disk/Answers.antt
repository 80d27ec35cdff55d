use Rattle.std.proofs.Common.{None}
use Rattle.test_chain.proofs.PageLaws.{no_extents}
use Rattle.test_chain.proofs.handlers.on_disk.Goals as goal

pub returns : goal.returns
returns g c = rw c.new-2.ensures.store (no_extents c.in_ok-store.store.placement None c.in_ok-store.ensures.empty)
