use Rattle.swap_store.proofs.Putting.{keeps-beside}
use Rattle.swap_store.proofs.store.Store.put.Goals as goal

pub returns : goal.returns
returns g c =
    keeps-beside c.args.name c.in_ok-index.index c.args.tile.now _ _ c.add.new.self (rw (← c.self.view_is) at c.in_ok-index.ensures)
    (rw c.bytes.ensures.value at c.in_ok-add.ensures)
