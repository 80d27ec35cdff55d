-- What is seen of the devices of a run, as one moment.
use Rattle.chain_owners.specs.declared.chain_meaning.ChainMeaning.{Ghosts as Chains}
use Rattle.outside_io.specs.declared.shelf.Shelf.{Ghosts as Shelves}
use Rattle.outside_io.specs.declared.sink.Sink.{Ghosts as Sinks}
use Rattle.run_lines.specs.Moments.{Moment}

abbrev pub moment : {F O C : Type 0} → Shelves F → Sinks O → Chains C → F → O → C → Moment
moment f o c shelf out chain = record { files = f.files shelf; text = o.written out; reads = f.read_faults shelf; writes = f.write_faults shelf; puts = o.faults out; chain = c.counts chain }
