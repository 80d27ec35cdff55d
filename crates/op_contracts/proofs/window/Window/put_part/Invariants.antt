use Rattle.std.proofs.Common.{◌≡◌, drop}
use Rattle.op_contracts.proofs.Painted.{put_tiles}
use Rattle.op_contracts.proofs.window.Window.put_part.Given as goal

abbrev pub invariant-loop-entry : goal.invariant-loop-entry
invariant-loop-entry l =
    (put_tiles l.patch (drop l.entry-index l.entry-items) ≡ put_tiles l.initial.patch l.entry-items)
    × (l.patch.format ≡ l.fn.self.format)
