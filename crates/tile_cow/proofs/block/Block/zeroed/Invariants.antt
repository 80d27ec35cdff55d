use Rattle.std.proofs.Common.{◌≡◌, length, replicate}
use Rattle.std.specs.Mem.Slots.{SamePlaces, slots_items, slots_filled}
use Rattle.std.specs.Mem.Slots.Ownership.{Filled}
use Rattle.tile_cow.proofs.block.Block.zeroed.Given as goal

abbrev pub invariant-loop-at : goal.invariant-loop-at
invariant-loop-at l = SamePlaces l.initial.bytes l.bytes × (slots_items l.bytes ≡ replicate (length l.fn.self.bytes) 0) × Filled (slots_filled l.bytes) 0 l.at
