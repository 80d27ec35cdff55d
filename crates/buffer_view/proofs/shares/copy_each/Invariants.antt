use Rattle.std.proofs.Common.{◌≡◌, ◌≤◌, take, length}
use Rattle.std.specs.Prelude.{vec_capacity, vec_len}
use Rattle.buffer_view.proofs.shares.copy_each.Given as goal

abbrev pub invariant-loop-root : goal.invariant-loop-root
invariant-loop-root l = record {
  items : l.copies.items ≡ take l.root-index l.roots;
  count : vec_len l.copies ≡ l.root-index;
  room : length l.roots ≤ vec_capacity l.copies;
}
