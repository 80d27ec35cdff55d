use Rattle.std.proofs.Common.{◌-◌, ◌≤◌, vec_len}
use Rattle.outside_io.proofs.folder_shelf.fill.Given as goal

abbrev pub invariant-loop-filled : goal.invariant-loop-filled
invariant-loop-filled g l = record { filled : l.filled ≤ vec_len l.bytes; most : vec_len l.bytes ≤ l.most }

abbrev pub decreases-loop-filled : goal.decreases-loop-filled
decreases-loop-filled g l = l.most - l.filled
