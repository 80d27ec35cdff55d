use Rattle.std.proofs.Common.{◌*◌, All, List, ℕ}
use Rattle.pixel_formats.specs.Format.{pixel_bytes}
use Rattle.plane_rect.specs.Tile.{IsWhole, Tile}
use Rattle.op_contracts.specs.TileList.{HasLength}
use Rattle.test_sessions.proofs.strips.pictures.tiles_of.Given as goal

abbrev pub invariant-loop-at : goal.invariant-loop-at
invariant-loop-at l = record {
  can : (goal.iterator-loop-at).can_next l.at-iterator;
  finite : (goal.iterator-loop-at).is_finite l.at-iterator;
  whole : All IsWhole l.at-iterator;
  in_plane : All (λ (entry : Tile × List ℕ). IsWhole entry.0) l.entries.items;
  lengths : All (HasLength (4096 * pixel_bytes l.fn.patch.format)) l.entries.items;
}
