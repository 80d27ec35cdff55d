-- Tables of no tile.
use Rattle.std.proofs.Common.{[], Contains, inr, arith}
use Rattle.std.specs.List.{IsDistinct}
use Rattle.pixel_formats.specs.declared.format.Format.{Format}
use Rattle.chain_owners.specs.Held.{Held}
use Rattle.level_tables.specs.Over.{IsOver}

pub none_in : {X : Type 0} (x : X) → Contains [] x → ⊥
none_in x among = grind arith

pub over-none : (format : Format) (held : Held) → IsOver (record { format = format; put = []; levels = [] }) held
unfolding IsDistinct
over-none format held = record {
  owned = record { counted = λ name. inr (omega arith) };
  named = λ name some. absurd (omega (arith, some));
  shape = record {
    whole = λ tile held_tile. absurd (none_in tile held_tile);
    above = λ at name held_tile. absurd (none_in _ held_tile);
    once = tt;
  };
  averaged = λ at name held_tile. absurd (none_in _ held_tile);
}
