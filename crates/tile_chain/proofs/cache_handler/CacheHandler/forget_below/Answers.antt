use Rattle.std.proofs.Common.{refl}
use Rattle.tile_chain.proofs.cache_handler.CacheHandler.forget_below.Goals as goal

pub returns-clause-moves : goal.returns-clause-moves
returns-clause-moves g c = record {
  held = c.forget_below.ensures.held;
  capacity = refl;
  continues = c.forget_below.ensures.continues;
  loans = c.forget_below.ensures.loans;
  valid = c.forget_below.ensures.valid;
}
