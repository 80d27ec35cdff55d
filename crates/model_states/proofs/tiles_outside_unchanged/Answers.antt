use Rattle.model_states.proofs.Agreeing as laws
use Rattle.model_states.proofs.tiles_outside_unchanged.Goals as goal

pub returns : goal.returns
returns c = laws.same_tile_bytes
