use Rattle.std.proofs.Common.{not}
use Rattle.plane_rect.specs.Tile.{meets}
use Rattle.model_states.proofs.CacheLaws as laws
use Rattle.model_states.proofs.voided_pairs_stay_distinct.Goals as goal

pub returns : goal.returns
returns g c = λ key damage list distinct.
    laws.distinct-filter key (λ x. not (meets (key x).tile (damage (key x).node))) list distinct
