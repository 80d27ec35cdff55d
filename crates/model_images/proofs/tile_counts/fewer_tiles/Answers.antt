use Rattle.std.proofs.Common.{◌+◌, ◌-◌, ◌≡◌, ◌≤◌, arith, subst}
use Rattle.model_images.specs.TileCounts.{level_tiles}
use Rattle.model_images.proofs.CountLaws as laws
use Rattle.model_images.proofs.tile_counts.fewer_tiles.Goals as goal

pub returns-clause-part : goal.returns-clause-part
returns-clause-part c = λ r part is is_part. laws.fewer-tiles r part is_part

pub returns-clause-levels : goal.returns-clause-levels
returns-clause-levels c = laws.fewer-level_tiles

pub returns-clause-lower : goal.returns-clause-lower
returns-clause-lower c = λ r z most less. let all : z + (most - z) ≡ most = omega (arith, less) in subst (λ n. level_tiles r z ≤ level_tiles r n) all (laws.lower-level_tiles r z (most - z))
