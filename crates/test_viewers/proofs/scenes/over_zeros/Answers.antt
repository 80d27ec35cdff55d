use Rattle.std.proofs.Common.{List, sym, subst}
use Rattle.std.specs.List.{IsDistinct}
use Rattle.std.specs.Str.{bytes_eq}
use Rattle.frozen_images.specs.Scenes.{NamedTiles}
use Rattle.render_workers.specs.Scenes.{names_in}
use Rattle.test_viewers.proofs.scenes.over_zeros.Goals as goal

pub new-scene-requires-clause-distinct : goal.new-scene-requires-clause-distinct
unfolding IsDistinct
new-scene-requires-clause-distinct c = subst (λ (buffers : List NamedTiles). IsDistinct bytes_eq (names_in buffers)) (sym c.in_ok-buffers.ensures) (tt, tt)
