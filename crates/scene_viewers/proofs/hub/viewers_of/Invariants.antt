use Rattle.std.proofs.Common.{◌≡◌, map}
use Rattle.scene_viewers.specs.Viewers.{fresh_viewer}
use Rattle.scene_viewers.proofs.hub.viewers_of.Given as goal

abbrev pub invariant-loop-entrance : goal.invariant-loop-entrance
invariant-loop-entrance g l = l.viewers.items ≡ map (λ entrance. fresh_viewer l.capacity entrance.showing.list entrance.told.list) l.yielded
