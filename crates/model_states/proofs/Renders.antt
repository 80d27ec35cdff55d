-- A render leaves a list of right pairs.
use Rattle.std.proofs.Common.{ℕ, List, [], ◌∷◌, Option}
use Rattle.model_states.specs.Cache.{AreRight, AreRightPairs, Cached, Counted, IsRight, Pair, all_looked_up, by_pair, looked_up, with_bytes}
use Rattle.model_graphs.specs.Meanings.{Meanings}
use Rattle.model_states.specs.State.{Scene}
use Rattle.model_states.proofs.CacheLaws.{recent-all}

pub render_leaves_right : {Op : Type 0} (meanings : Meanings Op) (scene : Scene Op) (capacity : Option ℕ) (counted : Counted Cached) (pairs : List Pair) →
    AreRight meanings scene counted.list → AreRightPairs meanings scene pairs →
    AreRight meanings scene (all_looked_up by_pair (with_bytes meanings scene) capacity counted pairs).list
render_leaves_right meanings scene capacity counted [] right fresh = right
render_leaves_right meanings scene capacity counted (pair ∷ pairs) right fresh =
    render_leaves_right meanings scene capacity (looked_up by_pair (with_bytes meanings scene) capacity counted pair) pairs
    (recent-all by_pair (with_bytes meanings scene) capacity (IsRight meanings scene) counted.list pair right fresh.0)
    fresh.1
