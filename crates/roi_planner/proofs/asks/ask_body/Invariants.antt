use Rattle.std.proofs.Common.{◌≡◌, ◌++◌, List, length, take}
use Rattle.model_states.specs.Need.{Asked}
use Rattle.roi_planner.specs.Asked.{AreAsked, asked_of_tiles}
use Rattle.roi_planner.proofs.asks.ask_body.Given as goal

abbrev pub invariant-loop-tile : goal.invariant-loop-tile
invariant-loop-tile g l =
    record {
      count : length l.regions.items ≡ length l.initial.regions.items;
      asked : (asked : List Asked) → AreAsked l.initial.regions.items asked →
          AreAsked l.regions.items (asked ++ asked_of_tiles g.K.Op.OpMeaning.meanings l.op l.inputs l.bounds (take l.tile-index l.tiles));
    }
