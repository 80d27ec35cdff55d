use Rattle.std.proofs.Common.{◌≡◌, ◌++◌, List, length, take}
use Rattle.model_states.specs.Need.{Asked}
use Rattle.roi_planner.specs.Asked.{AreAsked, asked_of_part}
use Rattle.roi_planner.proofs.asks.ask_part.Given as goal

abbrev pub invariant-loop-input : goal.invariant-loop-input
invariant-loop-input g l =
    record {
      count : length l.regions.items ≡ length l.initial.regions.items;
      asked : (asked : List Asked) → AreAsked l.initial.regions.items asked →
          AreAsked l.regions.items (asked ++ take l.input (asked_of_part g.K.Op.OpMeaning.meanings l.op l.inputs l.part));
    }
