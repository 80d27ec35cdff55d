-- Why a plan is refused.
use Rattle.std.specs.Prelude.{◌≡◌, ℕ, ⊤, List, Some}
use Rattle.model_states.specs.declared.strip.Strip.{Strip as StripData}
use Rattle.model_states.specs.Need.{wide}
use Rattle.roi_planner.specs.declared.refused.PlanRefused.{PlanRefused}
use Rattle.roi_planner.specs.declared.refused.PlanRefused.TheVariants.{NoMemory, Strip}

-- Strips are refused: the first one that is too wide for the capacity needs so many tiles, or memory ran out.
abbrev pub AreRefused : ℕ → List StripData → PlanRefused → Type 0
AreRefused capacity strips (Strip needed limit) = (wide capacity strips ≡ Some needed) × (limit ≡ capacity)
AreRefused capacity strips NoMemory = ⊤
