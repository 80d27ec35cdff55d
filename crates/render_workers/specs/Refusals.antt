-- Why a request is refused.
use Rattle.std.specs.Prelude.{◌≡◌, ℕ, ⊤, false, true, IsSome, List, None, Some}
use Rattle.plane_rect.specs.Rectangle.{scaled}
use Rattle.model_graphs.specs.declared.node.NodeFact.{NodeFact}
use Rattle.model_graphs.specs.Facts.{specs_of}
use Rattle.model_graphs.specs.Meanings.{Meanings}
use Rattle.model_states.specs.Edits.{has_node}
use Rattle.model_states.specs.Need.{wide}
use Rattle.roi_planner.specs.declared.refused.PlanRefused.{PlanRefused}
use Rattle.roi_planner.specs.declared.refused.PlanRefused.TheVariants as plans
use Rattle.chain_owners.specs.declared.swap_refused.SwapRefused.{SwapRefused}
use Rattle.chain_owners.specs.declared.swap_refused.SwapRefused.TheVariants as swaps
use Rattle.strip_renders.specs.Moments.{Moment}
use Rattle.render_workers.specs.declared.refused.RenderRefused.{RenderRefused}
use Rattle.render_workers.specs.declared.refused.RenderRefused.TheVariants.{UnknownNode, Rect, Strip, SwapFault, SwapFull, NoMemory}
use Rattle.render_workers.specs.Requests.{Request, strips_needed}

-- the refusal of a plan, and that of a swap, as one of a request
abbrev pub by_plan : PlanRefused → RenderRefused
by_plan (plans.Strip needed capacity) = Strip needed capacity
by_plan plans.NoMemory = NoMemory

abbrev pub by_swap : SwapRefused → RenderRefused
by_swap swaps.SwapFault = SwapFault
by_swap (swaps.SwapFull needed longest) = SwapFull needed longest
by_swap swaps.NoMemory = NoMemory

-- the first strip that needs more than so many tiles needs this many; the node is there, and the rectangle has one of level 0
pub record IsWide {Op : Type 0} (meanings : Meanings Op) (facts : List (NodeFact Op)) (request : Request) (most needed capacity : ℕ) : Type 0 where
  pub node : has_node (specs_of facts) request.node ≡ true
  pub rect : IsSome (scaled request.at_level request.rect)
  pub needed_is : wide most (strips_needed meanings facts request) ≡ Some needed
  pub capacity_is : capacity ≡ most

-- A request can be rendered where a strip may need so many tiles: the node is there, the rectangle has one of level 0, and
-- no strip is too wide.
pub record CanBeRendered {Op : Type 0} (meanings : Meanings Op) (facts : List (NodeFact Op)) (request : Request) (most : ℕ) : Type 0 where
  pub node : has_node (specs_of facts) request.node ≡ true
  pub rect : IsSome (scaled request.at_level request.rect)
  pub narrow : wide most (strips_needed meanings facts request) ≡ None

-- Why a request is refused, where a strip may need so many tiles: no node has the name; or one has, and the rectangle at
-- level 0 is not in limits; or it is, and a strip is too wide; or the request can be rendered and the swap refuses, by a
-- cause of its own; or memory ran out.
abbrev pub IsRefusedBy : {Op : Type 0} → Meanings Op → List (NodeFact Op) → Request → ℕ → (SwapRefused → Type 0) → RenderRefused → Type 0
IsRefusedBy meanings facts request most swap UnknownNode = has_node (specs_of facts) request.node ≡ false
IsRefusedBy meanings facts request most swap Rect =
    (has_node (specs_of facts) request.node ≡ true) × (scaled request.at_level request.rect ≡ None)
IsRefusedBy meanings facts request most swap (Strip needed capacity) = IsWide meanings facts request most needed capacity
IsRefusedBy meanings facts request most swap SwapFault = CanBeRendered meanings facts request most × swap swaps.SwapFault
IsRefusedBy meanings facts request most swap (SwapFull needed longest) =
    CanBeRendered meanings facts request most × swap (swaps.SwapFull needed longest)
IsRefusedBy meanings facts request most swap NoMemory = ⊤

-- A request that is refused by its plan changes nothing: neither source, cache and chain, nor the number of permits.
abbrev pub ChangesNothing : Moment → Moment → ℕ → ℕ → RenderRefused → Type 0
ChangesNothing old new before after UnknownNode = (new ≡ old) × (after ≡ before)
ChangesNothing old new before after Rect = (new ≡ old) × (after ≡ before)
ChangesNothing old new before after (Strip needed capacity) = (new ≡ old) × (after ≡ before)
ChangesNothing old new before after SwapFault = ⊤
ChangesNothing old new before after (SwapFull needed longest) = ⊤
ChangesNothing old new before after NoMemory = ⊤
