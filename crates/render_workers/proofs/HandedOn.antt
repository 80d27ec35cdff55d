-- Refusals of a request that are handed on.
use Rattle.std.proofs.Common.{◌≡◌, ℕ, Bool, true, false, List, Option, Some, None, Result, Err, refl, ap, ◌∙◌}
use Rattle.std.specs.Prelude.{IsSome}
use Rattle.model_graphs.specs.declared.node.NodeFact.{NodeFact}
use Rattle.model_graphs.specs.Meanings.{Meanings}
use Rattle.chain_owners.specs.declared.swap_refused.SwapRefused.{SwapRefused}
use Rattle.chain_owners.specs.declared.swap_refused.SwapRefused.TheVariants as swaps
use Rattle.strip_renders.specs.Moments.{Moment}
use Rattle.render_workers.specs.declared.refused.RenderRefused.{RenderRefused}
use Rattle.render_workers.specs.declared.refused.RenderRefused.TheVariants.{UnknownNode, Rect, Strip, SwapFault, SwapFull, NoMemory}
use Rattle.render_workers.specs.Refusals.{CanBeRendered, ChangesNothing, IsRefusedBy, by_swap}
use Rattle.render_workers.specs.Requests.{Request}

-- what is some isn't none
pub some-not-none : {X : Type 0} (o : Option X) → IsSome o → o ≡ None → ⊥
some-not-none None some none = absurd (cc some)
some-not-none (Some x) some none = absurd (cc none)

pub true-not-false : (b : Bool) → b ≡ true → b ≡ false → ⊥
true-not-false true is not = absurd (cc not)
true-not-false false is not = absurd (cc is)

-- one error is the same of another answer
pub err-again : {T U E : Type 0} (one : Result T E) (other : Result U E) (e f : E) → one ≡ Err e → one ≡ Err f → other ≡ Err e → other ≡ Err f
err-again one other e f was is again = let same : e ≡ f = cc in again ∙ ap Err same

-- nothing has changed where the state is the same
pub unchanged-plan : (now : Moment) (permits : ℕ) (refused : RenderRefused) → ChangesNothing now now permits permits refused
unchanged-plan now permits UnknownNode = (refl, refl)
unchanged-plan now permits Rect = (refl, refl)
unchanged-plan now permits (Strip needed capacity) = (refl, refl)
unchanged-plan now permits SwapFault = tt
unchanged-plan now permits (SwapFull needed longest) = tt
unchanged-plan now permits NoMemory = tt

-- of a swap's refusal nothing is said there
pub unchanged-swap : (old new : Moment) (before after : ℕ) (refused : SwapRefused) → ChangesNothing old new before after (by_swap refused)
unchanged-swap old new before after swaps.SwapFault = tt
unchanged-swap old new before after (swaps.SwapFull needed longest) = tt
unchanged-swap old new before after swaps.NoMemory = tt

module _ {Op : Type 0} (meanings : Meanings Op) (nodes : List (NodeFact Op)) (request : Request) (most : ℕ) (cause : SwapRefused → Type 0) where
  -- a refusal of the plan is one of the request
  pub plan-cause : (refused : RenderRefused) → IsRefusedBy meanings nodes request most (λ swap. ⊥) refused → IsRefusedBy meanings nodes request most cause refused
  plan-cause UnknownNode is = is
  plan-cause Rect is = is
  plan-cause (Strip needed capacity) is = is
  plan-cause SwapFault is = absurd is.1
  plan-cause (SwapFull needed longest) is = absurd is.1
  plan-cause NoMemory is = tt

  -- a refusal of the swap is one of a request that can be rendered, by its cause
  pub swap-cause : CanBeRendered meanings nodes request most → (refused : SwapRefused) → cause refused → IsRefusedBy meanings nodes request most cause (by_swap refused)
  swap-cause can swaps.SwapFault is = (can, is)
  swap-cause can (swaps.SwapFull needed longest) is = (can, is)
  swap-cause can swaps.NoMemory is = tt
