-- What renders say of the cached tiles of a scene.
use Rattle.std.proofs.Common.{◌≡◌, ℕ, ◌+◌, Bool, true, false, length, List, None, Some, refl, subst}
use Rattle.model_graphs.specs.declared.node.NodeFact.{NodeFact}
use Rattle.model_graphs.specs.Evaluation.{Buffers}
use Rattle.model_graphs.specs.Facts.{specs_of}
use Rattle.model_graphs.specs.Meanings.{Meanings}
use Rattle.model_states.specs.Cache.{AreRight, Cached}
use Rattle.model_states.specs.Edits.{has_node}
use Rattle.chain_owners.specs.declared.swap_refused.SwapRefused.{SwapRefused}
use Rattle.node_tiles.specs.Stated.{scene_of}
use Rattle.strip_renders.specs.Strips.{AreKnownRight}
use Rattle.render_workers.specs.declared.refused.RenderRefused.{RenderRefused}
use Rattle.render_workers.specs.Refusals.{IsRefusedBy}
use Rattle.render_workers.specs.Requests.{Request}
use Rattle.scene_viewers.specs.declared.refused.ViewRefused.{ViewRefused}
use Rattle.scene_viewers.specs.declared.refused.ViewRefused.TheVariants as refusals
use Rattle.scene_viewers.specs.Frames.{IfUnknown, unknown_node}

pub known-right : {Op : Type 0} (meanings : Meanings Op) (facts : List (NodeFact Op)) (images : Buffers) (list : List Cached)
    → AreKnownRight meanings facts images (Some list) → AreRight meanings (scene_of facts images) list
known-right meanings facts images list k = let same : k.list ≡ list = cc (k.known) in subst (AreRight meanings (scene_of facts images)) same k.right

pub not-false : (b : Bool) → (b ≡ false → ⊥) → b ≡ true
not-false true is = refl
not-false false is = absurd (is refl)

pub if-unknown : (r : ViewRefused) (P Q : ℕ → Type 0) → ((n : ℕ) → P n → Q n) → IfUnknown P r → IfUnknown Q r
if-unknown refusals.Rect P Q of is = tt
if-unknown refusals.NoEntry P Q of is = tt
if-unknown (refusals.UnknownNode n) P Q of is = of n is
if-unknown refusals.NoMemory P Q of is = tt

pub unknown-of : {Op : Type 0} (meanings : Meanings Op) (facts : List (NodeFact Op)) (asked : Request) (most : ℕ) (swap : SwapRefused → Type 0) (r : RenderRefused)
    → r ≡ unknown_node → IsRefusedBy meanings facts asked most swap r → has_node (specs_of facts) asked.node ≡ false
unknown-of meanings facts asked most swap r is cause = subst (IsRefusedBy meanings facts asked most swap) is cause
