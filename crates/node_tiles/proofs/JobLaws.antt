-- Jobs of tiles, and what they make.
use Rattle.std.proofs.Common.{◌≡◌, ℕ, ◌<◌, List, Option, Some, None, get_or, length, refl, sym, ap, ◌∙◌, subst, arith}
use Rattle.std.specs.Prelude.{Err, IfOk, IsSome, Ok, Result, slice_get}
use Rattle.std.proofs.lemmas.Option.{same_Some, slice_get-get_or, slice_get_within}
use Rattle.plane_rect.specs.Rectangle.{Rectangle, meet}
use Rattle.plane_rect.specs.Tile.{Tile, tile_square}
use Rattle.model_images.specs.Paint.{cut}
use Rattle.model_images.specs.Raw.{tile_bytes}
use Rattle.model_graphs.specs.declared.node.Body.{Body}
use Rattle.model_graphs.specs.declared.node.Body.TheVariants.{Compute, Source}
use Rattle.model_graphs.specs.declared.node.NodeFact.{NodeFact}
use Rattle.model_graphs.specs.Evaluation.{Buffers}
use Rattle.model_graphs.specs.Facts.{AreImagesOf, Facts, shapes_of_facts}
use Rattle.model_graphs.specs.Laws.{IsLocal}
use Rattle.model_graphs.specs.Meanings.{Meanings}
use Rattle.model_graphs.specs.Permits.{Takes}
use Rattle.model_graphs.specs.Windows.{Window}
use Rattle.model_states.specs.Valid.{AreStated}
use Rattle.op_contracts.specs.Applying.{result_of_windows}
use Rattle.roi_planner.specs.Inputs.{Inputs, inputs_of}
use Rattle.node_tiles.specs.Held.{HeldTiles}
use Rattle.node_tiles.specs.Inputs.{AreInputWindows}
use Rattle.node_tiles.specs.Jobs.{IsApplicable, IsTileJob, Job, job_bytes, made_at, made_by}
use Rattle.node_tiles.specs.Stated.{AreTilesOf, HaveLengths, bytes_at}
use Rattle.node_tiles.proofs.Applied.{applicable-to, canonical, length-given}
use Rattle.node_tiles.proofs.Scenes.{given-bytes}

module _ {Op : Type 0} (meanings : Meanings Op) (nodes : List (NodeFact Op)) (job : Job) (fact : NodeFact Op) (operation : Op) (names : List (List ℕ))
    (found : slice_get nodes job.node ≡ Some fact) (body : fact.spec.body ≡ Compute operation names) where
  -- what it makes, where the operation is known
  pub job-makes : job_bytes meanings nodes job ≡ tile_bytes (cut (result_of_windows meanings operation job.windows) job.part) job.at
  job-makes = ap (made_at meanings job) found ∙ ap (made_by meanings job) body

module _ {Op : Type 0} (meanings : Meanings Op) (facts : Facts) (nodes : List (NodeFact Op)) (stated : AreStated meanings (shapes_of_facts facts) nodes)
    (node : ℕ) (fact : NodeFact Op) (operation : Op) (names : List (List ℕ)) (found : slice_get nodes node ≡ Some fact) (body : fact.spec.body ≡ Compute operation names)
    (held : HeldTiles) (lengths : HaveLengths nodes held) (tile : Tile) (given : Inputs) (windows : List Window) (part : Rectangle)
    (its : given ≡ inputs_of nodes (Compute operation names)) (of : part ≡ meet (tile_square tile) fact.bounds) where
  abbrev made : Job
  made = record { node = node; at = tile; part = part; windows = windows }

  module _ (images : Option Buffers) (are : AreInputWindows meanings facts images held nodes operation given part windows) where
    abbrev boxes : List Rectangle
    boxes = (inputs_of nodes (Compute operation names)).boxes

    known : boxes ≡ given.boxes
    known = ap (λ (i : Inputs). i.boxes) (sym its)

    pub job-of : IsTileJob meanings nodes made
    job-of = record {
      fact = fact;
      operation = operation;
      names = names;
      found = found;
      body = body;
      applicable = applicable-to meanings facts nodes stated node fact operation names found body held lengths images tile given boxes windows windows part its known refl of are;
      length = length-given meanings facts nodes stated node fact operation names found body held lengths images tile given boxes windows windows part its known refl of are
          (job_bytes meanings nodes made) (job-makes meanings nodes made fact operation names found body);
    }

  -- over known images it makes the tile of the node's image
  pub job-shown : (images : Buffers) (o : Option Buffers) → o ≡ Some images → AreImagesOf facts images → AreTilesOf meanings nodes images held → IsLocal meanings
      → AreInputWindows meanings facts o held nodes operation given part windows → job_bytes meanings nodes made ≡ bytes_at meanings nodes images node tile
  job-shown images o is shown tiles local are =
      let windows_are : AreInputWindows meanings facts (Some images) held nodes operation (inputs_of nodes (Compute operation names)) (meet (tile_square tile) fact.bounds) windows =
      subst (λ (o : Option Buffers). AreInputWindows meanings facts o held nodes operation (inputs_of nodes (Compute operation names)) (meet (tile_square tile) fact.bounds) windows) is
      (canonical meanings facts nodes stated node fact operation names found body held lengths o tile given (inputs_of nodes (Compute operation names)).boxes windows windows part its
      (ap (λ (i : Inputs). i.boxes) (sym its)) refl of are) in
      job-makes meanings nodes made fact operation names found body
      ∙ ap (λ (r : Rectangle). tile_bytes (cut (result_of_windows meanings operation windows) r) tile) of
      ∙ given-bytes meanings facts nodes stated images shown held tiles lengths node fact operation names found body local tile windows windows_are

-- what is asked of a purse in which a permit is left
pub takes-some : {Permit : Type 0} (old new : ℕ) (taken : Option Permit) → Takes old new taken → 0 < old → IsSome taken
takes-some old new None takes left = absurd (omega (arith, takes.0, left))
takes-some old new (Some permit) takes left = refl

-- ---- a job that is carried out

same-operation : {Op : Type 0} (a b : Op) (names others : List (List ℕ)) → Compute a names ≡ Compute b others → a ≡ b
same-operation a b names others is = cc

same-body : {Op : Type 0} (nodes : List (NodeFact Op)) (node : ℕ) (a b : NodeFact Op) → slice_get nodes node ≡ Some a → slice_get nodes node ≡ Some b → a.spec.body ≡ b.spec.body
same-body {Op = Op} nodes node a b found here = ap (λ (f : NodeFact Op). f.spec.body) (same_Some a b (sym found ∙ here))

module _ {Op : Type 0} (meanings : Meanings Op) (nodes : List (NodeFact Op)) (job : Job) (is : IsTileJob meanings nodes job) where
  pub job-inside : job.node < length nodes
  job-inside = slice_get_within nodes job.node is.fact is.found

  pub job-at : (node : ℕ) (fact : NodeFact Op) → node ≡ job.node → fact ≡ get_or nodes node fact → slice_get nodes job.node ≡ Some fact
  job-at node fact same at =
      slice_get-get_or nodes job.node fact job-inside ∙ ap Some (sym (at ∙ ap (λ (n : ℕ). get_or nodes n fact) same))

  pub job-computes : (fact : NodeFact Op) (buffer : List ℕ) → slice_get nodes job.node ≡ Some fact → fact.spec.body ≡ Source buffer → ⊥
  job-computes fact buffer found source =
      let both : Compute is.operation is.names ≡ Source buffer = sym is.body ∙ same-body nodes job.node is.fact fact is.found found ∙ source in
      cc

  module _ (fact : NodeFact Op) (operation : Op) (names : List (List ℕ)) (found : slice_get nodes job.node ≡ Some fact) (body : fact.spec.body ≡ Compute operation names) where
    pub job-applicable : (given : Inputs) (boxes : List Rectangle) (windows : List Window) (part : Rectangle) → given ≡ inputs_of nodes (Compute operation names)
        → boxes ≡ given.boxes → windows ≡ job.windows → part ≡ job.part → IsApplicable meanings operation boxes windows part
    job-applicable given boxes windows part its known same of =
        let own : Compute is.operation is.names ≡ Compute operation names = sym is.body ∙ same-body nodes job.node is.fact fact is.found found ∙ body in
        let one : is.operation ≡ operation = same-operation is.operation operation is.names names own in
        let boxes_are : (inputs_of nodes (Compute is.operation is.names)).boxes ≡ boxes =
        ap (λ (b : Body Op). (inputs_of nodes b).boxes) own ∙ ap (λ (i : Inputs). i.boxes) (sym its) ∙ sym known in
        subst (λ (r : Rectangle). IsApplicable meanings operation boxes windows r) (sym of)
        (subst (λ (ws : List Window). IsApplicable meanings operation boxes ws job.part) (sym same)
        (subst (λ (bs : List Rectangle). IsApplicable meanings operation bs job.windows job.part) boxes_are
        (subst (λ (o : Op). IsApplicable meanings o (inputs_of nodes (Compute is.operation is.names)).boxes job.windows job.part) one is.applicable)))

    pub job-gives : (windows : List Window) (part : Rectangle) (at : Tile) → windows ≡ job.windows → part ≡ job.part → at ≡ job.at
        → tile_bytes (cut (result_of_windows meanings operation windows) part) at ≡ job_bytes meanings nodes job
    job-gives windows part at same of on =
        ap (λ (ws : List Window). tile_bytes (cut (result_of_windows meanings operation ws) part) at) same
        ∙ ap (λ (r : Rectangle). tile_bytes (cut (result_of_windows meanings operation job.windows) r) at) of
        ∙ ap (λ (t : Tile). tile_bytes (cut (result_of_windows meanings operation job.windows) job.part) t) on
        ∙ sym (job-makes meanings nodes job fact operation names found body)

-- what a call gives, by another name
pub gives-is : {T E : Type 0} (r : Result T E) (x y : T) → IfOk r (λ t. t ≡ x) → x ≡ y → IfOk r (λ t. t ≡ y)
gives-is (Ok t) x y is same = is ∙ same
gives-is (Err e) x y is same = tt
