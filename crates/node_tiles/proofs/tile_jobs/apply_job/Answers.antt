use Rattle.std.proofs.Common.{◌≡◌, ◌<◌, Some, length, refl, ap, ◌∙◌, arith}
use Rattle.std.specs.Prelude.{slice_get}
use Rattle.std.proofs.lemmas.List.{length-map}
use Rattle.model_images.specs.Image.{Image}
use Rattle.model_images.specs.Raw.{tile_bytes}
use Rattle.model_graphs.specs.declared.node.NodeFact.{NodeFact}
use Rattle.roi_planner.specs.Inputs.{inputs_of}
use Rattle.roi_planner.proofs.StatedLaws.{inputs-at}
use Rattle.node_tiles.specs.Jobs.{IsApplicable, Job, job_bytes}
use Rattle.node_tiles.proofs.JobLaws.{gives-is, job-applicable, job-at, job-computes, job-gives, job-inside}
use Rattle.node_tiles.proofs.tile_jobs.apply_job.Given
use Rattle.node_tiles.proofs.tile_jobs.apply_job.Goals.{After-deref}
use Rattle.node_tiles.proofs.tile_jobs.apply_job.Goals as goal

pub offset_bounds-nodes-node : goal.offset_bounds-nodes-node
offset_bounds-nodes-node g c =
    omega (arith, job-inside g.K.Op.OpMeaning.meanings c.args.nodes.now c.args.job c.requires.job, ap (λ (j : Job). j.node) c.job.view_is)

pub bounds-nodes-node : goal.bounds-nodes-node
bounds-nodes-node g c =
    omega (arith, job-inside g.K.Op.OpMeaning.meanings c.args.nodes.now c.args.job c.requires.job, ap (λ (j : Job). j.node) c.job.view_is)

pub unreachable-requires : goal.unreachable-requires
unreachable-requires g c =
    let nodes = c.args.nodes.now in
    let meanings = g.K.Op.OpMeaning.meanings in
    let fact = c.index-nodes-node.result in
    let found : slice_get nodes c.args.job.node ≡ Some fact =
    job-at meanings nodes c.args.job c.requires.job c.job.inside.node fact (ap (λ (j : Job). j.node) c.job.view_is) c.index-nodes-node.is in
    job-computes meanings nodes c.args.job c.requires.job fact c.in_default.field-0 found c.in_default.is

pub bounds-inputs-node : goal.bounds-inputs-node
bounds-inputs-node g c =
    let nodes = c.args.nodes.now in
    omega (
      arith,
      job-inside g.K.Op.OpMeaning.meanings nodes c.args.job c.requires.job,
      ap (λ (j : Job). j.node) c.job.view_is,
      ap length c.requires.inputs,
      length-map nodes (λ (fact : NodeFact g.row.K-Op.Denot). inputs_of nodes fact.spec.body),
    )

pub copied_tile-requires : goal.copied_tile-requires
copied_tile-requires g c =
    let meanings = g.K.Op.OpMeaning.meanings in
    let nodes = c.args.nodes.now in
    let job = c.args.job in
    let found : slice_get nodes job.node ≡ Some c.index-nodes-node.result =
    job-at meanings nodes job c.requires.job c.job.inside.node c.index-nodes-node.result (ap (λ (j : Job). j.node) c.job.view_is) c.index-nodes-node.is in
    let inside : c.job.inside.node < length nodes = omega (arith, job-inside meanings nodes job c.requires.job, ap (λ (j : Job). j.node) c.job.view_is) in
    job-applicable meanings nodes job c.requires.job c.index-nodes-node.result c.in-Compute.op c.in-Compute.inputs found c.in-Compute.is
    c.index-inputs-node.result c.boxes-boxes.result.now job.windows job.part
    (inputs-at nodes c.args.inputs.now c.job.inside.node c.index-nodes-node.result c.index-inputs-node.result c.requires.inputs inside
    c.index-nodes-node.is c.index-inputs-node.is ∙ ap (inputs_of nodes) c.in-Compute.is)
    c.boxes-boxes.ensures refl refl

pub returns-in-Some : goal.returns-in-Some
returns-in-Some g c =
    let meanings = g.K.Op.OpMeaning.meanings in
    let nodes = c.args.nodes.now in
    let job = c.args.job in
    let found : slice_get nodes job.node ≡ Some c.index-nodes-node.result =
    job-at meanings nodes job c.requires.job c.job.inside.node c.index-nodes-node.result (ap (λ (j : Job). j.node) c.job.view_is) c.index-nodes-node.is in
    gives-is c.share.result c.in-Some.tile.now (job_bytes meanings nodes job) c.share.ensures
    (c.in-Some.ensures
    ∙ job-gives meanings nodes job c.requires.job c.index-nodes-node.result c.in-Compute.op c.in-Compute.inputs found c.in-Compute.is job.windows job.part job.at refl refl refl)

module _ (g : Given.Over) (c : After-deref g) where
  -- the node of the job
  found : slice_get c.args.nodes.now c.args.job.node ≡ Some c.index-nodes-node.result
  found =
      job-at g.K.Op.OpMeaning.meanings c.args.nodes.now c.args.job c.requires.job c.job.inside.node c.index-nodes-node.result
      (ap (λ (j : Job). j.node) c.job.view_is) c.index-nodes-node.is

  inside : c.job.inside.node < length c.args.nodes.now
  inside = omega (arith, job-inside g.K.Op.OpMeaning.meanings c.args.nodes.now c.args.job c.requires.job, ap (λ (j : Job). j.node) c.job.view_is)

  are : IsApplicable g.K.Op.OpMeaning.meanings c.in-Compute.op c.boxes-boxes.result.now c.deref.result.now c.job.inside.part
  are =
      job-applicable g.K.Op.OpMeaning.meanings c.args.nodes.now c.args.job c.requires.job c.index-nodes-node.result c.in-Compute.op c.in-Compute.inputs found c.in-Compute.is
      c.index-inputs-node.result c.boxes-boxes.result.now c.deref.result.now c.job.inside.part
      (inputs-at c.args.nodes.now c.args.inputs.now c.job.inside.node c.index-nodes-node.result c.index-inputs-node.result c.requires.inputs inside
      c.index-nodes-node.is c.index-inputs-node.is ∙ ap (inputs_of c.args.nodes.now) c.in-Compute.is)
      c.boxes-boxes.ensures (c.deref.ensures.value ∙ ap (λ (j : Job). j.windows) c.job.view_is) (ap (λ (j : Job). j.part) c.job.view_is)

pub apply-requires : goal.apply-requires
apply-requires g c =
    let of = are g (goal.at.apply-requires g c).After-deref in
    assumption of

pub returns : goal.returns
returns g c =
    let job = c.args.job in
    let gives =
    job-gives g.K.Op.OpMeaning.meanings c.args.nodes.now job c.requires.job c.index-nodes-node.result c.in-Compute.op c.in-Compute.inputs (found g (goal.at.returns g c).After-deref) c.in-Compute.is
    c.deref.result.now c.job.inside.part c.job.inside.at (c.deref.ensures.value ∙ ap (λ (j : Job). j.windows) c.job.view_is) (ap (λ (j : Job). j.part) c.job.view_is) (ap (λ (j : Job). j.at) c.job.view_is) in
    gives-is c.tile.result (tile_bytes c.in_ok-patch.patch c.job.inside.at) (job_bytes g.K.Op.OpMeaning.meanings c.args.nodes.now job) c.tile.ensures
    (ap (λ (image : Image). tile_bytes image c.job.inside.at) c.in_ok-patch.ensures ∙ gives)
