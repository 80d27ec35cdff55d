use Rattle.std.proofs.Common.{◌≡◌, Some, length, sym, ap, ◌∙◌, subst, arith}
use Rattle.std.specs.Prelude.{slice_get}
use Rattle.std.proofs.lemmas.List.{length-map}
use Rattle.std.proofs.lemmas.Option.{slice_get-get_or}
use Rattle.plane_rect.specs.Rectangle.{Rectangle}
use Rattle.model_graphs.specs.declared.node.Body.TheVariants.{Compute}
use Rattle.model_graphs.specs.declared.node.NodeFact.{NodeFact}
use Rattle.roi_planner.specs.Inputs.{Inputs, SuitsInputs, inputs_of}
use Rattle.roi_planner.proofs.StatedLaws.{inputs-at}
use Rattle.node_tiles.specs.Inputs.{AreInputsThere}
use Rattle.node_tiles.proofs.Places.{ready-body, ready-inside, ready-there}
use Rattle.node_tiles.proofs.Applied.{own-part, own-suits}
use Rattle.node_tiles.proofs.JobLaws.{job-of, job-shown, takes-some}
use Rattle.node_tiles.proofs.tile_jobs.tile_job.Given
use Rattle.node_tiles.proofs.tile_jobs.tile_job.Goals.{After-tile_part-part}
use Rattle.node_tiles.proofs.tile_jobs.tile_job.Goals as goal

pub unreachable-requires : goal.unreachable-requires
unreachable-requires g c =
    let nodes = c.args.nodes.now in
    let fact = c.index-nodes-node.result in
    let inside = ready-inside nodes g.K.Op.OpMeaning.meanings c.args.held.now c.args.node c.args.at c.requires.ready in
    let found : slice_get nodes c.args.node ≡ Some fact = slice_get-get_or nodes c.args.node fact inside ∙ ap Some (sym c.index-nodes-node.is) in
    ready-body nodes g.K.Op.OpMeaning.meanings c.args.held.now c.args.node c.args.at c.requires.ready fact found c.in_default.field-0 c.in_default.is

pub bounds-inputs-node : goal.bounds-inputs-node
bounds-inputs-node g c =
    let nodes = c.args.nodes.now in
    let inside = ready-inside nodes g.K.Op.OpMeaning.meanings c.args.held.now c.args.node c.args.at c.requires.ready in
    omega (arith, inside, ap length c.requires.inputs, length-map nodes (λ (fact : NodeFact g.row.K-Op.Denot). inputs_of nodes fact.spec.body))

module _ (g : Given.Over) (c : After-tile_part-part g) where
  -- the node at the position, and its inputs
  found : slice_get c.args.nodes.now c.args.node ≡ Some c.index-nodes-node.result
  found =
      slice_get-get_or c.args.nodes.now c.args.node c.index-nodes-node.result
      (ready-inside c.args.nodes.now g.K.Op.OpMeaning.meanings c.args.held.now c.args.node c.args.at c.requires.ready)
      ∙ ap Some (sym c.index-nodes-node.is)

  its : c.index-inputs-node.result ≡ inputs_of c.args.nodes.now (Compute c.in-Compute.op c.in-Compute.inputs)
  its =
      inputs-at c.args.nodes.now c.args.inputs.now c.args.node c.index-nodes-node.result c.index-inputs-node.result c.requires.inputs
      (ready-inside c.args.nodes.now g.K.Op.OpMeaning.meanings c.args.held.now c.args.node c.args.at c.requires.ready)
      c.index-nodes-node.is c.index-inputs-node.is
      ∙ ap (inputs_of c.args.nodes.now) c.in-Compute.is

  suits : SuitsInputs g.K.Op.OpMeaning.meanings c.in-Compute.op c.index-inputs-node.result (length c.args.nodes.now)
  suits =
      subst (λ (i : Inputs). SuitsInputs g.K.Op.OpMeaning.meanings c.in-Compute.op i (length c.args.nodes.now)) (sym its)
      (own-suits g.K.Op.OpMeaning.meanings (g.S.SourceTiles.facts c.args.sources.now) c.args.nodes.now c.requires.stated c.args.node c.index-nodes-node.result
      c.in-Compute.op c.in-Compute.inputs found c.in-Compute.is)

  there : AreInputsThere g.K.Op.OpMeaning.meanings (g.S.SourceTiles.facts c.args.sources.now) c.args.held.now c.args.nodes.now c.in-Compute.op c.index-inputs-node.result c.tile_part-part.result
  there =
      let meanings = g.K.Op.OpMeaning.meanings in
      let facts = g.S.SourceTiles.facts c.args.sources.now in
      let part = c.tile_part-part.ensures
      ∙ own-part meanings facts c.args.nodes.now c.requires.stated c.args.node c.index-nodes-node.result c.in-Compute.op c.in-Compute.inputs found c.in-Compute.is c.args.at in
      subst (λ (i : Inputs). AreInputsThere meanings facts c.args.held.now c.args.nodes.now c.in-Compute.op i c.tile_part-part.result) (sym its)
      (subst (λ (r : Rectangle). AreInputsThere meanings facts c.args.held.now c.args.nodes.now c.in-Compute.op (inputs_of c.args.nodes.now (Compute c.in-Compute.op c.in-Compute.inputs)) r) (sym part)
      (ready-there meanings facts c.args.nodes.now c.requires.stated c.args.held.now c.args.node c.index-nodes-node.result c.args.at c.in-Compute.op c.in-Compute.inputs found c.in-Compute.is c.requires.ready))

pub input_windows-requires-clause-suits : goal.input_windows-requires-clause-suits
input_windows-requires-clause-suits g c = suits g (goal.at.input_windows-requires-clause-suits g c).After-tile_part-part

pub input_windows-requires-clause-there : goal.input_windows-requires-clause-there
input_windows-requires-clause-there g c = there g (goal.at.input_windows-requires-clause-there g c).After-tile_part-part

pub unwrap-permit-requires : goal.unwrap-permit-requires
unwrap-permit-requires g c =
    takes-some (g.K.OpKit.permits c.args.purse.now) (g.K.OpKit.permits c.take.new.purse) c.take.result c.take.ensures c.requires.permits

pub returns-clause-job : goal.returns-clause-job
returns-clause-job g c =
    job-of g.K.Op.OpMeaning.meanings (g.S.SourceTiles.facts c.args.sources.now) c.args.nodes.now c.requires.stated c.args.node c.index-nodes-node.result c.in-Compute.op c.in-Compute.inputs
    (found g (goal.at.returns-clause-job g c).After-tile_part-part) c.in-Compute.is c.args.held.now c.requires.lengths c.args.at c.index-inputs-node.result c.in_ok-windows.windows.items c.tile_part-part.result
    (its g (goal.at.returns-clause-job g c).After-tile_part-part) c.tile_part-part.ensures (g.S.SourceTiles.images c.args.sources.now (g.H.ChainMeaning.held c.args.chain.now)) c.in_ok-windows.ensures.windows

pub returns-clause-bytes : goal.returns-clause-bytes
returns-clause-bytes g c = λ images known tiles.
    let held = g.H.ChainMeaning.held c.args.chain.now in
    job-shown g.K.Op.OpMeaning.meanings (g.S.SourceTiles.facts c.args.sources.now) c.args.nodes.now c.requires.stated c.args.node c.index-nodes-node.result c.in-Compute.op c.in-Compute.inputs
    (found g (goal.at.returns-clause-bytes g c).After-tile_part-part) c.in-Compute.is c.args.held.now c.requires.lengths c.args.at c.index-inputs-node.result c.in_ok-windows.windows.items c.tile_part-part.result
    (its g (goal.at.returns-clause-bytes g c).After-tile_part-part) c.tile_part-part.ensures images (g.S.SourceTiles.images c.args.sources.now held) known
    (rw known at (g.met.S.SourceTiles.exposed c.args.sources.now held c.requires.over).shapes) tiles g.K.Op.OpMeaning.local c.in_ok-windows.ensures.windows
