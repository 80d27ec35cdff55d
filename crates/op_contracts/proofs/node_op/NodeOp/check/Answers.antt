use Rattle.std.proofs.Common.{rules, ◌≡◌, ◌+◌, length, true, take, Some, ◌∙◌, sym, ap}
use Rattle.std.specs.Prelude.{slice_index_or}
use Rattle.pixel_formats.specs.declared.format.Format.TheVariants.{Y8}
use Rattle.model_graphs.specs.Filter.{Through}
use Rattle.model_graphs.specs.Filters.{format_through}
use Rattle.op_contracts.proofs.NodeOps.{own-inputs, through-format}
use Rattle.op_contracts.proofs.node_op.NodeOp.check.Goals as goal

pub returns : goal.returns
returns g c =
    let meaning = g.Op.OpMeaning in
    let operation = c.self.inside.op.now in
    let formats = c.args.formats.now in
    let own = c.in_ok-own.own in
    let masked : c.self.inside.is_masked ≡ true = search rules in
    let through : c.args.self.now ≡ Through operation = search rules in
    let more : length formats ≡ own + 1 = search rules in
    let inputs = own-inputs meaning.steady meaning.meanings meaning.nodes meaning.derived operation c.args.self.now through (length formats) own c.requires more in
    let made : meaning.meanings.format operation (take own formats) ≡ Some c.in_ok-format.format = search rules in
    let its : c.format_through.result ≡ format_through (slice_index_or formats 0 Y8) (slice_index_or formats own Y8) (Some c.in_ok-format.format) = c.format_through.ensures in
    its
    ∙ ap (format_through (slice_index_or formats 0 Y8) (slice_index_or formats own Y8)) (sym made)
    ∙ sym (through-format meaning.steady meaning.meanings meaning.nodes meaning.derived operation c.args.self.now through own inputs.0 inputs.1 formats)
