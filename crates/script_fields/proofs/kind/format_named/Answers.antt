use Rattle.script_fields.proofs.FormatLaws.{format_found}
use Rattle.script_fields.proofs.kind.format_named.Goals as goal

pub returns : goal.returns
returns c = format_found c.args.word.now c.parse.result c.parse.ensures.some c.parse.ensures.none
