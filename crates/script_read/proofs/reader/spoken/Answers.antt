use Rattle.script_fields.specs.Fields.{texts}
use Rattle.script_read.proofs.InLimits.{command_in_limits}
use Rattle.script_read.proofs.reader.spoken.Goals as goal

pub returns-clause-limits : goal.returns-clause-limits
returns-clause-limits c = command_in_limits (texts c.args.words.now) c.in_ok-command.command c.in_ok-command.ensures
