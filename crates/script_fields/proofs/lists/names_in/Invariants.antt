use Rattle.std.proofs.Common.{◌≡◌, ◌++◌, drop}
use Rattle.script_fields.specs.Fields.{names_in}
use Rattle.script_fields.proofs.lists.names_in.Given as goal

abbrev pub invariant-loop-field : goal.invariant-loop-field
invariant-loop-field l = names_in l.fields ≡ l.names.items ++ names_in (drop l.field-index l.fields)
