use Rattle.std.proofs.Common.{◌≡◌, ◌++◌, drop}
use Rattle.script_fields.specs.Fields.{naturals_in}
use Rattle.script_fields.proofs.lists.naturals_in.Given as goal

abbrev pub invariant-loop-field : goal.invariant-loop-field
invariant-loop-field l = naturals_in l.fields ≡ l.samples.items ++ naturals_in (drop l.field-index l.fields)
