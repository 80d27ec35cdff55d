use Rattle.std.proofs.Common.{◌↔◌, drop}
use Rattle.script_fields.specs.Limits.{AreOf}
use Rattle.script_fields.proofs.limits.are_of.Given as goal

abbrev pub invariant-loop-field : goal.invariant-loop-field
invariant-loop-field l = AreOf l.fn.kinds l.fields ↔ AreOf l.kinds (drop l.field-index l.fields)
