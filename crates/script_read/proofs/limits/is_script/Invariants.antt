use Rattle.std.proofs.Common.{◌↔◌, drop}
use Rattle.script_read.specs.IsScript.{IsScript, MayFollow}
use Rattle.script_read.proofs.limits.is_script.Given as goal

abbrev pub invariant-loop-line : goal.invariant-loop-line
invariant-loop-line l = IsScript l.lines ↔ MayFollow l.next l.watching (drop l.line-index l.lines)
