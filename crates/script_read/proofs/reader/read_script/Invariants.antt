use Rattle.std.proofs.Common.{◌≡◌, length}
use Rattle.script_words.specs.Lines.{lines_of}
use Rattle.script_read.proofs.ScriptLaws.{LeadsTo, ahead}
use Rattle.script_read.specs.Script.{script_from, script_of}
use Rattle.script_read.proofs.reader.read_script.Given as goal

abbrev pub invariant-loop-line : goal.invariant-loop-line
invariant-loop-line l = record {
  reads : script_of l.fn.text ≡ ahead l.lines.items (script_from l.number l.watching (lines_of l.rest));
  leads : LeadsTo l.lines.items l.number l.watching;
}

abbrev pub decreases-loop-line : goal.decreases-loop-line
decreases-loop-line l = length l.rest
