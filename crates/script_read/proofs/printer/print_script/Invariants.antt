use Rattle.std.proofs.Common.{◌≡◌, ◌++◌, drop}
use Rattle.script_words.specs.Lines.{text_of}
use Rattle.script_read.specs.Spelling.{lines_printed, printed}
use Rattle.script_read.proofs.PrintLaws.{AreTyped, Rises}
use Rattle.script_read.proofs.printer.print_script.Given as goal

abbrev pub invariant-loop-line : goal.invariant-loop-line
invariant-loop-line l = record {
  text : l.text.items ++ text_of (lines_printed l.next (drop l.line-index l.lines)) ≡ printed l.lines;
  typed : AreTyped (drop l.line-index l.lines) → AreTyped l.lines;
  rises : Rises l.next (drop l.line-index l.lines);
}
