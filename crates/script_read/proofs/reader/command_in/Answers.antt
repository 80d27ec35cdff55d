use Rattle.std.proofs.Common.{rules, ◌≡◌, true, length, nat_le, ap, ◌∙◌, arith}
use Rattle.std.proofs.lemmas.Bool.Decides.{nat_tests}
use Rattle.script_words.specs.Lines.{is_text}
use Rattle.script_words.specs.Words.{words_of}
use Rattle.script_read.proofs.ScriptLaws.{command_in-of_words}
use Rattle.script_fields.specs.Fields.{texts}
use Rattle.script_read.proofs.reader.command_in.Goals as goal

pub returns-clause-value : goal.returns-clause-value
returns-clause-value c =
    let words : texts c.deref.result.now ≡ words_of c.args.line.now = ap texts c.deref.ensures.value ∙ c.in_ok-split_words.ensures in
    let text : is_text c.args.line.now ≡ true = search rules in
    let short : nat_le (length c.args.line.now) 1024 ≡ true = grind (arith, nat_tests) in
    let early : nat_le c.args.number 10000 ≡ true = grind (arith, nat_tests) in
    rw (command_in-of_words c.args.number c.args.line.now text short early, ← words) c.spoken.ensures.value
