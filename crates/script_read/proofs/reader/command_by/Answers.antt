use Rattle.std.proofs.Common.{◌≡◌, true, length, Ok, sym, ap, ◌∙◌, arith}
use Rattle.std.proofs.lemmas.Bool.Decides.{nat_tests}
use Rattle.std.proofs.lemmas.List.{length-map}
use Rattle.script_fields.specs.Fields.{fields_of_words, texts}
use Rattle.script_read.specs.Forms.{is_counted, kinds_for, kinds_of}
use Rattle.script_read.proofs.ScriptLaws.{command_by-read}
use Rattle.script_read.proofs.reader.command_by.Goals as goal

pub returns : goal.returns
returns c =
    let form = c.args.form in
    let words = texts c.args.words.now in
    let items = c.read_fields.new.fields.items in
    let long : length words ≡ length c.args.words.now = length-map c.args.words.now _ in
    let all : c.kinds-kinds.result.now ≡ kinds_for form words = c.kinds-kinds.ensures ∙ ap (kinds_of form) (sym long) in
    let same : length c.kinds-kinds.result.now ≡ length c.args.words.now = grind (arith, nat_tests) in
    let equal : length (kinds_for form words) ≡ length words = sym (ap length all) ∙ same ∙ sym long in
    let counted : is_counted form words ≡ true = grind (arith, nat_tests) in
    let are : fields_of_words (kinds_for form words) words ≡ Ok items = rw all at c.in_default.ensures in
    rw (command_by-read form words items counted are, ← c.deref.ensures.value) c.command_of.ensures
