use Rattle.std.proofs.Common.{arith}
use Rattle.std.specs.Str.{IsUtf8}
use Rattle.std.proofs.lemmas.Grind.{common_steps}
use Rattle.script_words.proofs.FileNamesLemmas.{IsUtf8-file_name}
use Rattle.script_words.proofs.file_name.FileName.as_str.Goals as goal

pub unwrap-requires : goal.unwrap-requires
unwrap-requires c =
    let text : IsUtf8 c.as_bytes.result.now = IsUtf8-file_name c.as_bytes.result.now c.as_bytes.ensures.name in
    grind (arith, common_steps, text, c.from_utf8.ensures.cases)
