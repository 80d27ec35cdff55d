use Rattle.std.proofs.Common.{rules}
use Rattle.script_words.proofs.FileNamesLemmas.{written_file_name}
use Rattle.script_words.proofs.file_name.FileName.parse.Goals as goal

pub invariant_of-result : goal.invariant_of-result
invariant_of-result c = rw c.copy_from_slice.ensures.after (written_file_name c.args.word.now (search rules))
