-- Scripts that can't be read.
use Rattle.std.proofs.Common.{◌≡◌, ℕ, ◌<◌, List, [], length, Option, Some, None, true, ltb, refl, arith}
use Rattle.std.proofs.lemmas.Bool.Decides.{nat_tests}
use Rattle.pixel_formats.specs.Limits.{max_script_bytes}
use Rattle.outside_io.specs.Files.{Files}
use Rattle.model_runs.specs.Built.{plan_of_read}
use Rattle.model_runs.specs.Run.{lines_of_file, no_ending}
use Rattle.model_runs.specs.Words.{Options}
use Rattle.model_runs.specs.Events.{refusal}
use Rattle.model_runs.specs.declared.cause.Cause.TheVariants as causes

pub script_too_long : (files : Files) (options : Options) (found : Option (List ℕ)) → (text : List ℕ) × (found ≡ Some text) × (max_script_bytes < length text) →
    (plan_of_read no_ending [] files options (lines_of_file found)).outcome ≡ refusal 0 causes.TooLong
script_too_long files options found long =
    let over : ltb max_script_bytes (length long.0) ≡ true = grind (arith, nat_tests) in
    rw long.1 (simp over)

pub script_absent : (files : Files) (options : Options) (found : Option (List ℕ)) → found ≡ None → (plan_of_read no_ending [] files options (lines_of_file found)).outcome ≡ refusal 0 causes.Absent
script_absent files options found none = rw none refl
