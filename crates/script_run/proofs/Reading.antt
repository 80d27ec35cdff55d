-- What a run leaves of a script that was read.
use Rattle.std.proofs.Common.{◌≡◌, ◌≢◌, ℕ, ◌≤◌, Bool, true, false, ◌||◌, cond, List, [], length, Option, Some, None, Result, Ok, Err, IfSome, IsTrue, is_some, sym, ap, ◌∙◌, subst, arith}
use Rattle.std.specs.Prelude.{nat_lt}
use Rattle.std.proofs.lemmas.Bool.Decides.{nat_tests}
use Rattle.chain_owners.specs.Counts.{Counts}
use Rattle.outside_io.specs.Files.{Files, file}
use Rattle.pixel_formats.specs.Limits.{max_script_bytes}
use Rattle.model_runs.specs.Built.{first_unbuilt, needs_no_swap, plan_of_read, unless_unbuilt}
use Rattle.model_runs.specs.Ending.{Leaves}
use Rattle.model_runs.specs.Ran.{bytes_put, tiles_of_run}
use Rattle.model_runs.specs.Run.{by_grammar, effects, lines_of_file, no_ending, outcome_of_effects, plan_of_lines, state_after}
use Rattle.model_runs.specs.State.{Effect, first_state}
use Rattle.model_runs.specs.Swap.{effects_to_stop, tiles_in}
use Rattle.model_runs.specs.Words.{Options}
use Rattle.model_runs.specs.declared.ending.End.{End}
use Rattle.model_runs.specs.declared.ending.End.TheVariants as ends
use Rattle.run_lines.proofs.Carrying.{carried_by_leaves, more_carried}
use Rattle.run_lines.specs.Carried.{CarriesOut, CarriesOutLines, most_to_stop}
use Rattle.run_lines.specs.Moments.{Moment, world_at}
use Rattle.model_runs.specs.Events.{Outcome, Refusal, refusal}
use Rattle.model_runs.specs.declared.cause.Cause.TheVariants.{Grammar, TooLong}
use Rattle.script_fields.specs.declared.cause.ScriptCause.{ScriptCause}
use Rattle.script_fields.specs.declared.cause.ScriptCause.TheVariants.{UnknownCommand}
use Rattle.script_read.specs.Script as grammar
use Rattle.script_read.specs.Script.{script_of}
use Rattle.script_read.specs.declared.command.Line.{Line}
use Rattle.script_run.specs.Carried.{CarriesOutRead, last_state}

abbrev pub moment : Option Files → Option (List ℕ) → ℕ → ℕ → ℕ → Counts → Moment
moment files text reads writes puts chain = record { files = files; text = text; reads = reads; writes = writes; puts = puts; chain = chain }

-- what leaves all files and texts is carried out, however the swap is
pub read_carried : (found : Option Files) (exposed : Bool) (options : Options) (read : Files → Result (List Line) Refusal) (result : Result (Unit {0}) End) (old new : Moment) → result ≢ Err ends.SwapFull →
    IfSome found (λ files. Leaves (plan_of_read no_ending [] files options (read files)).outcome result (world_at old) (world_at new)) →
    IfSome found (λ files. CarriesOutRead no_ending exposed files options (read files) result old new)
read_carried None exposed options read result old new room leaves = tt
read_carried (Some files) exposed options read result old new room leaves = carried_by_leaves _ _ _ result old new room leaves

-- ---- lines

-- what was read are lines, whose first that isn't built is this
abbrev CarriesOutBuilt : Bool → Files → Options → List Line → Option ℕ → Result (Unit {0}) End → Moment → Moment → Type 0
CarriesOutBuilt exposed files options lines unbuilt result old new =
    let plan = plan_of_lines no_ending options [] files (unless_unbuilt lines unbuilt) in
    CarriesOut (exposed || is_some unbuilt) plan.outcome (tiles_of_run plan (bytes_put old.text new.text)) result old new

unless_false : (exposed : Bool) (outcome : Outcome) (most : ℕ) (result : Result (Unit {0}) End) (old new : Moment) → CarriesOut exposed outcome most result old new → CarriesOut (exposed || false) outcome most result old new
unless_false true outcome most result old new carried = carried
unless_false false outcome most result old new carried = carried

-- a chain that has no names at first has no more than the run's tiles
tiles_from_none : (capacity names : ℕ) (put : Option (List ℕ)) (all : List Effect) → names ≡ 0 → most_to_stop capacity (first_state []) names put all ≤ tiles_in capacity (effects_to_stop put all)
tiles_from_none capacity names put all none = omega (arith, none)

-- lines that are all built
pub lines_read : (found : Option Files) (exposed : Bool) (options : Options) (lines : List Line) (result : Result (Unit {0}) End) (old new : Moment) →
    first_unbuilt lines ≡ None → old.chain.names ≡ 0 →
    IfSome found (λ files. CarriesOutLines exposed options.cache (first_state []) files lines result old new) →
    IfSome found (λ files. CarriesOutRead no_ending exposed files options (Ok lines) result old new)
lines_read None exposed options lines result old new built none carried = tt
lines_read (Some files) exposed options lines result old new built none carried =
    let all = effects options.cache (first_state []) files lines in
    let put = bytes_put old.text new.text in
    let outcome = outcome_of_effects no_ending (first_state []) files all in
    let most = most_to_stop options.cache (first_state []) old.chain.names put all in
    let tiles = tiles_in options.cache (effects_to_stop put all) in
    subst (λ (o : Option ℕ). CarriesOutBuilt exposed files options lines o result old new) (sym built)
    (unless_false exposed outcome tiles result old new
    (more_carried exposed outcome most tiles result old new (tiles_from_none options.cache old.chain.names put all none) carried))

-- the outcome of lines of which one isn't built
pub unbuilt_outcome : (files : Files) (options : Options) (lines : List Line) (unbuilt : ℕ) → first_unbuilt lines ≡ Some unbuilt →
    (plan_of_read no_ending [] files options (Ok lines)).outcome ≡ refusal unbuilt (Grammar UnknownCommand)
unbuilt_outcome files options lines unbuilt some = ap (λ (o : Option ℕ). (plan_of_lines no_ending options [] files (unless_unbuilt lines o)).outcome) some

-- ---- a text

-- the outcome of a text that the grammar refuses
pub refused_outcome : (files : Files) (options : Options) (read : Result (List Line) grammar.Refusal) (line : ℕ) (cause : ScriptCause) → read ≡ Err (line, cause) →
    (plan_of_read no_ending [] files options (by_grammar read)).outcome ≡ refusal line (Grammar cause)
refused_outcome files options read line cause is = ap (λ r. (plan_of_read no_ending [] files options (by_grammar r)).outcome) is

-- what is left after a read of the shelf, which changes no file
carried_after_read : (exposed : Bool) (outcome : Outcome) (tiles : ℕ) (result : Result (Unit {0}) End) (old mid : Option Files) (text : Option (List ℕ)) (reads more writes later puts : ℕ) (chain : Counts) (new : Moment) → mid ≡ old →
    CarriesOut exposed outcome tiles result (record { files = mid; text = text; reads = more; writes = later; puts = puts; chain = chain }) new →
    CarriesOut exposed outcome tiles result (record { files = old; text = text; reads = reads; writes = writes; puts = puts; chain = chain }) new
carried_after_read exposed outcome tiles result old mid text reads more writes later puts chain new same carried =
    let there = subst (λ (f : Option Files). CarriesOut exposed outcome tiles result (record { files = f; text = text; reads = more; writes = later; puts = puts; chain = chain }) new) same carried in
    record { refused = there.refused; whole = there.whole; texts = there.texts; prefix = there.prefix; texts_prefix = there.texts_prefix; full = there.full }

lines_of_text : (found : Option (List ℕ)) (text : List ℕ) → found ≡ Some text → length text ≤ max_script_bytes → lines_of_file found ≡ by_grammar (script_of text)
lines_of_text found text is fits =
    let short : nat_lt max_script_bytes (length text) ≡ false = grind (arith, nat_tests, fits) in
    ap lines_of_file is ∙ ap (λ (b : Bool). cond b (Err (record { line = 0; cause = TooLong })) (by_grammar (script_of text))) short

both_known : (found : Option Files) (P Q R : Files → Type 0) → ((files : Files) → P files → Q files → R files) → IfSome found P → IfSome found Q → IfSome found R
both_known None P Q R all one other = tt
both_known (Some files) P Q R all one other = all files one other

-- a script whose text was read
pub text_carried : (exposed : Bool) (options : Options) (name bytes : List ℕ) (result : Result (Unit {0}) End) (old mid : Option Files) (text : Option (List ℕ)) (reads more writes later puts : ℕ) (chain : Counts) (new : Moment) → mid ≡ old →
    IfSome old (λ files. file files name ≡ Some bytes) → length bytes ≤ max_script_bytes →
    IfSome mid (λ files. CarriesOutRead no_ending exposed files options (by_grammar (script_of bytes)) result (record { files = mid; text = text; reads = more; writes = later; puts = puts; chain = chain }) new) →
    IfSome old (λ files. CarriesOutRead no_ending exposed files options (lines_of_file (file files name)) result (record { files = old; text = text; reads = reads; writes = writes; puts = puts; chain = chain }) new)
text_carried exposed options name bytes result old mid text reads more writes later puts chain new same known fits carried =
    both_known old (λ files. file files name ≡ Some bytes)
    (λ files. CarriesOutRead no_ending exposed files options (by_grammar (script_of bytes)) result (record { files = mid; text = text; reads = more; writes = later; puts = puts; chain = chain }) new)
    (λ files. CarriesOutRead no_ending exposed files options (lines_of_file (file files name)) result (record { files = old; text = text; reads = reads; writes = writes; puts = puts; chain = chain }) new)
    (λ files is left.
    subst (λ (read : Result (List Line) Refusal). CarriesOutRead no_ending exposed files options read result (record { files = old; text = text; reads = reads; writes = writes; puts = puts; chain = chain }) new)
    (sym (lines_of_text (file files name) bytes is fits))
    (carried_after_read _ _ _ result old mid text reads more writes later puts chain new same left))
    known
    (subst (λ (o : Option Files). IfSome o (λ files. CarriesOutRead no_ending exposed files options (by_grammar (script_of bytes)) result (record { files = mid; text = text; reads = more; writes = later; puts = puts; chain = chain }) new)) same carried)

-- what holds of a text that was read holds of the script
pub text_read : (P : Files → Result (List Line) Refusal → Type 0) (old mid : Option Files) (name bytes : List ℕ) → mid ≡ old →
    IfSome old (λ files. file files name ≡ Some bytes) → length bytes ≤ max_script_bytes →
    IfSome mid (λ files. P files (by_grammar (script_of bytes))) → IfSome old (λ files. P files (lines_of_file (file files name)))
text_read P old mid name bytes same known fits holds =
    both_known old (λ files. file files name ≡ Some bytes) (λ files. P files (by_grammar (script_of bytes))) (λ files. P files (lines_of_file (file files name)))
    (λ files is read. subst (P files) (sym (lines_of_text (file files name) bytes is fits)) read)
    known
    (subst (λ (o : Option Files). IfSome o (λ files. P files (by_grammar (script_of bytes)))) same holds)

-- the state to which lines lead that are all built
pub last_of_built : (files : Files) (options : Options) (lines : List Line) → first_unbuilt lines ≡ None →
    state_after (first_state []) (effects options.cache (first_state []) files lines) ≡ last_state files options (Ok lines)
last_of_built files options lines built =
    sym (ap (λ (o : Option ℕ). state_after (first_state []) (plan_of_lines no_ending options [] files (unless_unbuilt lines o)).effects) built)

-- ---- scripts that need no swap

pub any_known : (found : Option Files) (P : Files → Type 0) → ((files : Files) → P files) → IfSome found P
any_known None P all = tt
any_known (Some files) P all = all files

-- lines that are all built need it
pub lines_need_it : (lines : List Line) → first_unbuilt lines ≡ None → IsTrue (needs_no_swap (Ok lines)) → ⊥
lines_need_it lines built none =
    let need : needs_no_swap (Ok lines) ≡ false = ap (λ (o : Option ℕ). is_some o) built in
    cc

-- what is left of a text that was read, where its lines need no swap
pub text_unswapped : (found : Option Files) (name bytes : List ℕ) (P : Type 0) → IfSome found (λ files. file files name ≡ Some bytes) → length bytes ≤ max_script_bytes →
    (IsTrue (needs_no_swap (by_grammar (script_of bytes))) → P) → IfSome found (λ files. IsTrue (needs_no_swap (lines_of_file (file files name))) → P)
text_unswapped None name bytes P known fits left = tt
text_unswapped (Some files) name bytes P known fits left =
    λ none. left (subst (λ (read : Result (List Line) Refusal). IsTrue (needs_no_swap read)) (lines_of_text (file files name) bytes known fits) none)
