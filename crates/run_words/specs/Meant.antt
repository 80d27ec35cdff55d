-- What the data of words mean.
use Rattle.std.specs.Prelude.{⊤, IsTrue}
use Rattle.outside_io.specs.FileName.{is_file_name}
use Rattle.model_runs.specs.Words.{OptionName, Options, Request as Asked, RunScript as AsksRun, MakeJob as AsksJob, Workers, Resident, Cache, SwapBlocks}
use Rattle.run_words.specs.declared.options.OptionName.{OptionName as Name}
use Rattle.run_words.specs.declared.options.OptionName.TheVariants as names
use Rattle.run_words.specs.declared.options.Options.{Options as Given}
use Rattle.run_words.specs.declared.request.Request.{Request}
use Rattle.run_words.specs.declared.request.Request.TheVariants.{RunScript, MakeJob}

-- the option of a name
abbrev pub name_meant : Name → OptionName
name_meant names.Workers = Workers
name_meant names.Resident = Resident
name_meant names.Cache = Cache
name_meant names.SwapBlocks = SwapBlocks

-- the options as the definitions have them
abbrev pub options_meant : Given → Options
options_meant given = record { workers = given.workers; resident = given.resident; cache = given.cache; swap_blocks = given.swap_blocks }

-- what a request asks for
abbrev pub asked : Request → Asked
asked (RunScript script options) = AsksRun script.now (options_meant options)
asked (MakeJob number) = AsksJob number

-- its script has the name of a file
abbrev pub HasFileName : Request → Type 0
HasFileName (RunScript script options) = IsTrue (is_file_name script.now)
HasFileName (MakeJob number) = ⊤
