-- The texts of a run, each a line.
use Rattle.std.specs.Prelude.{ℕ, List, ◌++◌, codes}
use Rattle.std.specs.Fmt.{decimal}
use Rattle.script_fields.specs.Causes as grammar
use Rattle.model_runs.specs.declared.cause.Cause.{Cause}
use Rattle.model_runs.specs.declared.cause.Cause.TheVariants as causes

-- the name of a cause
abbrev pub cause_word : Cause → List ℕ
cause_word (causes.Grammar cause) = grammar.cause_word cause
cause_word causes.Absent = codes "Absent"
cause_word causes.TooLong = codes "TooLong"
cause_word causes.UnknownBuffer = codes "UnknownBuffer"
cause_word causes.NameTaken = codes "NameTaken"
cause_word causes.OutOfBounds = codes "OutOfBounds"
cause_word causes.WrongSize = codes "WrongSize"
cause_word causes.Formats = codes "Formats"
cause_word causes.TooManyBuffers = codes "TooManyBuffers"
cause_word causes.UnknownInput = codes "UnknownInput"
cause_word causes.Arity = codes "Arity"
cause_word causes.Bounds = codes "Bounds"
cause_word causes.InUse = codes "InUse"
cause_word causes.TooManyNodes = codes "TooManyNodes"
cause_word causes.NothingToUndo = codes "NothingToUndo"
cause_word causes.NothingToRedo = codes "NothingToRedo"
cause_word causes.TooManyCommits = codes "TooManyCommits"
cause_word causes.UnknownNode = codes "UnknownNode"
cause_word causes.Strip = codes "Strip"

-- of a line that is refused
abbrev pub refusal_text : ℕ → Cause → List ℕ
refusal_text line cause = codes "line " ++ decimal line ++ codes ": " ++ cause_word cause ++ codes "\n"

-- of a render line whose file is written: the last commit, and how many bytes the file has
abbrev pub render_text : ℕ → ℕ → ℕ → List ℕ
render_text line commit bytes =
    codes "render " ++ decimal line ++ codes " commit " ++ decimal commit ++ codes " bytes " ++ decimal bytes ++ codes "\n"

-- of a grab line whose file is written
abbrev pub grab_text : ℕ → ℕ → List ℕ
grab_text line bytes = codes "grab " ++ decimal line ++ codes " bytes " ++ decimal bytes ++ codes "\n"

-- of a frame whose file is written: the line of the watch, the viewer, the frame, the commit that it shows
abbrev pub frame_text : ℕ → ℕ → ℕ → ℕ → ℕ → List ℕ
frame_text line viewer frame commit bytes =
    codes "frame " ++ decimal line ++ codes " " ++ decimal viewer ++ codes " " ++ decimal frame
    ++ codes " commit " ++ decimal commit ++ codes " bytes " ++ decimal bytes ++ codes "\n"

-- of the bytes that all files of a made job have together
abbrev pub sum_text : ℕ → List ℕ
sum_text sum = codes "sum " ++ decimal sum ++ codes "\n"

-- of the tiles of nodes that were computed, and of those that were found in the cache
abbrev pub report_text : ℕ → ℕ → List ℕ
report_text applied reused = codes "report applied " ++ decimal applied ++ codes " reused " ++ decimal reused ++ codes "\n"
