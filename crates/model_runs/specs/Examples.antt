-- Small scripts, whose runs are worked out by hand.
use Rattle.std.specs.Prelude.{◌≡◌, ℕ, suc, Some, List, [], ◌∷◌, ◌++◌, codes, pos}
use Rattle.plane_rect.specs.Rectangle.{Rectangle, placed}
use Rattle.pixel_formats.specs.declared.format.Format.TheVariants.{Y8}
use Rattle.pixel_formats.specs.declared.abyss.Abyss.TheVariants as policies
use Rattle.model_operations.specs.declared.operation.IntOp.TheVariants as operations
use Rattle.outside_io.specs.Files.{Files, file}
use Rattle.model_runs.specs.Events.{Event, Outcome, Puts, Writes}
use Rattle.script_read.specs.declared.command.Command.{Command}
use Rattle.script_read.specs.declared.command.Command.TheVariants as commands
use Rattle.script_read.specs.declared.command.Line.{Line}
use Rattle.script_read.specs.declared.command.OpWords.TheVariants as words
use Rattle.model_runs.specs.Run.{effects_of, outcome_from, report}
use Rattle.model_runs.specs.State.{Numbers, Effect, first_state}
-- the digits of numbers in texts, which the proofs of the examples unfold
pub use Rattle.std.specs.Fmt.{digits}

-- commands as the lines of a script, from a number on
abbrev pub lines_from : ℕ → List Command → List Line
lines_from number [] = []
lines_from number (command ∷ commands) = record { number = number; command = command } ∷ lines_from (suc number) commands

-- what these commands come to over files, with a cache of 100 tiles
abbrev pub outcome_of : Numbers → Files → List Command → Outcome
outcome_of numbers files commands = outcome_from report 100 (first_state numbers) files (lines_from 1 commands)

-- the file `in.raw` has these bytes
abbrev pub HasRaster : List ℕ → Files → Type 0
HasRaster bytes files = file files (codes "in.raw") ≡ Some bytes

-- from x on, so many positions of the row at the origin
abbrev pub row_from : ℕ → ℕ → Rectangle
row_from x width = placed (pos x) (pos 0) width 1

abbrev pub source_node : List ℕ → List ℕ → Command
source_node name buffer = commands.Node name (words.Source buffer) []

abbrev pub inverting_node : List ℕ → List ℕ → Command
inverting_node name input = commands.Node name (words.Compute operations.Invert) (input ∷ [])

-- a rectangle of the node `i` is rendered
abbrev pub render : Rectangle → List ℕ → Command
render rectangle file = commands.Render (codes "i") 0 rectangle file

-- a row of a buffer is written to a file, zeros outside
abbrev pub grab : List ℕ → Rectangle → List ℕ → Command
grab name rectangle file = commands.Grab name 0 policies.None rectangle file

-- one sample over a row of a buffer
abbrev pub fill : List ℕ → Rectangle → ℕ → Command
fill name rectangle sample = commands.Fill name rectangle (sample ∷ [])

-- a file is written, and its text is put
abbrev pub exposed : List ℕ → List ℕ → List ℕ → List Event
exposed name bytes text = Writes name bytes ∷ Puts (text ++ codes "\n") ∷ []

-- the raster `in.raw` is loaded and inverted
abbrev pub inverted_raster : List Command
inverted_raster =
    commands.Buffer (codes "a") Y8 (row_from 0 2)
    ∷ commands.Load (codes "a") (row_from 0 2) (codes "in.raw")
    ∷ source_node (codes "s") (codes "a")
    ∷ inverting_node (codes "i") (codes "s")
    ∷ commands.Commit
    ∷ []

-- a buffer of four zeros, and a part of it from its second position on
abbrev pub part_of_zeros : List Command
part_of_zeros =
    commands.Buffer (codes "a") Y8 (row_from 0 4)
    ∷ commands.Sub (codes "s") (codes "a") (row_from 1 9)
    ∷ []

-- one tile is filled and grabbed, and then filled again
abbrev pub filled_twice : Files → List Effect
filled_twice files =
    effects_of 100 [] files
    (lines_from 1
    (commands.Buffer (codes "a") Y8 (row_from 0 4)
    ∷ fill (codes "a") (row_from 0 4) 7
    ∷ grab (codes "a") (row_from 0 1) (codes "o")
    ∷ fill (codes "a") (row_from 0 1) 9
    ∷ []))

-- two positions of 1 are inverted and watched by one viewer of two frames, while one position becomes 2 and then 3
abbrev pub watched_edits : List Command
watched_edits =
    commands.Buffer (codes "a") Y8 (row_from 0 2)
    ∷ fill (codes "a") (row_from 0 2) 1
    ∷ source_node (codes "s") (codes "a")
    ∷ inverting_node (codes "i") (codes "s")
    ∷ commands.Commit
    ∷ commands.Watch (codes "i") (row_from 0 2) 1 2 (codes "w")
    ∷ fill (codes "a") (row_from 0 1) 2
    ∷ commands.Commit
    ∷ fill (codes "a") (row_from 0 1) 3
    ∷ commands.Commit
    ∷ commands.EndWatch
    ∷ []
