-- A script that loads a raster, by the bytes that the file has.
use Rattle.std.proofs.Common.{◌≡◌, ap, ◌∙◌, refl, ℕ, List, [], ◌∷◌, ◌++◌, Option, codes}
use Rattle.std.specs.Fmt.{digits}
use Rattle.plane_rect.specs.Rectangle.{empty}
use Rattle.pixel_formats.specs.declared.format.Format.TheVariants.{Y8}
use Rattle.outside_io.specs.Files.{Files}
use Rattle.model_images.specs.Image.{at}
use Rattle.model_images.specs.Raw.{raw}
use Rattle.model_images.specs.Level.{level}
use Rattle.model_runs.specs.Events.{Event, Puts}
use Rattle.script_read.specs.declared.command.Command.TheVariants as commands
use Rattle.script_read.specs.declared.command.Line.{Line}
use Rattle.model_runs.specs.Examples.{HasRaster, inverting_node, inverted_raster, lines_from, outcome_of, render, row_from, source_node, exposed}
use Rattle.model_runs.specs.Run.{and_on, effects, outcome_of_effects, report}
use Rattle.model_runs.specs.State.{Effect, first_state}
use Rattle.model_runs.specs.Effects.{loads, effect}

-- the effect of the line that makes the buffer
abbrev made : Files → Effect
made files = effect 100 (first_state []) files 1 (commands.Buffer (codes "a") Y8 (row_from 0 2))

-- the lines after the one that loads
abbrev after : List Line
after =
    lines_from 3
    (source_node (codes "s") (codes "a")
    ∷ inverting_node (codes "i") (codes "s")
    ∷ commands.Commit
    ∷ render (row_from 0 2) (codes "out.raw")
    ∷ render empty (codes "none.raw")
    ∷ [])

-- the events where this is found of the file
abbrev events_with : Files → Option (List ℕ) → List Event
events_with files found =
    (outcome_of_effects report (first_state []) files
    (made files
    ∷ and_on files (λ next later. effects 100 next later after)
    (loads 2 (made files).next (codes "a") (row_from 0 2) found))).events

pub inverted : (files : Files) → HasRaster (64 ∷ 255 ∷ []) files →
    (outcome_of [] files (inverted_raster ++ render (row_from 0 2) (codes "out.raw") ∷ render empty (codes "none.raw") ∷ [])).events
    ≡ exposed (codes "out.raw") (191 ∷ 0 ∷ []) (codes "render 6 commit 1 bytes 2")
    ++ exposed (codes "none.raw") [] (codes "render 7 commit 1 bytes 0")
    ++ Puts (codes "report applied 1 reused 0\n") ∷ []
unfolding digits raw at level
inverted files has = ap (events_with files) has ∙ refl
