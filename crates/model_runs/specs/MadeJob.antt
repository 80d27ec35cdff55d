-- The job that a number makes: a script, and the raster that it loads.
use Rattle.std.specs.Prelude.{ℕ, zero, suc, ◌+◌, ◌*◌, ◌/◌, ◌%◌, ◌^◌, List, [], ◌∷◌, ◌++◌, codes, map, sum, unwrap_or}
use Rattle.std.specs.FinMap.{from_entries}
use Rattle.std.specs.Fmt.{decimal}
use Rattle.std.specs.List.{range_with_len}
use Rattle.outside_io.specs.Files.{Files, file, filed}
use Rattle.script_words.specs.Lines.{text_of}
use Rattle.script_words.specs.Words.{joined}
use Rattle.model_runs.specs.Events.{Puts}
use Rattle.model_runs.specs.Texts.{sum_text}
use Rattle.model_runs.specs.Run.{Ending, Plan, plan_of_script, report}
use Rattle.model_runs.specs.Words.{default_options}

-- ---- draws

-- the next state of the generator, which begins with the job's number
abbrev pub next_state : ℕ → ℕ
next_state x = (1664525 * x + 1013904223) % 2 ^ 32

-- so many draws after a state: of each next state the highest byte
unfoldable pub draws : ℕ → ℕ → List ℕ
draws zero x = []
draws (suc n) x = next_state x / 2 ^ 24 ∷ draws n (next_state x)

-- the state after so many draws
unfoldable pub state_after_draws : ℕ → ℕ → ℕ
state_after_draws zero x = x
state_after_draws (suc n) x = state_after_draws n (next_state x)

-- ---- the script

-- the fill of a small rectangle by seven draws
abbrev pub fill_by : List ℕ → List (List ℕ)
fill_by (p ∷ q ∷ v ∷ w ∷ r ∷ g ∷ b ∷ []) =
    codes "fill" ∷ codes "a" ∷ map decimal (p ∷ q ∷ (1 + v % 32) ∷ (1 + w % 32) ∷ r ∷ g ∷ b ∷ [])
fill_by other = []

-- so many fills, each by the next seven draws after a state
unfoldable pub fills : ℕ → ℕ → List (List (List ℕ))
fills zero x = []
fills (suc n) x = fill_by (draws 7 x) ∷ fills n (state_after_draws 7 x)

-- the file of the render of a number
abbrev pub render_file : ℕ → List ℕ
render_file number = codes "r" ++ decimal number ++ codes ".raw"

-- the render of a number, of the whole image
abbrev pub render_line : ℕ → List ℕ
render_line number = codes "render i 0 0 0 512 384 " ++ render_file number

-- a buffer under a graph of six nodes, and the first render
abbrev pub first_lines : List (List ℕ)
first_lines =
    codes "buffer a RGB8 0 0 512 384"
    ∷ codes "load a 0 0 512 384 g.raw"
    ∷ codes "node s source a"
    ∷ codes "node k checker RGB8 -32 -32 576 448 32 0 64"
    ∷ codes "node d add s k"
    ∷ codes "node b box 3 CLAMP d"
    ∷ codes "node e erode 1 NONE b"
    ∷ codes "node i invert e"
    ∷ codes "commit"
    ∷ render_line 0
    ∷ []

-- each fill, its commit and its render, from the render of a number on
abbrev pub edit_lines : ℕ → List (List (List ℕ)) → List (List ℕ)
edit_lines number [] = []
edit_lines number (fill ∷ fills) = joined fill ∷ codes "commit" ∷ render_line number ∷ edit_lines (suc number) fills

abbrev pub last_lines : List (List ℕ)
last_lines =
    codes "undo" ∷ render_line 25 ∷ codes "undo" ∷ render_line 26 ∷ codes "redo" ∷ render_line 27 ∷ []

unfoldable pub made_script : ℕ → List ℕ
made_script number = text_of (first_lines ++ edit_lines 1 (fills 24 number) ++ last_lines)

-- ---- the raster

-- the bytes of 512 by 384 pixels of three channels: the draws after those of the fills
unfoldable pub made_raster : ℕ → List ℕ
made_raster number = draws (512 * 384 * 3) (state_after_draws (24 * 7) number)

-- ---- the run

abbrev pub job_name : List ℕ
job_name = codes "job.txt"

-- The files of a shelf that holds the job.
abbrev pub made_files : ℕ → Files
made_files number = filed (filed (from_entries []) (codes "g.raw") (made_raster number)) job_name (made_script number)

-- the sum of all bytes of the 28 files that the renders write
unfoldable pub render_sum : Files → ℕ
render_sum files = sum (map (λ number. sum (unwrap_or (file files (render_file number)) [])) (range_with_len 0 28))

-- the sum is put before the report
abbrev pub made_ending : Ending
made_ending state files = Puts (sum_text (render_sum files)) ∷ report state files

-- What a run of the job is to do over a shelf of its own.
abbrev pub made_plan : ℕ → Plan
made_plan number = plan_of_script made_ending default_options [] (made_files number) job_name
