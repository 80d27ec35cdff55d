-- A graph of a buffer and one operation that looks a position further, on which regions and counts are worked out by hand.
use Rattle.std.specs.Prelude.{ℕ, ◌+◌, ◌-◌, ◌==◌, if◌then◌else◌, List, [], ◌∷◌, Option, Some, None, codes, pos}
use Rattle.plane_rect.specs.Rectangle.{Rectangle, empty, is_empty, meet, spanning, end_column, end_row, placed}
use Rattle.pixel_formats.specs.declared.format.Format.{Format}
use Rattle.pixel_formats.specs.declared.format.Format.TheVariants.{Y8}
use Rattle.model_graphs.specs.declared.node.Body.TheVariants.{Source, Compute}
use Rattle.model_graphs.specs.declared.node.NodeFact.{NodeFact}
use Rattle.model_graphs.specs.Facts.{Facts, shapes_of_facts}
use Rattle.model_graphs.specs.Node.{Node}
use Rattle.model_graphs.specs.Meanings.{Meanings}
use Rattle.model_states.specs.Cache.{Pair, Counted, all_looked_up, itself, needed_pairs, uncounted, without_damaged}
use Rattle.model_states.specs.Damage.{damage}
use Rattle.model_states.specs.Need.{need}
use Rattle.model_states.specs.Samples.{samples_change}
use Rattle.model_states.specs.Valid.{stated}

-- a rectangle with so many more positions on each side
abbrev pub widened : ℕ → Rectangle → Rectangle
widened by r = if is_empty r then r else spanning (r.first_column - by) (r.first_row - by) (end_column r + by) (end_row r + by)

abbrev pub first_format : List Format → Option Format
first_format [] = None
first_format (format ∷ formats) = Some format

abbrev pub first_box : List Rectangle → Rectangle
first_box [] = empty
first_box (box ∷ boxes) = box

-- operations of which each sample depends on so many positions on each side: their regions, no values
abbrev pub neighborhoods : Meanings ℕ
neighborhoods =
    record {
      input_count = λ by. 1;
      format = λ by formats. first_format formats;
      box = λ by boxes. Some (widened by (first_box boxes));
      value = λ by images u v c. 0;
      required = λ by boxes i part. meet (widened by (meet part (widened by (first_box boxes)))) (first_box boxes);
      invalidated = λ by boxes i changed. meet (widened by (meet changed (first_box boxes))) (widened by (first_box boxes));
    }

-- from the origin on, so many columns and as many rows
abbrev pub square : ℕ → Rectangle
square side = placed (pos 0) (pos 0) side side

-- a buffer of such a square
abbrev pub square_buffer : ℕ → Facts
square_buffer side =
    record { name = codes "a"; root = codes "a"; bounds = square side; format = Y8 } ∷ []

-- a node of the buffer, and one that looks one position further
abbrev pub two_nodes : List (Node ℕ)
two_nodes =
    record { name = codes "s"; body = Source (codes "a") }
    ∷ record { name = codes "b"; body = Compute 1 (codes "s" ∷ []) }
    ∷ []

abbrev pub two_node_facts : ℕ → List (NodeFact ℕ)
two_node_facts side = stated neighborhoods (shapes_of_facts (square_buffer side)) two_nodes

-- the damage of the second node where one pixel of the buffer of 128 by 128 is written
abbrev pub damage_by : Rectangle → List ℕ → Rectangle
damage_by written =
    damage (λ a b. a == b) neighborhoods (samples_change neighborhoods (square_buffer 128) two_nodes ((codes "a", written) ∷ []))

-- what a render of the square's 128 by 128 pixels looks up
abbrev pub square_pairs : List Pair
square_pairs = needed_pairs two_nodes (need neighborhoods (two_node_facts 128) 1 (square 128))

-- a list of pairs after such a render, with its counts
abbrev pub rendered : List Pair → Counted Pair
rendered list = all_looked_up itself itself (Some 16384) (uncounted list) square_pairs

-- the counts of such a render after one that filled an empty list, and an edit that wrote a rectangle
abbrev pub rendered_after_edit : Rectangle → Counted Pair
rendered_after_edit written = rendered (without_damaged itself (damage_by written) (rendered []).list)

-- how many were applied, and how many reused
abbrev pub counts : Counted Pair → ℕ × ℕ
counts counted = (counted.applied, counted.reused)
