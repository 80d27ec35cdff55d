-- Small histories and graphs of the fifteen operations, on which states and counts are worked out by hand.
use Rattle.std.specs.Prelude.{ℕ, List, [], ◌∷◌, map, length, codes, pos, Result, Some}
use Rattle.plane_rect.specs.Rectangle.{Rectangle, placed}
use Rattle.pixel_formats.specs.declared.format.Format.TheVariants.{Y8}
use Rattle.pixel_formats.specs.declared.abyss.Abyss.TheVariants as policies
use Rattle.model_buffers.specs.declared.edit.BufferEdit.TheVariants.{Create, Fill}
use Rattle.model_buffers.specs.Table.{Table}
use Rattle.model_operations.specs.declared.operation.IntOp.{IntOp}
use Rattle.model_operations.specs.declared.operation.IntOp.TheVariants.{BoxMean, Checker, Color, Crop}
use Rattle.model_graphs.specs.declared.node.Body.{Body}
use Rattle.model_graphs.specs.declared.node.Body.TheVariants.{Compute, Source}
use Rattle.model_graphs.specs.declared.node.NodeEdit.TheVariants.{Set}
use Rattle.model_graphs.specs.declared.node.NodeFact.{NodeFact}
use Rattle.model_graphs.specs.Facts.{Facts, shapes_of_facts}
use Rattle.model_graphs.specs.Node.{Node}
use Rattle.model_states.specs.declared.refused.StateRefused.{StateRefused}
use Rattle.model_states.specs.declared.strip.Strip.{Strip}
use Rattle.model_states.specs.Cache.{Counted, Pair, all_looked_up, itself, needed_pairs, uncounted, without_damaged}
use Rattle.model_states.specs.Commits.{side_of}
use Rattle.model_states.specs.Damage.{Change, damage}
use Rattle.model_states.specs.Examples.{square, square_buffer}
use Rattle.model_states.specs.History.{Committed, History, committed, committed_states}
use Rattle.model_states.specs.Need.{need}
use Rattle.model_states.specs.Rectangles.{Rectangles}
use Rattle.model_states.specs.Samples.{samples_change}
use Rattle.model_states.specs.Valid.{stated}
use Rattle.model_operations.specs.Meanings.{int_meanings, same_operation}
use Rattle.model_sessions.specs.Steps.{Commit, EditBuffer, EditNode, HistoryEdit, made_by}
use Rattle.model_sessions.specs.Tables.{table_shapes}

-- ---- histories

abbrev pub node : List ℕ → Body IntOp → Node IntOp
node name body = record { name = name; body = body }

-- a node is set
abbrev pub set : List ℕ → Body IntOp → HistoryEdit IntOp
set name body = EditNode (Set (node name body))

-- from the origin on, so many positions of a row
abbrev pub row : ℕ → Rectangle
row width = placed (pos 0) (pos 0) width 1

-- a buffer of two positions of 10 under a node is committed, and then 20 in its first position
abbrev pub two_commits : List (HistoryEdit IntOp)
two_commits =
    EditBuffer (Create (codes "a") Y8 (row 2))
    ∷ EditBuffer (Fill (codes "a") (row 2) (10 ∷ []))
    ∷ set (codes "s") (Source (codes "a"))
    ∷ Commit
    ∷ EditBuffer (Fill (codes "a") (row 1) (20 ∷ []))
    ∷ Commit
    ∷ []

abbrev pub history : List (HistoryEdit IntOp) → History Table IntOp
history steps = made_by int_meanings steps

-- the rectangles that the committed states carry
abbrev pub carried : List (HistoryEdit IntOp) → List Rectangles
carried steps = map (λ (committed : Committed Table IntOp). committed.delta) (committed_states (history steps))

-- the numbers of nodes of the committed states
abbrev pub node_counts : List (HistoryEdit IntOp) → List ℕ
node_counts steps = map (λ (committed : Committed Table IntOp). length committed.state.nodes) (committed_states (history steps))

-- the rectangle of the one buffer
abbrev pub of_buffer : Rectangle → Rectangles
of_buffer rectangle = (codes "a", rectangle) ∷ []

-- what a commit after these steps gives
abbrev pub commit_after : List (HistoryEdit IntOp) → Result (History Table IntOp) StateRefused
commit_after steps = committed int_meanings table_shapes (history steps)

-- the color 5 over a row of so many positions
abbrev pub color : ℕ → Body IntOp
color width = Compute (Color Y8 (row width) (5 ∷ [])) []

abbrev pub of_color : IntOp → Body IntOp
of_color operation = Compute operation (codes "k" ∷ [])

-- ---- renders of a mean over a buffer of 128 by 128 pixels

abbrev pub mean_nodes : List (Node IntOp)
mean_nodes =
    node (codes "s") (Source (codes "a"))
    ∷ node (codes "b") (Compute (BoxMean 1 policies.None) (codes "s" ∷ []))
    ∷ []

-- nodes with their boxes and formats over buffers
abbrev pub over : Facts → List (Node IntOp) → List (NodeFact IntOp)
over buffers nodes = stated int_meanings (shapes_of_facts buffers) nodes

-- what a render of 128 by 128 pixels looks up
abbrev pub mean_pairs : List Pair
mean_pairs = needed_pairs mean_nodes (need int_meanings (over (square_buffer 128) mean_nodes) 1 (square 128))

-- list and counts after such a render
abbrev pub rendered : Counted Pair → Counted Pair
rendered counted = all_looked_up itself itself (Some 16384) counted mean_pairs

-- the list without what a written rectangle damages
abbrev pub voided_by : Rectangle → Counted Pair → Counted Pair
voided_by written counted =
    let change = samples_change int_meanings (square_buffer 128) mean_nodes (of_buffer written) in
    record counted { list = without_damaged itself (damage same_operation int_meanings change) counted.list }

-- two renders, a commit of a written rectangle, and a render
abbrev pub with_edit : Rectangle → Counted Pair
with_edit written = rendered (voided_by written (rendered (rendered (uncounted []))))

-- ---- a crop that changes under a mean

-- a buffer of a row, its part of so many positions, and the mean over that
abbrev pub crop_nodes : ℕ → List (Node IntOp)
crop_nodes width =
    node (codes "s") (Source (codes "a"))
    ∷ node (codes "c") (Compute (Crop (row width)) (codes "s" ∷ []))
    ∷ node (codes "b") (Compute (BoxMean 1 policies.Clamp) (codes "c" ∷ []))
    ∷ []

abbrev pub row_buffer : Facts
row_buffer = record { name = codes "a"; root = codes "a"; bounds = row 200; format = Y8 } ∷ []

-- list and counts after a render of 200 positions, where the part has so many
abbrev pub crop_rendered : ℕ → Counted Pair → Counted Pair
crop_rendered width counted =
    all_looked_up itself itself (Some 16384) counted
    (needed_pairs (crop_nodes width) (need int_meanings (over row_buffer (crop_nodes width)) 2 (row 200)))

-- the part of 200 positions becomes one of 100
abbrev pub crop_change : Change IntOp
crop_change =
    record {
      old = side_of int_meanings row_buffer (crop_nodes 200);
      new = side_of int_meanings row_buffer (crop_nodes 100);
      rectangles = [];
    }

-- a render, the change, and a render
abbrev pub crop_twice : Counted Pair
crop_twice =
    let first = crop_rendered 200 (uncounted []) in
    crop_rendered 100 (record first { list = without_damaged itself (damage same_operation int_meanings crop_change) first.list })

-- ---- a strip of many tiles

abbrev pub wide_need : List Strip
wide_need =
    let board = placed (pos 0) (pos 0) 4160 64 in
    need int_meanings (over [] (node (codes "c") (Compute (Checker Y8 board 8 0 255) []) ∷ [])) 0 board
