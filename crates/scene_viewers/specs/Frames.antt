-- Frames of scenes, and why a viewer renders none.
use Rattle.std.specs.Prelude.{◌≡◌, ℕ, false, true, ⊤, List, None, take}
use Rattle.plane_rect.specs.Rectangle.{Rectangle}
use Rattle.pixel_formats.specs.declared.format.Format.{Format}
use Rattle.model_images.specs.Image.{Image}
use Rattle.model_images.specs.Paint.{cut}
use Rattle.model_graphs.specs.Facts.{specs_of}
use Rattle.model_graphs.specs.Meanings.{Meanings}
use Rattle.model_graphs.specs.Node.{index_of}
use Rattle.model_graphs.specs.Permits.{Spent}
use Rattle.model_states.specs.Cache.{Counted, Pair, all_looked_up, itself, uncounted}
use Rattle.model_states.specs.Edits.{has_node}
use Rattle.model_states.specs.State.{image_of}
use Rattle.node_tiles.specs.Stated.{shape_at}
use Rattle.render_workers.specs.Requests.{pairs_requested, request}
use Rattle.render_workers.specs.Scenes.{SceneOf}
use Rattle.render_workers.specs.declared.refused.RenderRefused.{RenderRefused}
use Rattle.render_workers.specs.declared.refused.RenderRefused.TheVariants as renders
use Rattle.scene_viewers.specs.declared.refused.ViewRefused.{ViewRefused}
use Rattle.scene_viewers.specs.declared.refused.ViewRefused.TheVariants.{NoEntry, NoMemory, Rect, UnknownNode}
use Rattle.scene_viewers.specs.HubScenes.{state_of}

-- the patch of a frame of a scene
abbrev pub frame_of : {Op : Type 0} → Meanings Op → SceneOf Op → List ℕ → Rectangle → Image
frame_of meanings scene node rect = cut (image_of meanings (state_of scene) node) rect

-- the cached pairs and both counts after a frame, by the pairs before it: nothing falls off
abbrev pub counted_for : {Op : Type 0} → Meanings Op → SceneOf Op → List ℕ → Rectangle → List Pair → Counted Pair
counted_for meanings scene node rect pairs =
    all_looked_up itself itself None (uncounted pairs) (pairs_requested meanings scene.nodes (request node 0 rect))

-- The patch is of the rectangle, in the format of the scene's node.
pub record HasShape {Op : Type 0} (scene : SceneOf Op) (node : List ℕ) (rect : Rectangle) (patch : Image) : Type 0 where
  pub box : patch.box ≡ rect
  pub format : patch.format ≡ (shape_at scene.nodes (index_of (specs_of scene.nodes) node)).format

-- A frame has the number of a scene that has the node, and its patch is of the rectangle, in the node's format.
pub record IsFrameOf {Op : Type 0} (scene : SceneOf Op) (node : List ℕ) (rect : Rectangle) (number : ℕ) (patch : Image) : Type 0 where
  pub number_is : number ≡ scene.number
  pub there : has_node (specs_of scene.nodes) node ≡ true
  pub shape : HasShape scene node rect patch

-- A scene has this number, and no node of the name.
pub record LacksNode {Op : Type 0} (scene : SceneOf Op) (node : List ℕ) (number : ℕ) : Type 0 where
  pub number_is : number ≡ scene.number
  pub lacks : has_node (specs_of scene.nodes) node ≡ false

-- a fact of the number where the node is unknown
abbrev pub IfUnknown : (ℕ → Type 0) → ViewRefused → Type 0
IfUnknown P Rect = ⊤
IfUnknown P NoEntry = ⊤
IfUnknown P (UnknownNode number) = P number
IfUnknown P NoMemory = ⊤

-- a fact where nothing was entered
abbrev pub IfOutside : Type 0 → ViewRefused → Type 0
IfOutside P Rect = P
IfOutside P NoEntry = P
IfOutside P (UnknownNode number) = ⊤
IfOutside P NoMemory = ⊤

-- a fact where the rectangle is refused
abbrev pub IfRect : Type 0 → ViewRefused → Type 0
IfRect P Rect = P
IfRect P NoEntry = ⊤
IfRect P (UnknownNode number) = ⊤
IfRect P NoMemory = ⊤

-- why a viewer does not enter
abbrev pub IsNotEntered : ViewRefused → Type 0
IsNotEntered Rect = ⊥
IsNotEntered NoEntry = ⊤
IsNotEntered (UnknownNode number) = ⊥
IsNotEntered NoMemory = ⊤

-- why it renders no frame of the scene that it entered
abbrev pub IsAfterEntering : ViewRefused → Type 0
IsAfterEntering Rect = ⊥
IsAfterEntering NoEntry = ⊥
IsAfterEntering (UnknownNode number) = ⊤
IsAfterEntering NoMemory = ⊤

-- What a frame of a scene leaves of these cached pairs: those that it needs are looked up, and of all of them the most recent
-- stay. A permit is spent for each that was evaluated.
pub record Draws {Op : Type 0} (meanings : Meanings Op) (node : List ℕ) (rect : Rectangle) (scene : SceneOf Op) (before after : List Pair) (capacity permits permits' : ℕ) : Type 0 where
  pub pairs : after ≡ take capacity (counted_for meanings scene node rect before).list
  pub spent : Spent permits permits' (counted_for meanings scene node rect before).applied

abbrev pub unknown_node : RenderRefused
unknown_node = renders.UnknownNode
