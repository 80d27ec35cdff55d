-- When a scene follows another: what its damages say of what changed between the two, and which cached pairs that leaves.
use Rattle.std.specs.Prelude.{◌≡◌, ℕ, suc, ◌+◌, ◌-◌, ◌<◌, ◌≤◌, nat_le, nat_lt, min, ◌⊎◌, Bool, true, IsTrue, if◌then◌else◌, List, [], length, map, filter, flat_map, slice_index_or, Some}
use Rattle.std.specs.List.{Contains, range_with_len}
use Rattle.std.specs.Str.{bytes_eq}
use Rattle.plane_rect.specs.Rectangle.{Rectangle, Inside}
use Rattle.model_images.specs.Image.{at}
use Rattle.model_graphs.specs.declared.node.Body.{Body}
use Rattle.model_graphs.specs.declared.node.Body.TheVariants.{Source, Compute}
use Rattle.model_graphs.specs.Node.{Node}
use Rattle.model_graphs.specs.Meanings.{Meanings}
use Rattle.model_states.specs.declared.damage.Damage.{Damage}
use Rattle.model_states.specs.Edits.{has_node}
use Rattle.model_states.specs.Cache.{Pair, all_voided}
use Rattle.model_states.specs.Rectangles.{Rectangles}
use Rattle.model_states.specs.State.{Scene, image_of, node_of}

-- a state as viewers see it: its number, its nodes over the images of its buffers, and the damages of the last commits
pub record ShownScene (Op : Type 0) : Type 0 where
  pub number : ℕ
  pub scene : Scene Op
  pub damages : List Damage

-- the rectangles that are listed for a name
abbrev pub listed : Rectangles → List ℕ → List Rectangle
listed rects name = map (λ (e : List ℕ × Rectangle). e.1) (filter (λ (e : List ℕ × Rectangle). bytes_eq name e.0) rects)

-- a rectangle that is listed for a name by a damage of a later number
pub record IsLater (number : ℕ) (damages : List Damage) (name : List ℕ) (r : Rectangle) : Type 0 where
  pub damage : Damage
  pub there : Contains damages damage
  pub later : number < damage.number
  pub is_listed : Contains (listed damage.rects name) r

-- a position is in one of them
pub record LiesLater (number : ℕ) (damages : List Damage) (name : List ℕ) (u v : ℕ) : Type 0 where
  pub rect : Rectangle
  pub is_later : IsLater number damages name rect
  pub inside : Inside u v rect

-- how many commits a scene tells of
abbrev pub most_damages : ℕ
most_damages = 64

-- the damages of the last commits up to this number, one each
abbrev pub AreLast : ℕ → List Damage → Type 0
AreLast number damages =
    map (λ (d : Damage). d.number) damages ≡ range_with_len (suc number - min number most_damages) (min number most_damages)

abbrev pub is_source : {Op : Type 0} → Body Op → Bool
is_source (Source buffer) = true
is_source (Compute operation inputs) = Bool.false

-- A node of both scenes: a source in both or in neither, of one box and one format. Where the evaluations are known, they
-- agree outside the later rectangles.
pub record IsKept {Op : Type 0} (meanings : Meanings Op) (known : Bool) (old new : ShownScene Op) (name : List ℕ) : Type 0 where
  pub before : Node Op
  pub after : Node Op
  pub there_before : node_of old.scene.nodes name ≡ Some before
  pub there_after : node_of new.scene.nodes name ≡ Some after
  pub kind : is_source before.body ≡ is_source after.body
  pub box : (image_of meanings old.scene name).box ≡ (image_of meanings new.scene name).box
  pub format : (image_of meanings old.scene name).format ≡ (image_of meanings new.scene name).format
  pub samples : IsTrue known → (u v c : ℕ) → ¬ LiesLater old.number new.damages name u v
      → at (image_of meanings old.scene name) u v c ≡ at (image_of meanings new.scene name) u v c

-- each position of the node's box, where the scene has the node, is in a later rectangle
abbrev pub IsCovered : {Op : Type 0} → Meanings Op → Scene Op → ℕ → List Damage → List ℕ → Type 0
IsCovered meanings scene number damages name =
    IsTrue (has_node scene.nodes name) → (u v : ℕ) → Inside u v (image_of meanings scene name).box → LiesLater number damages name u v

-- A scene of a later number follows another: its damages are those of the last commits, one each, of which those up to the
-- other's number are the other's. Where no more commits lie between than it tells of, each name is of a node that is kept, or
-- all that either scene has of it lies in later rectangles. `known` says whether it is known that evaluations agree.
pub record Follows {Op : Type 0} (meanings : Meanings Op) (known : Bool) (old new : ShownScene Op) : Type 0 where
  pub later : old.number < new.number
  pub last : AreLast new.number new.damages
  pub same : (d : Damage) → Contains new.damages d → d.number ≤ old.number → Contains old.damages d
  pub cases : new.number ≤ old.number + most_damages → (name : List ℕ) →
      IsKept meanings known old new name
      ⊎ (IsCovered meanings old.scene old.number new.damages name × IsCovered meanings new.scene old.number new.damages name)

-- each item but the first is related to the one before it
abbrev pub IsChain : {S : Type 0} → (S → S → Type 0) → List S → Type 0
IsChain {S} related scenes = (k : ℕ) (d : S) → suc k < length scenes → related (slice_index_or scenes k d) (slice_index_or scenes (suc k) d)

-- all entries of the damages of later numbers
abbrev pub entries_after : ℕ → List Damage → Rectangles
entries_after number damages = flat_map (λ (d : Damage). d.rects) (filter (λ (d : Damage). nat_lt number d.number) damages)

-- What is left of a list at a scene of a later number with these damages: nothing where more commits lie between than it tells
-- of, and else what no later rectangle meets.
abbrev pub left_at : {X : Type 0} → (X → Pair) → ℕ → ℕ → List Damage → List X → List X
left_at key old new damages list =
    if nat_le new (old + most_damages) then all_voided key list (entries_after old damages) else []
