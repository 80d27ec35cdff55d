-- Committed states with the images of their sources.
use Rattle.std.specs.Prelude.{ℕ, List, map}
use Rattle.std.specs.List.{IsDistinct}
use Rattle.std.specs.Str.{bytes_eq}
use Rattle.frozen_images.specs.Scenes.{NamedTiles, facts_in}
use Rattle.model_graphs.specs.Facts.{Facts, shapes_of_facts}
use Rattle.model_graphs.specs.declared.buffer.BufferFact.{BufferFact}
use Rattle.model_graphs.specs.declared.node.NodeFact.{NodeFact}
use Rattle.model_graphs.specs.Meanings.{Meanings}
use Rattle.model_states.specs.declared.damage.Damage.{Damage}
use Rattle.model_states.specs.Valid.{AreStated}

-- the number of a committed state, its nodes, buffers whose images are frozen, and the damages of the last commits
pub record SceneOf (Op : Type 0) : Type 0 where
  pub number : ℕ
  pub nodes : List (NodeFact Op)
  pub buffers : List NamedTiles
  pub damages : List Damage

-- the names of buffers
abbrev pub names_in : List NamedTiles → List (List ℕ)
names_in buffers = map (λ (fact : BufferFact). fact.name) (facts_in buffers)

-- No two buffers have one name, and the nodes are valid over them, with the boxes and formats that are stated.
pub record IsScene {Op : Type 0} (meanings : Meanings Op) (scene : SceneOf Op) : Type 0 where
  pub distinct : IsDistinct bytes_eq (names_in scene.buffers)
  pub stated : AreStated meanings (shapes_of_facts (facts_in scene.buffers)) scene.nodes
