-- The evaluation of a graph by whole images: one image after another, in the order of the list.
use Rattle.std.specs.Prelude.{ℕ, List, [], ◌∷◌, ◌++◌, map, unwrap_or, slice_index_or}
use Rattle.std.specs.Str.{bytes_eq}
use Rattle.std.specs.Map.{lookup}
use Rattle.model_images.specs.Image.{Image}
use Rattle.model_images.specs.Paint.{no_image}
use Rattle.model_graphs.specs.Node.{Node, Step, FromBuffer, Apply, index_of, step_of}

-- the images of buffers, by their names
abbrev pub Buffers : Type 0
Buffers = List (List ℕ × Image)

abbrev pub buffer_image : Buffers → List ℕ → Image
buffer_image buffers name = unwrap_or (lookup (bytes_eq name) buffers) no_image

-- the image of a step, where those of the steps before it are known
abbrev pub step_image : {Op : Type 0} → (Op → List Image → Image) → Buffers → List Image → Step Op → Image
step_image result buffers before (FromBuffer buffer) = buffer_image buffers buffer
step_image result buffers before (Apply operation inputs) = result operation (map (λ i. slice_index_or before i no_image) inputs)

-- the images of all steps, after those that are known
abbrev pub images_after : {Op : Type 0} → (Op → List Image → Image) → Buffers → List Image → List (Step Op) → List Image
images_after result buffers before [] = before
images_after result buffers before (step ∷ steps) =
    images_after result buffers (before ++ step_image result buffers before step ∷ []) steps

-- the image of the node of a name
abbrev pub evaluated : {Op : Type 0} → (Op → List Image → Image) → Buffers → List (Node Op) → List ℕ → Image
evaluated {Op} result buffers nodes name =
    slice_index_or (images_after result buffers [] (map (λ (node : Node Op). step_of nodes node.body) nodes)) (index_of nodes name) no_image
