-- The operation of a node: by itself, or through a mask that mixes what it gives with its first input.
pub data Filter (Op : Type 0) : Type 0 where
  Plain : Op → Filter Op
  Through : Op → Filter Op
