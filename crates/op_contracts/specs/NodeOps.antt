-- The operations of nodes.
use Rattle.std.specs.Prelude.{Option, Some, None}
use Rattle.model_graphs.specs.Filter.{Filter, Plain, Through}

-- an operation by itself, or through a mask where there is one
abbrev pub filter_of : {Op Mask : Type 0} → Op → Option Mask → Filter Op
filter_of operation None = Plain operation
filter_of operation (Some mask) = Through operation
