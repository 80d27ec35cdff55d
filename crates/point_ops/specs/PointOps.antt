-- The operations whose pixels are each of one pixel of every input.
use Rattle.model_operations.specs.declared.operation.IntOp.{IntOp}
use Rattle.model_operations.specs.declared.operation.IntOp.TheVariants.{Color, Checker, Convert, Invert, Threshold, Gain, Translate, Crop, Flip, BoxMean, Dilate, Erode, Add, Over, Mask}

-- all but the operations on areas
abbrev pub IsPointOp : IntOp → Type 0
IsPointOp (Color format rect samples) = Unit {0}
IsPointOp (Checker format rect size v1 v2) = Unit {0}
IsPointOp (Convert format) = Unit {0}
IsPointOp Invert = Unit {0}
IsPointOp (Threshold at) = Unit {0}
IsPointOp (Gain num den) = Unit {0}
IsPointOp (Translate dx dy) = Unit {0}
IsPointOp (Crop rect) = Unit {0}
IsPointOp (Flip sideways) = Unit {0}
IsPointOp (BoxMean radius abyss) = ⊥
IsPointOp (Dilate radius abyss) = ⊥
IsPointOp (Erode radius abyss) = ⊥
IsPointOp Add = Unit {0}
IsPointOp Over = Unit {0}
IsPointOp Mask = Unit {0}
