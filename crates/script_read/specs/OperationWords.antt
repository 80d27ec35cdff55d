-- The words of operations, the third of a node.
use Rattle.std.specs.Prelude.{ℕ, List, [], ◌∷◌, Option, codes, find}
use Rattle.std.specs.Str.{bytes_eq}
use Rattle.script_read.specs.declared.operation_word.OperationWord.{OperationWord}
use Rattle.script_read.specs.declared.operation_word.OperationWord.TheVariants.{Source, Color, Checker, Convert, Invert, Threshold, Gain, Translate, Crop, Flip, BoxMean, Dilate, Erode, Add, Over, Mask}

-- the word of an operation
abbrev pub operation_word : OperationWord → List ℕ
operation_word Source = codes "source"
operation_word Color = codes "color"
operation_word Checker = codes "checker"
operation_word Convert = codes "convert"
operation_word Invert = codes "invert"
operation_word Threshold = codes "threshold"
operation_word Gain = codes "gain"
operation_word Translate = codes "translate"
operation_word Crop = codes "crop"
operation_word Flip = codes "flip"
operation_word BoxMean = codes "box"
operation_word Dilate = codes "dilate"
operation_word Erode = codes "erode"
operation_word Add = codes "add"
operation_word Over = codes "over"
operation_word Mask = codes "mask"

-- all of them
abbrev pub operations : List OperationWord
operations = Source ∷ Color ∷ Checker ∷ Convert ∷ Invert ∷ Threshold ∷ Gain ∷ Translate ∷ Crop ∷ Flip ∷ BoxMean ∷ Dilate ∷ Erode ∷ Add ∷ Over ∷ Mask ∷ []

-- the operation of a word
unfoldable pub operation_of : List ℕ → Option OperationWord
operation_of word = find (λ operation. bytes_eq (operation_word operation) word) operations
