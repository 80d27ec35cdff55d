-- What a swap disk of blocks answers, and what it holds then.
use Rattle.std.specs.Prelude.{◌≡◌, ℕ, ◌+◌, Bool, true, false, List, length, take, drop, Option, Result, Ok, Err, ⊤, slice_set, slice_get, Some, None}
use Rattle.std.specs.List.{concat}
use Rattle.std.specs.Option.{option_map}
use Rattle.outside_io.specs.declared.swap.SwapAnswer.{SwapAnswer}
use Rattle.outside_io.specs.declared.swap.SwapAnswer.TheVariants as answers

-- the blocks of a disk by their numbers, each a list of 4,096 bytes
abbrev pub Blocks : Type 0
Blocks = List (List ℕ)

-- the bytes of so many blocks from `first` on, one block after another
abbrev pub bytes_of_blocks : Blocks → ℕ → ℕ → List ℕ
bytes_of_blocks blocks first count = concat (take count (drop first blocks))

-- the known blocks are the same but for `count` of them from `first` on
abbrev pub UnchangedOutside : ℕ → ℕ → Option Blocks → Option Blocks → Type 0
UnchangedOutside first count None None = ⊤
UnchangedOutside first count None (Some new) = ⊥
UnchangedOutside first count (Some old) None = ⊥
UnchangedOutside first count (Some old) (Some new) =
    (take first new ≡ take first old) × (drop (first + count) new ≡ drop (first + count) old)

-- whether the answer is that the device failed
abbrev pub has_failed : Result (Unit {0}) SwapAnswer → Bool
has_failed (Ok done) = false
has_failed (Err answers.Failed) = true
has_failed (Err answers.NoMemory) = false

-- At Ok the slice has the block's bytes, and after a refusal any bytes.
abbrev pub ReadsBlock : Blocks → ℕ → Result (Unit {0}) SwapAnswer → List ℕ → Type 0
ReadsBlock blocks n (Ok done) into = slice_get blocks n ≡ Some into
ReadsBlock blocks n (Err answer) into = ⊤

-- The blocks that a write leaves: this one written after Ok, or unknown after a refusal. All others are unchanged.
abbrev pub WritesBlock : Option Blocks → ℕ → List ℕ → Result (Unit {0}) SwapAnswer → Option Blocks → Type 0
WritesBlock old n bytes (Ok done) new = new ≡ option_map (λ blocks. slice_set blocks n bytes) old
WritesBlock old n bytes (Err answer) new =
    (left : List ℕ) × (length left ≡ 4096) × (new ≡ option_map (λ blocks. slice_set blocks n left) old)
