-- The bytes of extents on a disk, after some blocks were written or read.
use Rattle.std.proofs.Common.{◌≡◌, ℕ, suc, zero, ◌+◌, ◌*◌, ◌<◌, ◌≤◌, List, [], ◌∷◌, ◌++◌, length, take, drop, Option, Some, None, Ok, Err, Result, IfSome, OnOk, is_ok, true≢false, ◌⊎◌, inl, inr, refl, sym, ap, subst, ◌∙◌, arith, take-append-drop}
use Rattle.std.proofs.Math.ListN.{set}
use Rattle.std.specs.Option.{option_map}
use Rattle.std.specs.List.{concat, slice_get}
use Rattle.std.proofs.lemmas.List.{drop-take, length-drop, length-take-le}
use Rattle.outside_io.specs.Swap.{Blocks, UnchangedOutside, WritesBlock, bytes_of_blocks}
use Rattle.outside_io.specs.declared.swap.SwapAnswer.{SwapAnswer}
use Rattle.chain_owners.specs.declared.swap_refused.SwapRefused.{SwapRefused}
use Rattle.outside_io.proofs.BlockRanges.{take_shorter, drop_further, bytes-more}
use Rattle.swap_store.specs.Content.{BeginsAt}

pub exposed_weaker : (exposed : Option Blocks) (P Q : Blocks → Type 0) → ((blocks : Blocks) → P blocks → Q blocks) → IfSome exposed P → IfSome exposed Q
exposed_weaker None P Q weaker p = tt
exposed_weaker (Some blocks) P Q weaker p = weaker blocks p

slice_get-set : (xs : Blocks) (n : ℕ) (x : List ℕ) → n < length xs → slice_get (set xs n x) n ≡ Some x
slice_get-set [] n x lt = absurd (omega arith)
slice_get-set (y ∷ ys) zero x lt = refl
slice_get-set (y ∷ ys) (suc n) x lt = slice_get-set ys n x (omega arith)

-- the written block begins with the bytes
pub begins-written : (old new : Option Blocks) (n total : ℕ) (bytes block : List ℕ)
    → new ≡ option_map (λ blocks. set blocks n block) old
    → IfSome old (λ blocks. length blocks ≡ total) → n < total → take (length bytes) block ≡ bytes
    → IfSome new (BeginsAt n bytes)
begins-written None new n total bytes block is all lt begins =
    let P : Option Blocks → Type 0 = λ exposed. IfSome exposed (BeginsAt n bytes) in subst P (sym is) tt
begins-written (Some old) new n total bytes block is all lt begins =
    let P : Option Blocks → Type 0 = λ exposed. IfSome exposed (BeginsAt n bytes) in
    let there : slice_get (set old n block) n ≡ Some block = slice_get-set old n block (omega (arith, all)) in
    subst P (sym is) (record { block = block; there = there; begins = begins })

-- the same of a write that was answered so, and whose answer was taken for a store's
pub begins-answered : (old new : Option Blocks) (n total : ℕ) (bytes block : List ℕ)
    (answer : Result (Unit {0}) SwapAnswer) (result : Result (Unit {0}) SwapRefused)
    → is_ok result ≡ is_ok answer → WritesBlock old n block answer new
    → IfSome old (λ blocks. length blocks ≡ total) → n < total → take (length bytes) block ≡ bytes
    → OnOk result (IfSome new (BeginsAt n bytes))
begins-answered old new n total bytes block answer (Err refused) same is all lt begins = tt
begins-answered old new n total bytes block (Ok done) (Ok value) same is all lt begins =
    begins-written old new n total bytes block is all lt begins
begins-answered old new n total bytes block (Err _) (Ok value) same is all lt begins = absurd (true≢false same)

-- ---- an extent that is written

-- where other blocks were written, the bytes of these are unchanged
pub bytes-unchanged_outside : (old new : Blocks) (first count n k : ℕ) → UnchangedOutside n k (Some old) (Some new)
    → (first + count ≤ n) ⊎ (n + k ≤ first) → bytes_of_blocks new first count ≡ bytes_of_blocks old first count
bytes-unchanged_outside old new first count n k s (inl before) =
    let same = take_shorter (first + count) n new old before s.0 in
    ap concat (sym (drop-take first count new) ∙ ap (drop first) same ∙ drop-take first count old)
bytes-unchanged_outside old new first count n k s (inr following) =
    ap (λ ys. concat (take count ys)) (drop_further (n + k) first new old following s.1)

-- the bytes of a tile are those of its whole blocks, and of the block that begins with the rest
pub extent_written : (old new : Option Blocks) (first whole len : ℕ) (bytes : List ℕ) → length bytes ≡ len → len < 4096 * whole + 4096 → 4096 * whole < len
    → UnchangedOutside (first + whole) 1 old new
    → IfSome old (λ blocks. bytes_of_blocks blocks first whole ≡ take (4096 * whole) bytes)
    → IfSome new (BeginsAt (first + whole) (drop (4096 * whole) bytes))
    → IfSome new (λ blocks. take len (bytes_of_blocks blocks first (whole + 1)) ≡ bytes)
extent_written None None first whole len bytes size short some s prefix last = tt
extent_written None (Some new) first whole len bytes size short some s prefix last = absurd s
extent_written (Some old) None first whole len bytes size short some s prefix last = tt
extent_written (Some old) (Some new) first whole len bytes size short some s prefix last =
    let rest = drop (4096 * whole) bytes in
    let start = take (4096 * whole) bytes in
    let prefix' : bytes_of_blocks new first whole ≡ start = bytes-unchanged_outside old new first whole (first + whole) 1 s (inl (omega arith)) ∙ prefix in
    let sizes : length start + length rest ≡ len = omega (arith, length-take-le (4096 * whole) bytes (omega arith), length-drop (4096 * whole) bytes) in
    let start-size : length start ≡ 4096 * whole = length-take-le (4096 * whole) bytes (omega arith) in
    ap (take len) (bytes-more new first whole last.block last.there ∙ ap (λ ys. ys ++ last.block) prefix')
    ∙ prefix_and_rest start last.block rest len sizes last.begins
    ∙ take-append-drop (4096 * whole) bytes
  where
    prefix_and_rest : (start block rest : List ℕ) (len : ℕ) → length start + length rest ≡ len → take (length rest) block ≡ rest
        → take len (start ++ block) ≡ start ++ rest
    prefix_and_rest [] block rest len sizes begins = let e : len ≡ length rest = omega arith in rw e begins
    prefix_and_rest (x ∷ xs) block rest len sizes begins =
        let e : len ≡ suc (length xs + length rest) = omega arith in
        rw e (ap (λ ys. x ∷ ys) (prefix_and_rest xs block rest (length xs + length rest) refl begins))

pub OnOk-weaker : {X E : Type 0} (r : Result X E) (P Q : Type 0) → (P → Q) → OnOk r P → OnOk r Q
OnOk-weaker (Ok x) P Q weaker p = weaker p
OnOk-weaker (Err e) P Q weaker p = tt
