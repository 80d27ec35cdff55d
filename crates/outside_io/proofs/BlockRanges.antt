-- Neighboring blocks of a disk, after some were read or written.
use Rattle.std.proofs.Common.{◌≡◌, ℕ, suc, zero, ◌+◌, ◌-◌, ◌*◌, ◌<◌, ◌≤◌, List, [], ◌∷◌, ◌++◌, length, take, drop, Option, Some, None, Ok, Err, Result, IfSome, refl, sym, ap, subst, ◌∙◌, arith, get_or, take-append-drop}
use Rattle.std.proofs.Math.ListN.{set}
use Rattle.std.specs.Option.{option_map}
use Rattle.std.specs.List.{concat, slice_get}
use Rattle.std.proofs.lemmas.List.{take-set-le, drop-set-lt, take-take, drop-drop, drop-take, drop-set-add, take_more_set, length-drop, append-nil, take_more}
use Rattle.std.proofs.lemmas.Option.{slice_get_within, get_or_from_slice_get}
use Rattle.std.proofs.lemmas.List.Folds.{concat-append}
use Rattle.outside_io.specs.Swap.{Blocks, UnchangedOutside, WritesBlock, bytes_of_blocks}
use Rattle.outside_io.specs.declared.swap.SwapAnswer.{SwapAnswer}

-- ---- blocks that are unchanged

pub unchanged-same : (first count : ℕ) (exposed : Option Blocks) → UnchangedOutside first count exposed exposed
unchanged-same first count None = tt
unchanged-same first count (Some blocks) = (refl, refl)

pub unchanged-trans : (first count : ℕ) (a b c : Option Blocks) → UnchangedOutside first count a b → UnchangedOutside first count b c → UnchangedOutside first count a c
unchanged-trans first count None None c s t = t
unchanged-trans first count None (Some b) c s t = absurd s
unchanged-trans first count (Some a) None c s t = absurd s
unchanged-trans first count (Some a) (Some b) None s t = t
unchanged-trans first count (Some a) (Some b) (Some c) s t = (t.0 ∙ s.0, t.1 ∙ s.1)

pub take_shorter : (n m : ℕ) (a b : Blocks) → n ≤ m → take m a ≡ take m b → take n a ≡ take n b
take_shorter n m a b le is = sym (take-take n m a le) ∙ ap (take n) is ∙ take-take n m b le

pub drop_further : (n m : ℕ) (a b : Blocks) → n ≤ m → drop n a ≡ drop n b → drop m a ≡ drop m b
drop_further n m a b le is =
    let e : n + (m - n) ≡ m = omega arith in
    let P : ℕ → Type 0 = λ k. drop k a ≡ drop k b in
    subst P e (sym (drop-drop (m - n) n a) ∙ ap (drop (m - n)) is ∙ drop-drop (m - n) n b)

pub unchanged-wider : (first count first' count' : ℕ) (a b : Option Blocks) → first' ≤ first → first + count ≤ first' + count'
    → UnchangedOutside first count a b → UnchangedOutside first' count' a b
unchanged-wider first count first' count' None None low high s = tt
unchanged-wider first count first' count' None (Some b) low high s = s
unchanged-wider first count first' count' (Some a) None low high s = s
unchanged-wider first count first' count' (Some a) (Some b) low high s =
    (take_shorter first' first b a low s.0, drop_further (first + count) (first' + count') b a high s.1)

pub unchanged-set : (n : ℕ) (left : List ℕ) (exposed : Option Blocks) → UnchangedOutside n 1 exposed (option_map (λ blocks. set blocks n left) exposed)
unchanged-set n left None = tt
unchanged-set n left (Some blocks) = (take-set-le n blocks n left (omega arith), drop-set-lt (n + 1) blocks n left (omega arith))

pub unchanged-refused : (old new : Option Blocks) (n : ℕ)
    → (left : List ℕ) × (length left ≡ 4096) × (new ≡ option_map (λ blocks. set blocks n left) old) → UnchangedOutside n 1 old new
unchanged-refused old new n w =
    let P : Option Blocks → Type 0 = λ exposed. UnchangedOutside n 1 old exposed in subst P (sym w.2) (unchanged-set n w.0 old)

pub unchanged-written : (old new : Option Blocks) (n : ℕ) (bytes : List ℕ) (result : Result (Unit {0}) SwapAnswer)
    → WritesBlock old n bytes result new → UnchangedOutside n 1 old new
unchanged-written old new n bytes (Ok done) w =
    let P : Option Blocks → Type 0 = λ exposed. UnchangedOutside n 1 old exposed in subst P (sym w) (unchanged-set n bytes old)
unchanged-written old new n bytes (Err e) w = unchanged-refused old new n w

-- ---- the bytes of blocks, one block after another

pub bytes-more_set : (blocks : Blocks) (first k : ℕ) (part : List ℕ) → first + k < length blocks
    → bytes_of_blocks (set blocks (first + k) part) first (k + 1) ≡ bytes_of_blocks blocks first k ++ part
bytes-more_set blocks first k part lt =
    let within : k < length (drop first blocks) = omega (arith, length-drop first blocks) in
    ap (λ ys. concat (take (k + 1) ys)) (drop-set-add first blocks k part)
    ∙ ap concat (take_more_set (drop first blocks) k part within)
    ∙ concat-append (take k (drop first blocks)) (part ∷ [])
    ∙ ap (λ ys. bytes_of_blocks blocks first k ++ ys) (append-nil part)

-- the prefix that a write leaves is one block longer
pub written-more : (old new : Option Blocks) (first k total : ℕ) (part before after : List ℕ)
    → new ≡ option_map (λ blocks. set blocks (first + k) part) old
    → IfSome old (λ blocks. length blocks ≡ total) → first + k < total
    → before ++ part ≡ after
    → IfSome old (λ blocks. bytes_of_blocks blocks first k ≡ before)
    → IfSome new (λ blocks. bytes_of_blocks blocks first (k + 1) ≡ after)
written-more None new first k total part before after is all lt joins prefix =
    let P : Option Blocks → Type 0 = λ exposed. IfSome exposed (λ blocks. bytes_of_blocks blocks first (k + 1) ≡ after) in subst P (sym is) tt
written-more (Some old) new first k total part before after is all lt joins prefix =
    let P : Option Blocks → Type 0 = λ exposed. IfSome exposed (λ blocks. bytes_of_blocks blocks first (k + 1) ≡ after) in
    subst P (sym is)
    (bytes-more_set old first k part (omega (arith, all)) ∙ ap (λ ys. ys ++ part) prefix ∙ joins)

pub exposed_always : (exposed : Option Blocks) (P : Blocks → Type 0) → ((blocks : Blocks) → P blocks) → IfSome exposed P
exposed_always None P all = tt
exposed_always (Some blocks) P all = all blocks

-- a prefix of bytes and the bytes after it are a longer prefix
pub take-joins : (n m : ℕ) (xs : List ℕ) → take n xs ++ take m (drop n xs) ≡ take (n + m) xs
take-joins n m xs =
    ap (λ ys. ys ++ take m (drop n xs)) (sym (take-take n (n + m) xs (omega arith)))
    ∙ ap (λ ys. take n (take (n + m) xs) ++ ys) (sym (drop-take n m xs))
    ∙ take-append-drop n (take (n + m) xs)

pub next_part : (k at end : ℕ) (xs : List ℕ) → at ≡ 4096 * k → end ≡ at + 4096
    → take (4096 * k) xs ++ take (end - at) (drop at xs) ≡ take (4096 * (k + 1)) xs
next_part k at end xs here there =
    let size : end - at ≡ 4096 = omega arith in
    let sum : 4096 * (k + 1) ≡ 4096 * k + 4096 = omega arith in
    rw (size, here, sum) (take-joins (4096 * k) 4096 xs)

slice_get-drop : (xs : Blocks) (n k : ℕ) → slice_get (drop n xs) k ≡ slice_get xs (n + k)
slice_get-drop xs zero k = let e : 0 + k ≡ k = omega arith in rw e refl
slice_get-drop [] (suc n) k = refl
slice_get-drop (x ∷ xs) (suc n) k = let e : suc n + k ≡ suc (n + k) = omega arith in rw e (slice_get-drop xs n k)

-- the bytes with those of the block that comes next
pub bytes-more : (blocks : Blocks) (first k : ℕ) (block : List ℕ) → slice_get blocks (first + k) ≡ Some block
    → bytes_of_blocks blocks first (k + 1) ≡ bytes_of_blocks blocks first k ++ block
bytes-more blocks first k block there =
    let here : slice_get (drop first blocks) k ≡ Some block = slice_get-drop blocks first k ∙ there in
    let within : k < length (drop first blocks) = slice_get_within (drop first blocks) k block here in
    let read : get_or (drop first blocks) k [] ≡ block = get_or_from_slice_get (drop first blocks) k block [] here in
    ap concat (take_more (drop first blocks) k [] within ∙ ap (λ b. take k (drop first blocks) ++ b ∷ []) read)
    ∙ concat-append (take k (drop first blocks)) (block ∷ [])
    ∙ ap (λ ys. bytes_of_blocks blocks first k ++ ys) (append-nil block)

-- what was read is one block longer
pub read-more : (exposed : Option Blocks) (first k at end : ℕ) (into into' part : List ℕ) → take end into' ≡ take at into ++ part
    → IfSome exposed (λ blocks. slice_get blocks (first + k) ≡ Some part)
    → IfSome exposed (λ blocks. take at into ≡ bytes_of_blocks blocks first k)
    → IfSome exposed (λ blocks. take end into' ≡ bytes_of_blocks blocks first (k + 1))
read-more None first k at end into into' part joins there prefix = tt
read-more (Some blocks) first k at end into into' part joins there prefix =
    joins ∙ ap (λ ys. ys ++ part) prefix ∙ sym (bytes-more blocks first k part there)
