-- Which row of a box a row reads under a policy.
use Rattle.std.proofs.Common.{◌≡◌, ℕ, zero, suc, ◌+◌, ◌-◌, ◌*◌, ◌%◌, ◌<◌, ◌≤◌, List, max, replicate, take, get_or, ◌⊎◌, inl, inr, refl, sym, ap, ◌∙◌, subst, arith, rules, length-take}
use Rattle.std.proofs.Math.Nat.{mod-add-mod, add-mod-mod, add-mod_left, mod-eq_of_lt}
use Rattle.std.proofs.lemmas.Bool.{cases_lt}
use Rattle.std.proofs.lemmas.List.{get_or-replicate, get_or-take, get_or_past}
use Rattle.plane_rect.specs.Rectangle.{Rectangle, Inside, Within}
use Rattle.pixel_formats.specs.Format.{channels, depth, max_sample, max_sample_of, pixel_bytes}
use Rattle.pixel_formats.specs.Row.{pixel_at, sample_at}
use Rattle.pixel_formats.specs.declared.format.Format.{Format}
use Rattle.model_images.specs.Image.{Image, at}
use Rattle.pixel_formats.specs.declared.abyss.Abyss.{Abyss}
use Rattle.pixel_formats.specs.declared.abyss.Abyss.TheVariants.{None, Clamp, Loop, Black, White}
use Rattle.model_images.specs.Abyss.{abyss_at, nearest, wrapped}
use Rattle.model_images.proofs.PolicyLaws.{abyss_at-outside, clamp-everywhere, loop-everywhere, moved_sample, none-empty, clamp-empty, loop-empty, black-empty, white-empty}
use Rattle.model_images.proofs.Sides.{nearest-within, nearest-inside, wrapped-within, wrapped-inside}
use Rattle.patch_abyss.specs.Fetched.{outside_sample}
use Rattle.patch_abyss.specs.Rows.{ReadsNothing, EqualRows, ReadsInOrder, OnOneSide}
use Rattle.pixel_formats.proofs.FormatLaws.{by_depth, few_bytes, sample_fits}
use Rattle.pixel_formats.proofs.Zeros.{get_or-zeros}
use Rattle.model_images.proofs.FromRawLaws.{sample_zero}

-- an image without a position
outside-empty : (image : Image) (policy : Abyss) (u v c : ℕ) → ((u v : ℕ) → Inside u v image.box → ⊥) → abyss_at image policy u v c ≡ outside_sample policy image.format c
outside-empty image None u v c nowhere = none-empty image nowhere u v c
outside-empty image Clamp u v c nowhere = clamp-empty image nowhere u v c
outside-empty image Loop u v c nowhere = loop-empty image nowhere u v c
outside-empty image Black u v c nowhere = black-empty image nowhere u v c
outside-empty image White u v c nowhere = white-empty image nowhere u v c

pub nothing_read : (box : Rectangle) (policy : Abyss) (v : ℕ) → ((u v : ℕ) → Inside u v box → ⊥) → ReadsNothing box policy v
nothing_read box policy v nowhere = λ image u c is.
    outside-empty image policy u v c (λ a b there. nowhere a b (subst (Inside a b) is there))

-- a policy that does not move positions into the box
pub outside-still : (image : Image) (policy : Abyss) (u v c : ℕ) → (policy ≡ Clamp → ⊥) → (policy ≡ Loop → ⊥) → (Inside u v image.box → ⊥) → abyss_at image policy u v c ≡ outside_sample policy image.format c
outside-still image None u v c clamp loop out = abyss_at-outside image None u v c out
outside-still image Clamp u v c clamp loop out = absurd (clamp refl)
outside-still image Loop u v c clamp loop out = absurd (loop refl)
outside-still image Black u v c clamp loop out = abyss_at-outside image Black u v c out
outside-still image White u v c clamp loop out = abyss_at-outside image White u v c out

pub nothing_beyond : (box : Rectangle) (policy : Abyss) (v : ℕ) → (policy ≡ Clamp → ⊥) → (policy ≡ Loop → ⊥) → (Within box.first_row box.height v → ⊥) → ReadsNothing box policy v
nothing_beyond box policy v clamp loop out = λ image u c is.
    outside-still image policy u v c clamp loop (λ there. out (subst (Inside u v) is there).row)

both_nothing : (box : Rectangle) (policy : Abyss) (a b : ℕ) → ReadsNothing box policy a → ReadsNothing box policy b → EqualRows box policy a b
both_nothing box policy a b first second = λ image u c is. first image u c is ∙ sym (second image u c is)

-- a row is read as the row that the policy moves it to, which it leaves where it is
read_moved : (policy : Abyss) (moved : ℕ → ℕ → ℕ → ℕ) → ((image : Image) (u v c : ℕ) → abyss_at image policy u v c ≡ moved_sample moved image u v c)
    → ((start len n : ℕ) → 0 < len → moved start len (moved start len n) ≡ moved start len n)
    → (box : Rectangle) (v : ℕ) → 0 < box.height → EqualRows box policy v (moved box.first_row box.height v)
read_moved policy moved everywhere again box v high = λ image u c is.
    let tall : 0 < image.box.height = subst (λ (r : Rectangle). 0 < r.height) (sym is) high in
    let first_row = image.box.first_row in
    let height = image.box.height in
    everywhere image u v c
    ∙ ap (λ (b : ℕ). at image (moved image.box.first_column image.box.width u) b c) (sym (again first_row height v tall))
    ∙ sym (everywhere image u (moved first_row height v) c)
    ∙ ap (λ (r : Rectangle). abyss_at image policy u (moved r.first_row r.height v) c) is

read_nearest : (box : Rectangle) (v : ℕ) → 0 < box.height → EqualRows box Clamp v (nearest box.first_row box.height v)
read_nearest = read_moved Clamp nearest clamp-everywhere (λ start len n some. nearest-inside start len (nearest start len n) (nearest-within start len n some))

read_wrapped : (box : Rectangle) (v : ℕ) → 0 < box.height → EqualRows box Loop v (wrapped box.first_row box.height v)
read_wrapped = read_moved Loop wrapped loop-everywhere (λ start len n some. wrapped-inside start len (wrapped start len n) (wrapped-within start len n some))

-- two rows that have the samples of a third
through : (box : Rectangle) (policy : Abyss) (a b s t : ℕ) → s ≡ t → EqualRows box policy a s → EqualRows box policy b t → EqualRows box policy a b
through box policy a b s t same first second = λ image u c is.
    first image u c is ∙ ap (λ (v : ℕ). abyss_at image policy u v c) same ∙ sym (second image u c is)

-- ---- rows that follow one another

pub in_order-nearest : (box : Rectangle) (v source many : ℕ) → 0 < box.height → source ≡ nearest box.first_row box.height v → many ≡ 1 → ReadsInOrder box Clamp v source many
in_order-nearest box v source many high at once = λ i below.
    let none : i ≡ 0 = omega arith in
    through box Clamp (v + i) (source + i) (nearest box.first_row box.height (v + i)) (nearest box.first_row box.height (source + i)) (omega (arith, at, none, nearest-within box.first_row box.height v high))
    (read_nearest box (v + i) high) (read_nearest box (source + i) high)

-- a number further on, wrapped
pub wrapped-more : (start len n k : ℕ) → 0 < len → wrapped start len (n + k) - start ≡ (wrapped start len n - start + k) % len
wrapped-more start zero n k some = absurd (omega arith)
wrapped-more start (suc j) n k some =
    let len = suc j in
    let m = n + start * len - start in
    let further : n + k + start * len - start ≡ m + k = omega arith in
    let whole : start + (n + k + start * len - start) % len - start ≡ (n + k + start * len - start) % len = omega arith in
    let rest : m % len ≡ start + m % len - start = omega arith in
    whole
    ∙ ap (λ (i : ℕ). i % len) further
    ∙ sym (mod-add-mod m len k)
    ∙ ap (λ (i : ℕ). (i + k) % len) rest

pub in_order-wrapped : (box : Rectangle) (v source many : ℕ) → 0 < box.height → source ≡ wrapped box.first_row box.height v → source + many ≤ box.first_row + box.height → ReadsInOrder box Loop v source many
in_order-wrapped box v source many high at room = λ i below.
    let start = box.first_row in
    let len = box.height in
    let w = wrapped start len v in
    let here = wrapped-within start len v high in
    let there = wrapped-within start len (v + i) high in
    let moved : wrapped start len (v + i) ≡ source + i =
    omega (arith, at, here.0, there.0, wrapped-more start len v i high ∙ mod-eq_of_lt (omega (arith, at, here.0))) in
    λ image u c is. read_wrapped box (v + i) high image u c is ∙ ap (λ (b : ℕ). abyss_at image Loop u b c) moved

-- ---- rows that repeat those above them

pub repetition-nowhere : (box : Rectangle) (policy : Abyss) (a b : ℕ) → ((u v : ℕ) → Inside u v box → ⊥) → EqualRows box policy a b
repetition-nowhere box policy a b nowhere = both_nothing box policy a b (nothing_read box policy a nowhere) (nothing_read box policy b nowhere)

-- beside a box, under a policy that does not move positions into it
still_aside : (box : Rectangle) (policy : Abyss) (a b : ℕ) → (policy ≡ Clamp → ⊥) → (policy ≡ Loop → ⊥) → OnOneSide box a b → EqualRows box policy a b
still_aside box policy a b clamp loop side =
    let out : (Within box.first_row box.height a → ⊥) × (Within box.first_row box.height b → ⊥) =
    elim side [
      | inl none ↦ (λ w. omega (arith, none, w.0, w.1), λ w. omega (arith, none, w.0, w.1))
      | inr rest ↦
          elim rest [
            | inl h ↦ (λ w. omega (arith, h.0, w.0), λ w. omega (arith, h.1, w.0))
            | inr h ↦ (λ w. omega (arith, h.0, w.1), λ w. omega (arith, h.1, w.1))
          ]
    ] in
    both_nothing box policy a b (nothing_beyond box policy a clamp loop out.0) (nothing_beyond box policy b clamp loop out.1)

clamped_aside : (box : Rectangle) (a b : ℕ) → 0 < box.height → OnOneSide box a b → EqualRows box Clamp a b
clamped_aside box a b high side =
    let same : nearest box.first_row box.height a ≡ nearest box.first_row box.height b =
    elim side [
      | inl none ↦ absurd (omega (arith, none, high))
      | inr rest ↦ elim rest [ inl h ↦ omega (arith, h.0, h.1) | inr h ↦ omega (arith, h.0, h.1) ]
    ] in
    through box Clamp a b (nearest box.first_row box.height a) (nearest box.first_row box.height b) same (read_nearest box a high) (read_nearest box b high)

no_rows : (box : Rectangle) → box.height ≡ 0 → (u v : ℕ) → Inside u v box → ⊥
no_rows box none u v there = omega (arith, none, there.row)

-- two rows beside a box
pub repetition-aside : (box : Rectangle) (policy : Abyss) (a b : ℕ) → (policy ≡ Loop → ⊥) → OnOneSide box a b → EqualRows box policy a b
repetition-aside box None a b loop side = still_aside box None a b (search rules) loop side
repetition-aside box Clamp a b loop side =
    elim (cases_lt 0 box.height) [
      | inl high ↦ clamped_aside box a b high side
      | inr low ↦ repetition-nowhere box Clamp a b (no_rows box (omega arith))
    ]
repetition-aside box Loop a b loop side = absurd (loop refl)
repetition-aside box Black a b loop side = still_aside box Black a b (search rules) loop side
repetition-aside box White a b loop side = still_aside box White a b (search rules) loop side

-- a whole number of heights apart
pub repetition-wrapped : (box : Rectangle) (v i : ℕ) → 0 < box.height → box.height ≤ v → EqualRows box Loop (v - box.height + i % box.height) (v + i)
repetition-wrapped box v i high above =
    let start = box.first_row in
    let len = box.height in
    let base = v - len in
    let w = wrapped start len base - start in
    let a = base + i % len in
    let further : v + i ≡ base + (len + i) = omega arith in
    let first : wrapped start len a - start ≡ (w + i) % len = wrapped-more start len base (i % len) high ∙ add-mod-mod w i len in
    let second : wrapped start len (v + i) - start ≡ (w + i) % len =
    ap (λ (n : ℕ). wrapped start len n - start) further ∙ wrapped-more start len base (len + i) high
    ∙ ap (λ (n : ℕ). n % len) (omega arith) ∙ add-mod_left len (w + i) in
    let one = wrapped-within start len a high in
    let two = wrapped-within start len (v + i) high in
    through box Loop a (v + i) (wrapped start len a) (wrapped start len (v + i)) (omega (arith, first, second, one.0, two.0)) (read_wrapped box a high) (read_wrapped box (v + i) high)

-- a box without a position included
pub repetition-looped : (box : Rectangle) (v i period : ℕ) → period ≡ max box.height 1 → period ≤ v → EqualRows box Loop (v - period + i % period) (v + i)
repetition-looped box v i period is above =
    elim (cases_lt 0 box.height) [
      | inl high ↦
          let same : period ≡ box.height = omega arith in
          rw same (repetition-wrapped box v i high (omega arith))
      | inr low ↦ repetition-nowhere box Loop (v - period + i % period) (v + i) (no_rows box (omega arith))
    ]

-- ---- pixels of zeros

zero_byte : (n many k : ℕ) → ◌≡◌ {A = ℕ} (get_or (take n (replicate many 0)) k 0) 0
zero_byte n many k =
    elim (cases_lt k n) [
      | inl lt ↦ get_or-take n (replicate many 0) k 0 lt ∙ get_or-zeros many k
      | inr past ↦ get_or_past (take n (replicate many 0)) k 0 (omega (arith, length-take {A = ℕ} n (replicate many 0)))
    ]

outside_zero : (policy : Abyss) (format : Format) (c : ℕ) → (policy ≡ None) ⊎ ((policy ≡ Clamp) ⊎ (policy ≡ Loop)) → outside_sample policy format c ≡ 0
outside_zero policy format c is =
    elim is [
      | inl none ↦ ap (λ (p : Abyss). outside_sample p format c) none
      | inr moved ↦
          elim moved [
            | inl clamp ↦ ap (λ (p : Abyss). outside_sample p format c) clamp
            | inr loop ↦ ap (λ (p : Abyss). outside_sample p format c) loop
          ]
    ]

pub zero_pixel : (policy : Abyss) (format : Format) (n c : ℕ) → (policy ≡ None) ⊎ ((policy ≡ Clamp) ⊎ (policy ≡ Loop)) →
    pixel_at format (take n (replicate 16 0)) 0 c ≡ outside_sample policy format c
zero_pixel policy format n c is =
    sample_zero (depth format) (take n (replicate 16 0)) (0 * channels format + c) (λ k below. zero_byte n 16 _)
    ∙ sym (outside_zero policy format c is)

-- ---- pixels of the largest samples

-- each byte of a sample is 255
abbrev IsFull : ℕ → List ℕ → ℕ → Type 0
IsFull d row i = (k : ℕ) → k < d → get_or row (d * i + k) 0 ≡ 255

full_byte : (d : ℕ) (row : List ℕ) (i k at : ℕ) → IsFull d row i → k < d → at ≡ d * i + k → get_or row at 0 ≡ 255
full_byte d row i k at full below is = ap (λ (n : ℕ). get_or row n 0) is ∙ full k below

full_sample : (format : Format) (row : List ℕ) (i : ℕ) → IsFull (depth format) row i → sample_at (depth format) row i ≡ max_sample format
full_sample format row i =
    by_depth (λ d. IsFull d row i → sample_at d row i ≡ max_sample_of d)
    (λ full. full_byte 1 row i 0 i full (omega arith) (omega arith))
    (λ full.
    let byte = λ (k at : ℕ). full_byte 2 row i k at full in
    omega (arith, byte 0 (2 * i) (omega arith) (omega arith), byte 1 (2 * i + 1) (omega arith) (omega arith)))
    (λ full.
    let byte = λ (k at : ℕ). full_byte 4 row i k at full in
    let low : get_or row (4 * i) 0 + 256 * get_or row (4 * i + 1) 0 ≡ 65535 =
    omega (arith, byte 0 (4 * i) (omega arith) (omega arith), byte 1 (4 * i + 1) (omega arith) (omega arith)) in
    omega (arith, low, byte 2 (4 * i + 1 + 1) (omega arith) (omega arith), byte 3 (4 * i + 1 + 1 + 1) (omega arith) (omega arith)))
    format

pub white_pixel : (policy : Abyss) (format : Format) (n c : ℕ) → policy ≡ White → n ≡ pixel_bytes format → c < channels format →
    pixel_at format (take n (replicate 16 255)) 0 c ≡ outside_sample policy format c
white_pixel policy format n c white is known =
    full_sample format (take n (replicate 16 255)) (0 * channels format + c)
    (λ k below.
    let there : depth format * (0 * channels format + c) + k < n = omega (arith, is, below, sample_fits format 1 0 c (omega arith) known) in
    get_or-take n (replicate 16 255) _ 0 there ∙ get_or-replicate 16 _ 255 0 (omega (arith, there, is, few_bytes format)))
    ∙ ap (λ (p : Abyss). outside_sample p format c) (sym white)
