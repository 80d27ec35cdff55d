-- Numbers moved to a side: to the nearest of some in a row, and by whole multiples of how many they are.
use Rattle.std.proofs.Common.{◌≡◌, ℕ, zero, suc, ◌+◌, ◌-◌, ◌*◌, ◌%◌, ◌<◌, ◌≤◌, sym, ap, ◌∙◌, arith}
use Rattle.std.proofs.Math.Nat.{add-mod-mod, mod-add-mod, add-mod_right, add-mul-mod_self_right}
use Rattle.std.proofs.lemmas.Nat.{mod-mul-add, mod_below}
use Rattle.std.specs.Int.{abs_diff}
use Rattle.plane_rect.specs.Rectangle.{Within}
use Rattle.model_images.specs.Abyss.{nearest, wrapped}

pub nearest-within : (start len n : ℕ) → 0 < len → Within start len (nearest start len n)
nearest-within start len n some = (omega arith, omega arith)

pub nearest-inside : (start len n : ℕ) → Within start len n → nearest start len n ≡ n
nearest-inside start len n inside = omega (arith, inside)

pub nearest-minimum : (start len n m : ℕ) → Within start len m → abs_diff n (nearest start len n) ≤ abs_diff n m
nearest-minimum start len n m inside = omega (arith, inside)

-- a number wrapped, without a difference
wrapped-sum : (start k n : ℕ) → wrapped start (suc k) n ≡ start + (n + start * k) % suc k
wrapped-sum start k n =
    let moved : n + start * suc k - start ≡ n + start * k = omega arith in
    ap (λ (m : ℕ). start + m % suc k) moved

pub wrapped-within : (start len n : ℕ) → 0 < len → Within start len (wrapped start len n)
wrapped-within start len n some =
    let below = mod_below (n + start * len - start) len some in
    (omega arith, omega (arith, below))

pub wrapped-inside : (start len n : ℕ) → Within start len n → wrapped start len n ≡ n
wrapped-inside start zero n inside = absurd (omega (arith, inside))
wrapped-inside start (suc k) n inside =
    let moved : n + start * k ≡ start * suc k + (n - start) = omega (arith, inside) in
    let rest : n - start < suc k = omega (arith, inside) in
    wrapped-sum start k n
    ∙ ap (λ (m : ℕ). start + m % suc k) moved
    ∙ ap (λ (m : ℕ). start + m) (mod-mul-add start (suc k) (n - start) rest)
    ∙ omega (arith, inside)

pub wrapped-remainder : (start len n : ℕ) → 0 < len → wrapped start len n % len ≡ n % len
wrapped-remainder start zero n some = absurd (omega arith)
wrapped-remainder start (suc k) n some =
    let whole : start + (n + start * k) ≡ n + start * suc k = omega arith in
    ap (λ (m : ℕ). m % suc k) (wrapped-sum start k n)
    ∙ add-mod-mod start (n + start * k) (suc k)
    ∙ ap (λ (m : ℕ). m % suc k) whole
    ∙ add-mul-mod_self_right n start (suc k)

-- numbers of equal remainders are wrapped to one
pub wrapped-equal : (start len m n : ℕ) → 0 < len → m % len ≡ n % len → wrapped start len m ≡ wrapped start len n
wrapped-equal start zero m n some same = absurd (omega arith)
wrapped-equal start (suc k) m n some same =
    let s = suc k in
    wrapped-sum start k m
    ∙ ap (λ (i : ℕ). start + i)
    (sym (mod-add-mod m s (start * k)) ∙ ap (λ (i : ℕ). (i + start * k) % s) same ∙ mod-add-mod n s (start * k))
    ∙ sym (wrapped-sum start k n)

pub wrapped-only : (start len n m : ℕ) → Within start len m → m % len ≡ n % len → m ≡ wrapped start len n
wrapped-only start len n m inside same =
    sym (wrapped-inside start len m inside) ∙ wrapped-equal start len m n (omega (arith, inside)) same

pub wrapped-periodic : (start len n : ℕ) → 0 < len → wrapped start len (n + len) ≡ wrapped start len n
wrapped-periodic start len n some = wrapped-equal start len (n + len) n some (add-mod_right n len)

pub ruleset wrapped_laws = (wrapped-within, wrapped-inside, wrapped-remainder, wrapped-only, wrapped-periodic)
