-- The numbers of a viewer's frames.
use Rattle.std.proofs.Common.{◌≡◌, subst, ℕ, suc, zero, ◌+◌, ◌-◌, ◌<◌, ◌≤◌, List, length, slice_index_or, arith}
use Rattle.model_runs.specs.State.{Watched}
use Rattle.model_runs.specs.Watching.{AreViewersNumbers}

-- a number is none greater than one that stands so many positions after it
climbs : (numbers : List ℕ) →
    ((i : ℕ) → suc i < length numbers → slice_index_or numbers i 0 ≤ slice_index_or numbers (suc i) 0) →
    (i d : ℕ) → i + d < length numbers → slice_index_or numbers i 0 ≤ slice_index_or numbers (i + d) 0
climbs numbers rising i zero within =
    let index : i + zero ≡ i = omega arith in
    rw index (omega arith)
climbs numbers rising i (suc d) within =
    let before : slice_index_or numbers i 0 ≤ slice_index_or numbers (i + d) 0 = climbs numbers rising i d (omega (arith, within)) in
    let step : slice_index_or numbers (i + d) 0 ≤ slice_index_or numbers (suc (i + d)) 0 = rising (i + d) (omega (arith, within)) in
    let index : i + suc d ≡ suc (i + d) = omega arith in
    rw index (omega (arith, before, step))

pub ended : (watched : Watched) (numbers : List ℕ) (i : ℕ) →
    AreViewersNumbers watched numbers → i < length numbers → slice_index_or numbers i 0 ≤ watched.ended
ended watched numbers i are within =
    let after : i + (watched.watching.frames - i) ≡ watched.watching.frames = omega (arith, are.count, within) in
    let climbed = climbs numbers are.rising i (watched.watching.frames - i) (omega (arith, are.count, within)) in
    subst (λ n. slice_index_or numbers i 0 ≤ n) are.last
    (subst (λ n. slice_index_or numbers i 0 ≤ slice_index_or numbers n 0) after climbed)
