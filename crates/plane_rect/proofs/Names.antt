-- Lemmas on names.
use Rattle.std.proofs.Common.{◌≡◌, ℕ, List, ◌++◌, length, take, drop, replicate, IsTrue, refl, ap, sym}
use Rattle.std.proofs.Math.Seq.{take-append_seam}
use Rattle.std.proofs.lemmas.List.{drop-replicate}
use Rattle.plane_rect.specs.Name.{is_name, HoldsName}

-- a name that was written over the prefix of sixteen zeros
pub written_name : (word : List ℕ) → IsTrue (is_name word)
    → HoldsName (word ++ drop (length word) (replicate 16 0)) (length word)
written_name word h =
    let prefix : take (length word) (word ++ drop (length word) (replicate 16 0)) ≡ word = take-append_seam word _ in
    record {
      name = rw prefix h;
      whole = rw prefix refl;
      zeros = rw prefix (ap (λ (ys : List ℕ). word ++ ys) (sym (drop-replicate (length word) 16 0)));
    }
