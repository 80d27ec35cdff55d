-- Parts of files that are read.
use Rattle.std.proofs.Common.{◌≡◌, ℕ, ◌+◌, ◌-◌, inl, inr, Bool, IsTrue, List, drop, length, take, Option, Some, None, IfSome, Ok, refl, sym, ap, ◌∙◌, arith}
use Rattle.std.specs.Prelude.{min}
use Rattle.std.proofs.lemmas.Bool.{cases_lt}
use Rattle.outside_io.specs.Shelf.{GivesPart}
use Rattle.run_lines.specs.Rasters.{IsPart, IsPartRead}

-- A read that gives as many bytes as a part has reads them. Where there was room for one more, the file ends there.
pub part_read : (found : Option (List ℕ)) (start count room : ℕ) (last : Bool) (n : ℕ) (into read : List ℕ) → GivesPart found start room into (Ok n) → n ≡ count → (IsTrue last → room ≡ count + 1) → read ≡ take count into →
    (wanted : ℕ) → IsPart start count last wanted → IsPartRead found start count last wanted read
part_read None start count room last n into read gives many more first wanted is = absurd gives
part_read (Some bytes) start count room last n into read gives many more first wanted is = record {
  bytes = bytes;
  there = refl;
  part = first ∙ ap (λ (k : ℕ). take k into) (sym many) ∙ gives.1 ∙ ap (λ (k : ℕ). take k (drop start bytes)) many;
  ends = λ end. ended (gives.0) (more end) (is.ends end) is.some;
}
  where
    ended : n ≡ min room (length bytes - start) → room ≡ count + 1 → start + count ≡ wanted → (count ≡ 0 → start ≡ 0) → length bytes ≡ wanted
    ended least room_is sum none = elim (cases_lt 0 count) [
      | inl some ↦ omega (arith, least, room_is, sum, some, many)
      | inr nothing ↦ let at : start ≡ 0 = none (omega (arith, nothing)) in omega (arith, least, room_is, sum, nothing, many, at)
    ]

-- what holds of a value that is there
pub some_each : {X : Type 0} → (o : Option X) (P Q : X → Type 0) → ((x : X) → P x → Q x) → IfSome o P → IfSome o Q
some_each None P Q step is = tt
some_each (Some x) P Q step is = step x is
