-- Files whose bands could not be made.
use Rattle.std.proofs.Common.{◌≡◌, ◌≢◌, ℕ, List, Option, Some, None, Result, Ok, Err, IsErrOf, inl, refl, sym, ap, ◌∙◌}
use Rattle.std.specs.Result.{IsErrAnd}
use Rattle.outside_io.specs.Bands.{BandsLeave}
use Rattle.outside_io.specs.Files.{Files}
use Rattle.outside_io.specs.declared.bands.BandsAnswer.{BandsAnswer}
use Rattle.outside_io.specs.declared.bands.BandsAnswer.TheVariants as answers

-- where the bands aren't all made, it is right to change no file
pub unmade_leaves : {E : Type 0} (may_give : List ℕ → Type 0) (files : Option Files) (name : List ℕ) (answer : BandsAnswer E) (result : Result (Unit {0}) (BandsAnswer E)) →
    IsErrAnd result (λ other. other ≡ answer) → answer ≢ answers.Failed → BandsLeave may_give files name result files
unmade_leaves may_give None name answer result same known = refl
unmade_leaves may_give (Some files) name answer (Ok done) same known = absurd same
unmade_leaves may_give (Some files) name answer (Err answers.Failed) same known = absurd (known (sym same))
unmade_leaves may_give (Some files) name answer (Err answers.NoMemory) same known = inl refl
unmade_leaves may_give (Some files) name answer (Err (answers.Refused why)) same known = refl

abbrev error_in : {E : Type 0} → Result (Unit {0}) (BandsAnswer E) → BandsAnswer E
error_in (Ok done) = answers.NoMemory
error_in (Err answer) = answer

-- nor has the device failed then
pub unmade_fails : {E : Type 0} (rose : Type 0) (answer : BandsAnswer E) (result : Result (Unit {0}) (BandsAnswer E)) →
    IsErrAnd result (λ other. other ≡ answer) → answer ≢ answers.Failed → IsErrOf result answers.Failed → rose
unmade_fails rose answer (Ok done) same known failed = absurd same
unmade_fails rose answer (Err other) same known failed = absurd (known (sym same ∙ ap error_in failed))
