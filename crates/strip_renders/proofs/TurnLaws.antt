-- What the turn of one needed tile leaves of what is spent and held ahead.
use Rattle.std.proofs.Common.{◌≡◌, ℕ, ◌+◌, ◌<◌, ◌≤◌, Bool, true, false, List, [], ◌∷◌, length, Option, sym, subst, arith}
use Rattle.std.specs.Prelude.{Err, IfOk, Ok, Result}
use Rattle.model_graphs.specs.declared.node.NodeFact.{NodeFact}
use Rattle.model_graphs.specs.Evaluation.{Buffers}
use Rattle.model_graphs.specs.Meanings.{Meanings}
use Rattle.model_states.specs.Cache.{Pair}
use Rattle.model_states.specs.Need.{Needed}
use Rattle.strip_renders.specs.Ahead.{AreMadeOf, AreNext, IsPermitted, IsRefusedAt, IsSpentFor, IsTaken, MadeTiles, permits_of}
use Rattle.strip_renders.proofs.AheadLaws.{taken-count}
use Rattle.strip_renders.proofs.Nexts.{next-fewer}

-- ---- by what a call answers

pub ok-then : {T E : Type 0} (P Q : T → Type 0) (r : Result T E) → IfOk r P → ((x : T) → P x → Q x) → IfOk r Q
ok-then P Q (Ok x) is to = to x is
ok-then P Q (Err e) is to = tt

-- ---- permits

module _ {Op : Type 0} (nodes : List (NodeFact Op)) (n : Needed) (rest : List Needed) (pairs : List Pair) (old new : MadeTiles) (made : Option (List ℕ))
    (taken : IsTaken old new n made) (are : AreNext nodes pairs (n ∷ rest) old) (first left last : ℕ) (enough : length rest + 1 ≤ first) (spent : left + length old ≡ first) where
  few : length new ≤ length rest
  few = next-fewer nodes n rest pairs old new made taken are

  count : length old ≡ length new + permits_of made
  count = taken-count n rest old new made taken

  pub left-for : 0 < left + permits_of made
  left-for = omega (arith, few, enough, spent, count)

  pub spent-for : (found : Bool) → IsPermitted left last made found → IsSpentFor first (last + length new) found
  spent-for true permitted = omega (arith, permitted.0, permitted.1, spent, count)
  spent-for false permitted = omega (arith, permitted, spent, count)

  pub refused-for : IsRefusedAt left last made → first ≤ last + (length rest + 1)
  refused-for refused = omega (arith, refused.1, few, spent, count)

pub made-none : {Op : Type 0} (meanings : Meanings Op) (nodes : List (NodeFact Op)) (images : Buffers) (made : MadeTiles) → made ≡ [] → AreMadeOf meanings nodes images made
made-none meanings nodes images made none = subst (AreMadeOf meanings nodes images) (sym none) tt
