-- Tables of buffers that a call on the chain wasn't handed.
use Rattle.std.proofs.Common.{ℕ, ◌+◌, ◌≤◌, List, [], ◌∷◌, ◌++◌, refl, arith}
use Rattle.std.specs.List.{AllByRecursion}
use Rattle.chain_owners.specs.Held.{Held}
use Rattle.chain_owners.specs.Owners.{Owns, Respects, times}
use Rattle.chain_owners.proofs.Ownership.{others-own, owns-fewer, times-append}
use Rattle.buffer_view.specs.BufferTables.{BufferTable, buffers_names}
use Rattle.buffer_view.proofs.Tables.{over-beside, table-beside}
use Rattle.session_states.specs.OverChains.{AreAllOver, AreAllSame, names_of_all}

-- ---- lists

module _ (P : BufferTable → Type 0) where
  pub all-append : (a b : List BufferTable) → AllByRecursion P a → AllByRecursion P b → AllByRecursion P (a ++ b)
  all-append [] b first second = second
  all-append (x ∷ a) b first second = (first.0, all-append a b first.1 second)

  pub all-first : (a b : List BufferTable) → AllByRecursion P (a ++ b) → AllByRecursion P a
  all-first [] b all = tt
  all-first (x ∷ a) b all = (all.0, all-first a b all.1)

  pub all-second : (a b : List BufferTable) → AllByRecursion P (a ++ b) → AllByRecursion P b
  all-second [] b all = all
  all-second (x ∷ a) b all = all-second a b all.1

-- ---- a call

module _ (old new : Held) (before after : List ℕ) (respects : Respects old new before after) where
  -- some of the names that are beside
  owns-some : (b : BufferTable) (rest : List BufferTable) (some : List ℕ) → ((q : ℕ) → times some q ≤ times (buffers_names b) q + times (names_of_all rest) q)
      → Owns old (before ++ names_of_all (b ∷ rest)) → Owns old (before ++ some)
  owns-some b rest some fewer owns =
      owns-fewer old (before ++ names_of_all (b ∷ rest)) (before ++ some)
      (λ q. omega (
        arith,
        fewer q,
        times-append before some q,
        times-append before (names_of_all (b ∷ rest)) q,
        times-append (buffers_names b) (names_of_all rest) q,
      )) owns

  owns-first : (b : BufferTable) (rest : List BufferTable) → Owns old (before ++ names_of_all (b ∷ rest)) → Owns old (before ++ buffers_names b)
  owns-first b rest = owns-some b rest (buffers_names b) (λ q. omega arith)

  owns-rest : (b : BufferTable) (rest : List BufferTable) → Owns old (before ++ names_of_all (b ∷ rest)) → Owns old (before ++ names_of_all rest)
  owns-rest b rest = owns-some b rest (names_of_all rest) (λ q. omega arith)

  pub over-again : (buffers : List BufferTable) → Owns old (before ++ names_of_all buffers) → AreAllOver buffers old → AreAllOver buffers new
  over-again [] owns over = tt
  over-again (b ∷ rest) owns over =
      (over-beside b old new before after respects (owns-first b rest owns) over.0, over-again rest (owns-rest b rest owns) over.1)

  pub same-again : (buffers : List BufferTable) → Owns old (before ++ names_of_all buffers) → AreAllSame old new buffers
  same-again [] owns = tt
  same-again (b ∷ rest) owns =
      (table-beside b old new before after respects (owns-first b rest owns), same-again rest (owns-rest b rest owns))

  pub owned-again : (buffers : List BufferTable) → Owns old (before ++ names_of_all buffers) → Owns new (after ++ names_of_all buffers)
  owned-again buffers owns = others-own old new before after respects (names_of_all buffers) owns

-- ---- names in another order

pub same-itself : (held : Held) (buffers : List BufferTable) → AreAllSame held held buffers
same-itself held [] = tt
same-itself held (b ∷ rest) = (refl, same-itself held rest)
