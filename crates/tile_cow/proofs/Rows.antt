-- The laws of the rows that lie in a block, and of what an owner lends of them. Assumes `Logic`.
use Prim.Native.Nat.{ℕ, ◌+◌}
use mathlib.Core.Path.{refl}
use mathlib.Core.List.{List, [], ◌∷◌}
use lib.ListN.{length}
use base.Fraction.{full_share}
use base.Fml.{ffalse, fsep, flft}
use types.Logic.{Logic}
use seplogic.Ra.Ura.{Ura}
use denote.Builtin.{u8, u64}
use denote.Array.{Array}
use denote.RawPtr.{Ptr, block_ptr, null_ptr, lies_at}
use denote.Param.Laws.{Laws, of_field, array_laws}
use denote.Param.Shared.{copy_shared}
use denote.Struct.Field.{u8-field, u64-field}
use denote.Struct.Laws.{u8-laws, u8-copy, u64-laws, u64-copy}
use denote.Sharing.{ShrLaws, beside, one, held, always}
use denote.SharingLaws.{said_shr_laws, some_shr_laws, beside_shr_laws, one_shr_laws, always_shr_laws, held_shr_laws}
use denote.Struct.Lending.{Lends, Lends-lies, Lends-first, Lends-both, Lends-false, lent_at, lent_at_shr_laws}
use Rattle.core.specs.Thread.Scope.{refcount_invariant}
use Rattle.std_alloc.specs.Arc.Ownership.{owner_shares}
use Rattle.std_alloc.proofs.ArcSteps.{Lends-arc}
use Rattle.tile_cow.specs.Block.{freed_by}
use Rattle.tile_cow.specs.Owner.{content, lent, owner_has, owner_lends}

abbrev pub byte_laws : Laws u8
byte_laws = of_field u8-field u8-laws refl (copy_shared u8-field u8-copy)

abbrev pub size_laws : Laws u64
size_laws = of_field u64-field u64-laws refl (copy_shared u64-field u64-copy)

abbrev pub bytes_laws : (n : ℕ) → Laws (Array u8 n)
bytes_laws n = array_laws u8 byte_laws n

pub lent_laws : (b o : ℕ) (xs : List ℕ) → ShrLaws (lent b o xs)
lent_laws b o xs = let size = block_ptr b (8 + o) in let bytes = block_ptr b (16 + o) in let n = length xs in
    beside_shr_laws (lent_at u64 size n) (lent_at (Array u8 n) bytes xs) (lent_at_shr_laws u64 size_laws.shr_laws size n) (lent_at_shr_laws (Array u8 n) (bytes_laws n).shr_laws bytes xs)

pub shares_laws : (p : Ptr) (xs : List ℕ) → ShrLaws (owner_lends p xs)
shares_laws null_ptr xs = said_shr_laws ffalse tt
shares_laws (block_ptr b o) xs = let P = content b o xs in let s = lent b o xs in
    some_shr_laws ℕ (λ a. owner_shares P b o a s) (λ a. beside_shr_laws (one (λ q. flft (a ∷ []) q)) (beside (always (refcount_invariant P b o a)) (held (a ∷ []) s)) (one_shr_laws (λ q. flft (a ∷ []) q))
    (beside_shr_laws (always (refcount_invariant P b o a)) (held (a ∷ []) s) (always_shr_laws (refcount_invariant P b o a)) (held_shr_laws (a ∷ []) s (lent_laws b o xs))))

module _ {M : Type 1} {𝓤 : Ura M} (𝓛 : Logic 𝓤) where
  pub content_lends : (b o : ℕ) (xs : List ℕ) → Lends 𝓛 (content b o xs) (lent b o xs) []
  content_lends b o xs = let size = block_ptr b (8 + o) in let bytes = block_ptr b (16 + o) in let n = length xs in
      let F = lies_at u64 full_share size n in let G = lies_at (Array u8 n) full_share bytes xs in
      Lends-first 𝓛 (fsep F G) (freed_by b o n) (lent b o xs) []
      (Lends-both 𝓛 F G (lent_at u64 size n) (lent_at (Array u8 n) bytes xs) []
      (Lends-lies 𝓛 u64 [] size n (size_laws.shares 𝓛 n))
      (Lends-lies 𝓛 (Array u8 n) [] bytes xs ((bytes_laws n).shares 𝓛 xs)))

  pub owner_lent : (p : Ptr) (xs : List ℕ) → Lends 𝓛 (owner_has p xs) (owner_lends p xs) []
  owner_lent null_ptr xs = Lends-false 𝓛 (owner_lends null_ptr xs) []
  owner_lent (block_ptr b o) xs = Lends-arc (content b o xs) b o (lent b o xs) (lent_laws b o xs) 𝓛 []
