-- What an owner of a block owns and lends. Each owner has one part in 2 ^ 63 of the token of a lifetime, for which the bytes are shared. An invariant has the count and the other parts, and the last owner gets the whole block.
use Rattle.std.specs.Prelude.{ℕ, ◌+◌, List, length}
use base.Fraction.{full_share}
use base.Fml.{Lft, Fml, ffalse, fsep, fex}
use denote.RawPtr.{Ptr, block_ptr, null_ptr, lies_at}
use denote.Builtin.{u8, u64}
use denote.Array.{Array}
use denote.Sharing.{said, beside, some}
use denote.Struct.Lending.{lent_at}
use Rattle.std_alloc.specs.Arc.Ownership.{owner_owns, owner_shares}
use Rattle.tile_cow.specs.Block.{freed_by}

module _ (b o : ℕ) (xs : List ℕ) where
  -- what the last owner gets: the length, the bytes, and the right to free them
  abbrev pub content : Fml
  content = fsep (fsep (lies_at u64 full_share (block_ptr b (8 + o)) (length xs)) (lies_at (Array u8 (length xs)) full_share (block_ptr b (16 + o)) xs)) (freed_by b o (length xs))

  -- what every owner may read
  abbrev pub lent : Lft → Fml
  lent = beside (lent_at u64 (block_ptr b (8 + o)) (length xs)) (lent_at (Array u8 (length xs)) (block_ptr b (16 + o)) xs)

abbrev pub owner_has : Ptr → List ℕ → Fml
owner_has (block_ptr b o) xs = fex ℕ (λ a. owner_owns (content b o xs) b o a (lent b o xs))
owner_has null_ptr xs = ffalse

abbrev pub owner_lends : Ptr → List ℕ → Lft → Fml
owner_lends (block_ptr b o) xs = some ℕ (λ a. owner_shares (content b o xs) b o a (lent b o xs))
owner_lends null_ptr xs = said ffalse
