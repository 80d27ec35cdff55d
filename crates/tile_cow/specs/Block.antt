-- What the owner of a whole block owns. A block begins with the count of its owners and its length, each of 8 bytes. The bytes follow.
use Rattle.std.specs.Prelude.{◌≡◌, ℕ, ◌+◌, Bool, List, [], length}
use mir.Syntax.{Ty, w8, w64, ty_int, ty_array, ty_struct, tcons, tnil}
use mir.Val.{vint}
use base.Fraction.{full_share}
use base.Fml.{Fml, ftrue, ffalse, fsep, fex, fwand, fat, froom}
use denote.RawPtr.{Ptr, block_ptr, null_ptr}
use denote.Builtin.{u8}
use Rattle.core.specs.Allocator.{owned_block}
use Rattle.core.specs.Mem.Slots.Ownership.{slots, Filled}
use Rattle.std_heap.specs.contracts.GlobalAllocator.TheImpl.{ghosts}
use Rattle.tile_cow.specs.Tile.{IsTileLength}

-- the memory of a block of n bytes
abbrev pub block_type : ℕ → Ty
block_type n = ty_struct [] (tcons (ty_int w64) (tcons (ty_int w64) (tcons (ty_array (ty_int w8) n) tnil)))

abbrev pub fact : Type 0 → Fml
fact φ = fex φ (λ _. ftrue)

-- room for a block of n bytes at p, and the right, t's, to free it
abbrev pub room_owns : (Ty → Ptr → Fml) → Ptr → ℕ → Fml
room_owns t p n = fsep (fact (IsTileLength n)) (owned_block t (block_type n) p)

-- the right to free a block of the global allocator, of which there is one
abbrev pub frees : Ty → Ptr → Fml
frees = ghosts.dealloc_token (record { memory = record { seal = tt } })

-- every byte is written
abbrev pub IsWritten : List ℕ → List Bool → Type 0
IsWritten xs fs = Filled fs 0 (length xs)

-- where the bytes of the block at p begin
abbrev pub bytes_at : Ptr → Ptr
bytes_at (block_ptr b o) = block_ptr b (16 + o)
bytes_at null_ptr = null_ptr

module _ (b o : ℕ) where
  abbrev pub count : ℕ → Fml
  count k = fat full_share (ty_int w64) b o (vint w64 k)

  abbrev pub size : ℕ → Fml
  size n = fat full_share (ty_int w64) b (8 + o) (vint w64 n)

  -- the three parts, given back empty, make the whole block
  abbrev pub rejoins : ℕ → Fml
  rejoins n = fwand (fsep (froom (ty_int w64) b o) (fsep (froom (ty_int w64) b (8 + o)) (froom (ty_array (ty_int w8) n) b (16 + o)))) (froom (block_type n) b o)

  -- the right to free the block
  abbrev pub freed_by : ℕ → Fml
  freed_by n = fsep (fact (IsTileLength n)) (fsep (frees (block_type n) (block_ptr b o)) (rejoins n))

-- a block without its bytes: k owners, and n bytes
abbrev pub frame_owns : Ptr → ℕ → ℕ → Fml
frame_owns (block_ptr b o) k n = fsep (count b o k) (fsep (size b o n) (freed_by b o n))
frame_owns null_ptr k n = ffalse

-- a whole block: k owners, and the bytes, of which fs says which are written
abbrev pub block_owns : Ptr → ℕ → List ℕ → List Bool → Fml
block_owns (block_ptr b o) k xs fs = fsep (frame_owns (block_ptr b o) k (length xs)) (fsep (fact (length fs ≡ length xs)) (slots u8 (block_ptr b (16 + o)) xs fs))
block_owns null_ptr k xs fs = ffalse
