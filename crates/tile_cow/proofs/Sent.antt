-- An owner may cross threads, and so may a `&` to one: its bytes may, and the right to free them names no thread.
use mathlib.Core.Bool.{Bool, true, false}
use mathlib.Core.List.{List, [], ◌∷◌}
use Prim.Native.Nat.{ℕ, ◌+◌}
use lib.ListN.{length}
use base.Fraction.{full_share}
use base.Fml.{Lft}
use base.Shift.{Keyless}
use denote.Builtin.{RawPtr, u8, u64}
use denote.Array.{Array}
use denote.RawPtr.{Ptr, block_ptr, null_ptr}
use denote.Struct.Struct.{exits_of}
use denote.Struct.Owning.{shape, fields, to}
use denote.Param.Send.{IsSend, IsSync, AllSend, part_keyless, owning_send, struct_send, struct_sync, sendable}
use Rattle.core.specs.Thread.Scope.{refcount_if_alive}
use Rattle.std.proofs.Crossing as Crossing
use Rattle.std_alloc.proofs.SendSync.{seen, quiet}
use Rattle.tile_cow.specs.Block.{block_type}
use Rattle.tile_cow.specs.Owner.{content, lent, owner_has, owner_lends}
use Rattle.tile_cow.specs.contracts.owner.Owner as Owner

ps : IsSend RawPtr
ps = search sendable

py : IsSync RawPtr
py = search sendable

size_send : IsSend u64
size_send = search sendable

size_sync : IsSync u64
size_sync = search sendable

bytes_send : (n : ℕ) → IsSend (Array u8 n)
bytes_send n = search sendable

bytes_sync : (n : ℕ) → IsSync (Array u8 n)
bytes_sync n = search sendable

content_keyless : (b o : ℕ) (xs : List ℕ) → Keyless (content b o xs)
content_keyless b o xs = let n = length xs in
    ((part_keyless u64 size_send full_share n b (8 + o), part_keyless (Array u8 n) (bytes_send n) full_share xs b (16 + o)), ((λ _. tt), (Crossing.frees.frees (record { memory = record { seal = tt } }) (block_type n) (block_ptr b o), ((tt, (tt, tt)), tt))))

lent_common : (b o : ℕ) (xs : List ℕ) (κ : Lft) → Keyless (lent b o xs κ)
lent_common b o xs κ = (seen u64 size_sync (block_ptr b (8 + o)) (length xs) κ, seen (Array u8 (length xs)) (bytes_sync (length xs)) (block_ptr b (16 + o)) xs κ)

counts : (b o : ℕ) (xs : List ℕ) (a : ℕ) (y : Bool) → Keyless (refcount_if_alive (content b o xs) b o a y)
counts b o xs a true = λ n. (tt, ((λ r c. tt), content_keyless b o xs))
counts b o xs a false = tt

has_keyless : (p : Ptr) (xs : List ℕ) → Keyless (owner_has p xs)
has_keyless (block_ptr b o) xs = λ a. ((λ u c. tt), (counts b o xs a, lent_common b o xs (a ∷ [])))
has_keyless null_ptr xs = tt

lends_keyless : (p : Ptr) (xs : List ℕ) (κ : Lft) → Keyless (owner_lends p xs κ)
lends_keyless (block_ptr b o) xs κ = λ a. ((λ r. tt), (counts b o xs a, lent_common b o xs (a ∷ [])))
lends_keyless null_ptr xs κ = tt

pub owner_send : IsSend Owner.the_row
owner_send = let O = Owner.the_type in let all : AllSend (fields O) = (ps, tt) in
    owning_send O all (λ d. has_keyless d.words d.bytes) (λ k. quiet (to O) (exits_of k (fields O)) ((struct_send (shape O) all).leaving k))

pub owner_sync : IsSync Owner.the_row
owner_sync = record { shared = λ d b o κ. ((struct_sync (shape Owner.the_type) (py, tt)).shared (to Owner.the_type d) b o κ, lends_keyless d.words d.bytes κ) }
