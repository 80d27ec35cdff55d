-- A whole block becomes one that an owner shares, and comes back from the last owner. Assumes `Logic`.
use mathlib.Core.Path.{◌≡◌, refl}
use mathlib.Core.Bool.{Bool, true, false}
use mathlib.Core.List.{List, [], ◌∷◌}
use Prim.Native.Nat.{ℕ, ◌+◌}
use lib.ListN.{length, replicate, length-replicate, get_or-replicate}
use seplogic.Ra.Ura.{Ura}
use base.Fraction.{full_share}
use base.Logic.{ent, sep}
use base.Fml.{ftrue, flft, Incl-refl}
use types.Logic.{Logic, sem}
use types.Kit.{‵, ◌⊛◌, later, ◌$◌, ◌∵◌, !, qed, move, keep, drop, use0, use1, use2, split, fsplit, fsplit3, fjoin, fjoin3, fpick, fpack, await, updating, now, done}
use denote.Builtin.{u8, u64}
use denote.Array.{Array}
use denote.Memory.{part_at}
use denote.RawPtr.{block_ptr}
use denote.Steps.{nothing}
use Rattle.core.specs.Mem.Slots.Ownership.{slots}
use Rattle.core.proofs.mem.Param.{El}
use Rattle.core.proofs.slots.Runs.{to_values, of_values}
use Rattle.core.proofs.tally.Steps.{word_out, word_in}
use Rattle.std_alloc.proofs.ArcSteps.{counted}
use Rattle.tile_cow.specs.Block.{IsWritten, count, size, block_owns}
use Rattle.tile_cow.specs.Owner.{content, lent, owner_has}
use Rattle.tile_cow.proofs.Rows.{byte_laws, lent_laws, content_lends}

abbrev pub Byte : El
Byte = record { row = u8; laws = byte_laws }

abbrev pub written : List ℕ → List Bool
written xs = replicate (length xs) true

pub is_written : (xs : List ℕ) → IsWritten xs (written xs)
is_written xs = λ k low high. get_or-replicate (length xs) k true false high

module _ {M : Type 1} {𝓤 : Ura M} (𝓛 : Logic 𝓤) (b o : ℕ) (xs : List ℕ) where
  open 𝓛 use {H}

  pub starts : (fs : List Bool) → IsWritten xs fs → ent 𝓤 (sem 𝓛 (block_owns (block_ptr b o) 1 xs fs)) (H.⇛ (sem 𝓛 (owner_has (block_ptr b o) xs)))
  starts fs full = let n = length xs in let P = content b o xs in
      qed 𝓛 (‵ (block_owns (block_ptr b o) 1 xs fs) ∷ []) ∵ updating ! $ fsplit3 ! $ move ! (1 ∷ []) $ fpick ! (λ long. drop ! $ move ! (1 ∷ []) $
      use1 𝓛 (‵ (part_at (Array u8 n) full_share xs b (16 + o))) (to_values Byte 𝓛 b (16 + o) n xs refl fs long full) $
      move ! (1 ∷ []) $ fsplit3 ! $ move ! (1 ∷ []) $ use1 𝓛 (‵ (part_at u64 full_share n b (8 + o))) (word_in 𝓛 b (8 + o) n) $
      -- [the length; the count; the right to free; the bytes]
      move ! (0 ∷ 3 ∷ []) $ fjoin ! $ move ! (0 ∷ 2 ∷ []) $ fjoin ! $ move ! (1 ∷ 0 ∷ []) $ fjoin ! $
      use0 𝓛 (‵ (flft [] full_share)) (𝓛.lfts.lft-nil full_share) $ move ! (1 ∷ 0 ∷ []) $
      use2 𝓛 (later (‵ (owner_has (block_ptr b o) xs) ⊛ ‵ (flft [] full_share)))
      (counted P b o (lent b o xs) (lent_laws b o xs) 𝓛 [] (content_lends 𝓛 b o xs) [] full_share (Incl-refl [])) $ await ! tt $ split ! $ keep ! (0 ∷ []) $ now ! $ done !)

  pub whole_again : (k : ℕ) → ent 𝓤 (sep 𝓤 (sem 𝓛 (count b o k)) (sem 𝓛 (content b o xs))) (sem 𝓛 (block_owns (block_ptr b o) k xs (written xs)))
  whole_again k = let n = length xs in
      qed 𝓛 (‵ (count b o k) ∷ ‵ (content b o xs) ∷ []) ∵ move ! (1 ∷ []) $ fsplit ! $ fsplit ! $ use1 𝓛 (‵ (size b o n)) (word_out 𝓛 b (8 + o) n) $ move ! (1 ∷ []) $
      use1 𝓛 (‵ (slots u8 (block_ptr b (16 + o)) xs (written xs))) (of_values Byte 𝓛 b (16 + o) n xs refl) $
      nothing ! $ fpack ! (length (written xs) ≡ n) (λ _. ftrue) (length-replicate n true) $ move ! (4 ∷ 2 ∷ 3 ∷ []) $ fjoin3 ! $ move ! (0 ∷ 1 ∷ 2 ∷ []) $ fjoin3 ! $ done !
