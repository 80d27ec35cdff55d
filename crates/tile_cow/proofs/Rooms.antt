-- Room for a block is cut into its three parts, which give the room back. Assumes `Logic`.
use mathlib.Core.Path.{◌≡◌, refl}
use mathlib.Core.List.{[], ◌∷◌}
use Prim.Native.Nat.{ℕ, zero, ◌+◌}
use native.Mathlib.Omega.{arith}
use seplogic.Ra.Ura.{Ura}
use mir.Syntax.{Tys, tnil, tcons, w8, w64, ty_int, ty_array}
use base.Logic.{SProp, ent, sep, wand, apply∗}
use base.Fml.{ftrue, froom}
use prog.Model.{rooms_at}
use types.Logic.{Logic, sem}
use types.Kit.{‵, raw, ◌⊛◌, ◌$◌, ◌∵◌, !, qed, by, move, keep, group, use1, split, split3, rewrite, assume, done}
use denote.Steps.{nothing}
use Rattle.tile_cow.specs.Block.{block_type, rejoins}

abbrev parts : ℕ → Tys
parts n = tcons (ty_int w64) (tcons (ty_int w64) (tcons (ty_array (ty_int w8) n) tnil))

module _ {M : Type 1} {𝓤 : Ura M} (𝓛 : Logic 𝓤) (b o n : ℕ) where
  open 𝓛 use {H}

  abbrev Rooms : SProp 𝓤
  Rooms = rooms_at 𝓤 H (parts n) zero b o

  abbrev Joins : SProp 𝓤
  Joins = wand 𝓤 Rooms (H.room (block_type n) b o)

  joins : ent 𝓤 Joins (sem 𝓛 (rejoins b o n))
  joins = qed 𝓛 (raw Joins ∷ []) ∵ assume ! (‵ (froom (ty_int w64) b o) ⊛ ‵ (froom (ty_int w64) b (8 + o)) ⊛ ‵ (froom (ty_array (ty_int w8) n) b (16 + o))) $ split3 ! $
      rewrite ! 0 (λ (d : ℕ). ‵ (froom (ty_int w64) b d)) (let e : o ≡ o + 0 = omega arith in e) refl $
      rewrite ! 1 (λ (d : ℕ). ‵ (froom (ty_int w64) b d)) (let e : 8 + o ≡ o + 8 = omega arith in e) refl $
      rewrite ! 2 (λ (d : ℕ). ‵ (froom (ty_array (ty_int w8) n) b d)) (let e : 16 + o ≡ o + 16 = omega arith in e) refl $
      nothing ! $ move ! (1 ∷ 2 ∷ 3 ∷ 0 ∷ []) $ group ! 4 $ by ! (apply∗ 𝓤 Rooms (H.room (block_type n) b o))

  pub room_parts : ent 𝓤 (H.room (block_type n) b o) (sep 𝓤 (H.room (ty_int w64) b o) (sep 𝓤 (H.room (ty_int w64) b (8 + o)) (sep 𝓤 (H.room (ty_array (ty_int w8) n) b (16 + o)) (sem 𝓛 (rejoins b o n)))))
  room_parts = qed 𝓛 (‵ (froom (block_type n) b o) ∷ []) ∵
      use1 𝓛 ((‵ (froom (ty_int w64) b (o + 0)) ⊛ ‵ (froom (ty_int w64) b (o + 8)) ⊛ ‵ (froom (ty_array (ty_int w8) n) b (o + 16)) ⊛ ‵ ftrue) ⊛ raw Joins) (𝓛.laws.room_fields [] (parts n) b o) $
      split ! $ split ! $ move ! (1 ∷ []) $ split3 ! $ move ! (4 ∷ 3 ∷ 0 ∷ 1 ∷ []) $
      use1 𝓛 (‵ (rejoins b o n)) joins $ move ! (1 ∷ 2 ∷ 3 ∷ 0 ∷ []) $
      rewrite ! 0 (λ (d : ℕ). ‵ (froom (ty_int w64) b d)) (let e : o + 0 ≡ o = omega arith in e) refl $
      rewrite ! 1 (λ (d : ℕ). ‵ (froom (ty_int w64) b d)) (let e : o + 8 ≡ 8 + o = omega arith in e) refl $
      rewrite ! 2 (λ (d : ℕ). ‵ (froom (ty_array (ty_int w8) n) b d)) (let e : o + 16 ≡ 16 + o = omega arith in e) refl $
      keep ! (0 ∷ 1 ∷ 2 ∷ 3 ∷ []) $ done !
