-- The machine values of the crate's structs. Assumes `Logic`.
use Rattle.std.proofs.Common.{◌≡◌, ℕ, ◌^◌, ◌<◌, List, [], ◌∷◌, ◌++◌, refl, subst, ◌∙◌, lit<}
use seplogic.Ra.Ura.{Ura}
use mir.Raw.{raw as bare}
use mir.Syntax.{Sym, Ty, w64, ty_int, ty_ptr, ty_struct, tcons, tnil}
use mir.Val.{Val, vint, vstruct, vcons, vnil, of_list}
use base.Logic.{ent, emp}
use base.Fml.{Lft, Share, Fml, fat, flft}
use types.Logic.{Logic, sem}
use types.Kit.{Item, Goal, Seq, Step, Soaks, step, ‵, ◌$◌, move, drop, use1, rewrite, fsplit, fjoin, fpick, fpack, feq_i, feq_l, flt_i, flt_l}
use denote.Builtin.{u64}
use denote.Copied.{Copied, plain_Copied, Struct-Copied, uint_Copied}
use denote.Memory.{cell_at, part_at, hidden_shr}
use denote.Opens.{Shut}
use denote.RattleType.{RattleType, Valss}
use denote.RawPtr.{Ptr, RawPtr, block_ptr, null_ptr, ptr_val, coded_ptr, ptr_own, rawptr_pure}
use denote.Shadow.{shadow, makes_shadow}
use denote.Steps.{nothing, looks, shuts}
use denote.Struct.Laws.{RawPtr-laws}
use denote.Struct.Struct.{Shape, Struct, within}
use Rattle.core.proofs.cell.Inside.{Good}

-- a struct by its fields alone: what it owns does not read its name
abbrev plainly : List RattleType → RattleType
plainly Rs = Struct (record { name = []; args = []; types = []; fields = Rs })

-- a struct of one pointer
abbrev pub pointer : Ptr → Val
pointer p = vstruct (vcons (ptr_val p) vnil)

abbrev pub pointer_own : Ptr → List Val → Fml
pointer_own p = (plainly (RawPtr ∷ [])).own_val (p, tt)

pub pointer_told : (p : Ptr) (vs : List Val) → shadow (pointer_own p vs) → vs ≡ pointer p ∷ []
pointer_told p vs s = s.1.0 ∙ (λ i. vstruct (of_list (s.1.1.0 i ++ [])) ∷ [])

pub pointer_made : {M : Type 1} {𝓤 : Ura M} (𝓛 : Logic 𝓤) (p : Ptr) → ent 𝓤 (emp 𝓤) (sem 𝓛 (pointer_own p (pointer p ∷ [])))
pointer_made 𝓛 p = makes_shadow 𝓛 (pointer_own p (pointer p ∷ [])) (λ _. (tt, (tt, tt))) ((ptr_val p ∷ [], tt), (refl, (refl, tt)))

pub pointer_good : (ν : Sym) (p : Ptr) → Good (ty_struct ν (tcons ty_ptr tnil)) (pointer p)
pointer_good ν (block_ptr b o) = (tt, (tt, tt))
pointer_good ν null_ptr = (tt, (record { fits = lit< tt }, tt))

pub ptr_good : (p : Ptr) → Good ty_ptr (ptr_val p)
ptr_good (block_ptr b o) = (tt, tt)
ptr_good null_ptr = (tt, record { fits = lit< tt })

-- a struct of one pointer and a marker
abbrev pub marked : Ptr → Val
marked p = vstruct (vcons (ptr_val p) (vcons (vstruct vnil) vnil))

abbrev pub marked_own : Ptr → List Val → Fml
marked_own p = (plainly (RawPtr ∷ plainly [] ∷ [])).own_val (p, (tt, tt))

pub marked_told : (p : Ptr) (vs : List Val) → shadow (marked_own p vs) → vs ≡ marked p ∷ []
marked_told p vs s = s.1.0 ∙ (λ i. vstruct (of_list (s.1.1.0 i ++ (s.1.1.1.0.1.0 i ++ []))) ∷ [])

pub marked_made : {M : Type 1} {𝓤 : Ura M} (𝓛 : Logic 𝓤) (p : Ptr) → ent 𝓤 (emp 𝓤) (sem 𝓛 (marked_own p (marked p ∷ [])))
marked_made 𝓛 p = makes_shadow 𝓛 (marked_own p (marked p ∷ [])) (λ _. (tt, (tt, ((λ _. (tt, tt)), tt)))) ((ptr_val p ∷ [], (vstruct vnil ∷ [], tt)), (refl, (refl, ((tt, (refl, tt)), tt))))

pub marked_good : (p : Ptr) → Good (ty_struct [] (tcons ty_ptr (tcons (ty_struct [] tnil) tnil))) (marked p)
marked_good (block_ptr b o) = (tt, (tt, (tt, tt)))
marked_good null_ptr = (tt, (record { fits = lit< tt }, (tt, tt)))

-- a struct of one pointer behind a `&`
module _ (ν : Sym) where
  abbrev one_field : Shape
  one_field = record { name = ν; args = []; types = []; fields = RawPtr ∷ [] }

  abbrev pub Pointer : RattleType
  Pointer = Struct one_field

  abbrev pub pointer_ty : Ty
  pointer_ty = ty_struct ν (tcons ty_ptr tnil)

  module _ (c : Ptr) {M : Type 1} {𝓤 : Ura M} {𝓛 : Logic 𝓤} {K : Type 0} {Γ : List (Item 𝓤)} {G : Goal 𝓤 𝓛.H} where
    -- [the pointer; what shuts]
    pub reads : K → Soaks G → {κ : Lft} {q : Share} (b o : ℕ) → ((q' : Share) → Seq K 𝓛 (‵ (fat q' pointer_ty b o (pointer c)) ∷ Shut 𝓛 κ q (part_at Pointer q' (c, tt) b o) ∷ Γ) G)
        → Seq K 𝓛 (‵ (hidden_shr Pointer κ (c, tt) b o) ∷ ‵ (flft κ q) ∷ Γ) G
    reads t z b o k =
        let raw_copied : Copied 𝓛 RawPtr = plain_Copied 𝓛 Ptr coded_ptr (ty_ptr ∷ []) ptr_own rawptr_pure ptr_val RawPtr-laws.tells in
        let copied : Copied 𝓛 Pointer = Struct-Copied 𝓛 one_field (refl, tt) (raw_copied, tt) in
        looks t z Pointer copied.opens (c, tt) b o (λ q' vs. move t (3 ∷ []) $ drop t $ move t (1 ∷ []) $ fpick t (λ vss. fsplit t $ feq_l t (λ ev. fsplit t $ feq_l t (λ e. drop t $
        rewrite t 0 (λ (us : List Val). ‵ (cell_at q' (pointer_ty ∷ []) us b o)) (subst (λ (ws : List Val). vs ≡ vstruct (of_list (ws ++ [])) ∷ []) e ev) refl $
        use1 𝓛 (‵ (fat q' pointer_ty b o (pointer c))) (𝓛.laws.raw_at q' pointer_ty b o (pointer c)) $ k q'))))

    pub reads_back : K → Soaks G → {κ : Lft} {q : Share} (b o : ℕ) (q' : Share)
        → Step K 𝓛 (‵ (flft κ q) ∷ Γ) G (‵ (fat q' pointer_ty b o (pointer c)) ∷ Shut 𝓛 κ q (part_at Pointer q' (c, tt) b o) ∷ Γ) G
    reads_back t z b o q' = step (λ s.
        use1 𝓛 (‵ (fat q' (bare pointer_ty) b o (pointer c))) (𝓛.laws.at_raw q' pointer_ty b o (pointer c)) $
        nothing t $ feq_i t (List Val) (ptr_val c ∷ []) (ptr_val c ∷ []) refl $ fjoin t $ feq_i t (List Val) (pointer c ∷ []) (pointer c ∷ []) refl $ fjoin t $
        fpack t (Valss (RawPtr ∷ [])) (within one_field (c, tt) (pointer c ∷ [])) (ptr_val c ∷ [], tt) $ move t (1 ∷ 0 ∷ []) $ shuts t z Pointer q' (c, tt) (pointer c ∷ []) b o $ s)

-- a `u64` that is lent
module _ (n : ℕ) {M : Type 1} {𝓤 : Ura M} {𝓛 : Logic 𝓤} {K : Type 0} {Γ : List (Item 𝓤)} {G : Goal 𝓤 𝓛.H} where
  -- [the word; what shuts]
  pub size_reads : K → Soaks G → {κ : Lft} {q : Share} (b o : ℕ) → ((q' : Share) → n < 2 ^ 64 → Seq K 𝓛 (‵ (fat q' (ty_int w64) b o (vint w64 n)) ∷ Shut 𝓛 κ q (part_at u64 q' n b o) ∷ Γ) G)
      → Seq K 𝓛 (‵ (hidden_shr u64 κ n b o) ∷ ‵ (flft κ q) ∷ Γ) G
  size_reads t z b o k = looks t z u64 (uint_Copied 𝓛 w64).opens n b o (λ q' vs. move t (3 ∷ []) $ drop t $ move t (1 ∷ []) $ fsplit t $ feq_l t (λ e. flt_l t (λ small.
      rewrite t 0 (λ (us : List Val). ‵ (cell_at q' (ty_int w64 ∷ []) us b o)) e refl $ k q' small)))

  pub size_reads_back : K → Soaks G → {κ : Lft} {q : Share} (b o : ℕ) (q' : Share) → n < 2 ^ 64
      → Step K 𝓛 (‵ (flft κ q) ∷ Γ) G (‵ (fat q' (ty_int w64) b o (vint w64 n)) ∷ Shut 𝓛 κ q (part_at u64 q' n b o) ∷ Γ) G
  size_reads_back t z b o q' small = step (λ s.
      flt_i t n (2 ^ 64) small $ feq_i t (List Val) (vint w64 n ∷ []) (vint w64 n ∷ []) refl $ fjoin t $ move t (1 ∷ 0 ∷ []) $ shuts t z u64 q' n (vint w64 n ∷ []) b o $ s)
