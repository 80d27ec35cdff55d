-- `bytes` reads the length, and lends the bytes after it.
use Rattle.tile_cow.proofs.Names.{◌≡◌, ℕ, ◌+◌, ◌*◌, ◌^◌, List, [], ◌∷◌, length, refl, ap, w64, arith, named, Val, vint, vptr, WT, SProp, emp, id⊢, never, Lft, Share, Fml, ftrue, flft, fhide, ‵, raw, ◌⊛◌, at_ret, ◌$◌, ◌∵◌, !, qed, by, move, keep, drop, use0, use1, split, join, fsplit, fjoin, feq_i, flt_i, whole, sub, agg, look_in, stop, fld, load, lit, of_opd, bin, look, no_more, and_then, first, blocks, exec, returns, enter, alloc_all, pass_all, free_all, look_at, get, through, is, sets, sets_last, env, fact, fact_i, tables, RattleType, owns, RefOf, u8, plain, types_at, Ptr, ptr_val, in_a_block, heard, nothing, Stays, stay_dropped, walk_of, Goes-dropped, after, proved, leaves, shr_vals, shr_Tells}
use denote.Memory.{hidden_shr}
use denote.Opens.{hide, unhide}
use denote.Slice.{ShrSlice, slice_val, elements_shared}
use Rattle.std_alloc.proofs.ArcSteps.{arc_sees}
use Rattle.tile_cow.specs.Tile.{IsTileLength}
use Rattle.tile_cow.proofs.Rows.{lent_laws}
use Rattle.tile_cow.specs.Owner.{content, lent, owner_lends}
use Rattle.tile_cow.specs.contracts.owner.Owner as Owner
use Rattle.tile_cow.specs.contracts.owner.Owner.bytes.{ended, clauses, signature}
use Rattle.tile_cow.specs.contracts.owner.Owner.bytes.Key.{name as #self}
use Rattle.tile_cow.proofs.Fields.{Pointer, reads, reads_back, size_reads, size_reads_back}
use Rattle.tile_cow.proofs.owner.Owner.bytes.Statement.{statement}
use Rattle.tile_cow.proofs.owner.Owner.bytes.Code as code

pub bytes_spec : {M : Type 1} → statement M
bytes_spec 𝓤 𝓛 𝓜 𝓡 wired =
    let c = clauses 𝓛 𝓜.mem 𝓡.returns in let 𝓣 = tables 𝓤 𝓛.H 𝓜 𝓡 𝓡.env in let O : RattleType = Owner.the_row in let fn = code.function in let self = RefOf (0 ∷ []) tt (plain (λ _. O)) (λ _. tt) in
    let hs : Stays signature.params ended.kept = (stay_dropped self ended.kept.0, tt) in
    proved 𝓛 ended hs c 𝓜 𝓡 (Goes-dropped 𝓛 1 self ended.kept.0 (λ κs x f. refl), tt) #self fn (code.unfolded 𝓤 𝓛.H 𝓜 𝓡 wired)
    (λ κs. (shr_vals, tt)) (λ κs. (shr_Tells (named 0) κs.0 O, tt)) (λ κs qs bounds a gh are.
    let b : ℕ = a.0.ref_ptr.0 in let o : ℕ = a.0.ref_ptr.1 in let κ : Lft = κs.0 in let q : Share = qs.0 in let p : Ptr = a.0.now.words in let xs : List ℕ = a.0.now.bytes in let ν = Owner.the_type.name in let n : ℕ = length xs in
    let y : (walk_of 𝓛 ended hs c).Ghost = ((κs, qs, bounds, a, (vptr b o ∷ [], tt)), gh) in let Post : Val → SProp 𝓤 = (walk_of 𝓛 ended hs c).post y in
    qed 𝓛 (((‵ (flft κ q) ⊛ ‵ ftrue) ⊛ ‵ (owns (types_at signature.params κs) a y.0.4)) ∷ raw (fact 𝓤 (IsTileLength n)) ∷ []) ∵
    move ! (1 ∷ []) $ heard ! _ (λ long. split ! $ split ! $ move ! (2 ∷ []) $ fsplit ! $ fsplit ! $ keep ! (1 ∷ 3 ∷ []) $
    use1 𝓛 (‵ (hidden_shr (Pointer ν) κ (p, tt) b o) ⊛ ‵ (fhide (owner_lends p xs κ))) (id⊢ 𝓤 _) $ split ! $ move ! (1 ∷ []) $ unhide ! $
    in_a_block ! p (λ r. owner_lends r xs κ) (id⊢ 𝓤 (never 𝓤)) (λ b' o' at. let P : Fml = content b' o' xs in
    use1 𝓛 (‵ (lent b' o' xs κ)) (arc_sees P b' o' (lent b' o' xs) (lent_laws b' o' xs) 𝓛 κ) $ fsplit ! $ fsplit ! $ drop ! $ hide ! $ move ! (1 ∷ []) $ fsplit ! $ drop ! $ fsplit ! $ drop ! $ hide ! $
    use1 𝓛 (‵ (fhide (elements_shared u8 xs b' (16 + o') κ))) (id⊢ 𝓤 _) $
    -- [the bytes; the length; the pointer; the token of the `&`]
    enter ! _ _ _ (vptr b o ∷ []) Post $ alloc_all ! (λ l. pass_all ! refl ((tt, tt), tt) $ let Ev = env fn.locals l in first ! $ blocks ! $
    move ! (2 ∷ 3 ∷ []) $ reads ν p ! tt b o (λ q'.
    sets ! (is ! (of_opd ! (load ! (through ! refl (fld ! refl (stop !))) (look_in ! 0 (sub ! 0 refl (whole !))))) (ap ptr_val at)) refl (tt, tt) $ reads_back ν p ! tt b o q' $
    sets ! (bin ! (get ! refl) (lit ! tt) tt) refl (tt, tt) $ move ! (2 ∷ 0 ∷ []) $ size_reads n ! tt b' (8 + o') (λ r small. let fits : WT (vint w64 n) = record { fits = small } in
    sets ! (of_opd ! (load ! (through ! refl (stop !)) (look ! 0 refl))) refl (tt, fits) $ size_reads_back n ! tt b' (8 + o') r small $
    sets ! (of_opd ! (get ! refl)) refl (tt, fits) $ sets ! (bin ! (get ! refl) (lit ! tt) tt) refl (tt, tt) $ sets ! (of_opd ! (get ! refl)) refl (tt, tt) $
    sets_last ! (agg ! (and_then ! (get ! refl) (and_then ! (get ! refl) (no_more !)))) refl (tt, (tt, (fits, tt))) $ exec ! 𝓣.C 𝓣.Λ Ev (after 1 fn.body) (at_ret Ev Post) $
    sets ! (of_opd ! (get ! refl)) refl (tt, (tt, (fits, tt))) $
    -- [the token of the `&`; the bytes]
    let at' : ℕ × ℕ = (b', 16 + o') in let v : Val = slice_val at' n in let few = long.1 in
    move ! (1 ∷ []) $ flt_i ! (n * 1) (2 ^ 63) (omega arith) $ flt_i ! n (2 ^ 64) small $ fjoin ! $ feq_i ! (List Val) (v ∷ []) (v ∷ []) refl $ fjoin ! $ fjoin ! $
    use1 𝓛 (‵ ((ShrSlice (named 0) κ u8).own_val (record { ref_ptr = at'; now = xs }) (v ∷ []))) (id⊢ 𝓤 _) $
    nothing ! $ move ! (2 ∷ 0 ∷ []) $ join ! $ nothing ! $ nothing ! $ fjoin ! $ use0 𝓛 (raw (fact 𝓤 (xs ≡ xs))) (fact_i 𝓤 (xs ≡ xs) (emp 𝓤) refl) $
    -- [the fact; nothing left; the tokens; the slice]
    returns ! (look_at ! 0 refl) $ free_all ! refl $ keep ! (2 ∷ 1 ∷ 3 ∷ 0 ∷ []) $ by ! (leaves 𝓛 ended hs c y v (record { ref_ptr = at'; now = xs }) (tt, tt) (tt, tt))))))))
