-- `load` is one step on the count, through a `&`.
use Rattle.tile_cow.proofs.Names.{use0, ℕ, ◌^◌, List, [], ◌∷◌, refl, ap, lit<, w64, named, Val, vint, vptr, SProp, id⊢, never, via, Lft, Share, Fml, ftrue, flft, fhide, ‵, raw, ◌⊛◌, mean, at_ret, ◌$◌, ◌∵◌, !, qed, by, move, keep, drop, use1, use2, split, join, fsplit, fsplit3, fjoin, fpick, feq_i, flt_i, whole, sub, agg, look_in, stop, fld, load, lit, of_opd, no_more, and_then, first, blocks, exec, returns, enter, Calls-last, alloc_all, pass_all, free_all, look_at, get, through, is, sets, lands_last, env, tables, RattleType, owns, RefOf, plain, types_at, Ptr, block_ptr, ptr_val, in_a_block, nothing, Stays, stay_dropped, walk_of, Goes-dropped, after, proved, leaves, shr_vals, shr_Tells, fm, seq_cst, found, finds, loads, fact, fact_i, emp, ◌<◌}
use base.Share
use denote.Memory.{hidden_shr}
use denote.Opens.{unhide}
use types.Tokens.{shr_bor-open, obor_close}
use types.Within.{tokens_halve}
use Rattle.tile_cow.specs.Owner.{content, owner_lends}
use Rattle.tile_cow.specs.contracts.owner.Owner as Owner
use Rattle.tile_cow.specs.contracts.owner.Owner.load.{ended, clauses, signature}
use Rattle.tile_cow.specs.contracts.owner.Owner.load.Key.{name as #self}
use Rattle.tile_cow.proofs.Fields.{Pointer, reads, reads_back}
use Rattle.tile_cow.proofs.Steps as steps
use Rattle.tile_cow.proofs.owner.Owner.load.Statement.{statement}
use Rattle.tile_cow.proofs.owner.Owner.load.Code as code

pub load_spec : {M : Type 1} → statement M
load_spec 𝓤 𝓛 𝓜 𝓡 wired =
    let c = clauses 𝓛 𝓜.mem 𝓡.returns in let 𝓣 = tables 𝓤 𝓛.H 𝓜 𝓡 𝓡.env in let O : RattleType = Owner.the_row in let fn = code.function in let self = RefOf (0 ∷ []) tt (plain (λ _. O)) (λ _. tt) in
    let hs : Stays signature.params ended.kept = (stay_dropped self ended.kept.0, tt) in
    proved 𝓛 ended hs c 𝓜 𝓡 (Goes-dropped 𝓛 1 self ended.kept.0 (λ κs x f. refl), tt) #self fn (code.unfolded 𝓤 𝓛.H 𝓜 𝓡 wired)
    (λ κs. (shr_vals, tt)) (λ κs. (shr_Tells (named 0) κs.0 O, tt)) (λ κs qs bounds a gh are.
    let b : ℕ = a.0.ref_ptr.0 in let o : ℕ = a.0.ref_ptr.1 in let κ : Lft = κs.0 in let q : Share = qs.0 in let p : Ptr = a.0.now.words in let xs : List ℕ = a.0.now.bytes in let ν = Owner.the_type.name in
    let y : (walk_of 𝓛 ended hs c).Ghost = ((κs, qs, bounds, a, (vptr b o ∷ [], tt)), gh) in let Post : Val → SProp 𝓤 = (walk_of 𝓛 ended hs c).post y in
    qed 𝓛 (((‵ (flft κ q) ⊛ ‵ ftrue) ⊛ ‵ (owns (types_at signature.params κs) a y.0.4)) ∷ ‵ ftrue ∷ []) ∵
    split ! $ split ! $ move ! (2 ∷ []) $ fsplit ! $ fsplit ! $ keep ! (1 ∷ 3 ∷ []) $
    use1 𝓛 (‵ (hidden_shr (Pointer ν) κ (p, tt) b o) ⊛ ‵ (fhide (owner_lends p xs κ))) (id⊢ 𝓤 _) $ split ! $ move ! (1 ∷ []) $ unhide ! $
    in_a_block ! p (λ r. owner_lends r xs κ) (id⊢ 𝓤 (never 𝓤)) (λ b' o' at. fpick ! (λ i. fsplit3 ! $
    let P : Fml = content b' o' xs in let m : Ptr = block_ptr b' o' in
    -- [the share of the token; the invariant; what is lent; the pointer; the token of the `&`]
    move ! (4 ∷ []) $ use1 𝓛 (‵ (flft κ (Share.left q)) ⊛ ‵ (flft κ (Share.right q))) (𝓛.lfts.lft_split κ q) $ split ! $
    enter ! _ _ _ (vptr b o ∷ []) Post $ alloc_all ! (λ l. pass_all ! refl ((tt, tt), tt) $ let Ev = env fn.locals l in
    move ! (2 ∷ 0 ∷ []) $ shr_bor-open ! tt (tokens_halve 𝓛 (i ∷ [])) (λ s. let then : ℕ → Fml = steps.after_look P b' o' i s in
    -- [the open share; its token; a half; the invariant; what is lent; the pointer]
    first ! $ blocks ! $ move ! (5 ∷ 2 ∷ []) $ reads ν p ! tt b o (λ q'.
    sets ! (is ! (of_opd ! (load ! (through ! refl (fld ! refl (stop !))) (look_in ! 0 (sub ! 0 refl (whole !))))) (ap ptr_val at)) refl (tt, tt) $ reads_back ν p ! tt b o q' $
    -- [a half; the open share; its token; the invariant; what is lent]
    move ! (3 ∷ 2 ∷ []) $ use2 𝓛 (raw (𝓣.C _ (vptr b' o' ∷ seq_cst ∷ []) (λ u. mean 𝓛 (found then u)))) (via 𝓤 _ (steps.looks P b' o' i 𝓛 s) (loads 𝓛 𝓜 𝓡 (code.calls-core::raw_atomic::load 𝓡.env wired) m then)) $
    sets ! (agg ! (and_then ! (lit ! tt) (no_more !))) refl (tt, (record { fits = lit< tt }, tt)) $
    Calls-last ! (fm 𝓛 𝓜 𝓡) (found then) (and_then ! (get ! refl) (and_then ! (get ! refl) (no_more !))) (λ u. finds ! then (λ n fits.
    lands_last ! refl (tt, record { fits = fits }) $ exec ! 𝓣.C 𝓣.Λ Ev (after 1 fn.body) (at_ret Ev Post) $ sets ! (of_opd ! (get ! refl)) refl (tt, record { fits = fits }) $
    -- [its token; a half; the open share; what is lent]
    fsplit ! $ move ! (1 ∷ []) $ fpick ! (λ positive. drop ! $ move ! (2 ∷ 0 ∷ []) $ obor_close ! tt $ drop ! $ move ! (0 ∷ 1 ∷ []) $ use2 𝓛 (‵ (flft κ q)) (𝓛.lfts.lft_join κ q) $
    nothing ! $ move ! (1 ∷ 0 ∷ []) $ join ! $ use0 𝓛 (raw (fact 𝓤 (0 < n))) (fact_i 𝓤 (0 < n) (emp 𝓤) positive) $ nothing ! $ nothing ! $ fjoin ! $ flt_i ! n (2 ^ 64) fits $ feq_i ! (List Val) (vint w64 n ∷ []) (vint w64 n ∷ []) refl $ fjoin ! $
    -- [the result; nothing left; the fact; the tokens]
    returns ! (look_at ! 0 refl) $ free_all ! refl $ keep ! (3 ∷ 1 ∷ 0 ∷ 2 ∷ []) $ by ! (leaves 𝓛 ended hs c y (vint w64 n) n (tt, tt) (tt, tt)))))))))))
