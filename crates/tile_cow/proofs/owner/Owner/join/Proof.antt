-- `join` is one step on the count, and makes an owner where it met the number that was seen.
use Rattle.tile_cow.proofs.Names.{◌≡◌, ℕ, ◌+◌, ◌^◌, ◌<◌, List, [], ◌∷◌, refl, ap, lit<, w64, arith, named, Val, vint, vptr, vcons, vnil, SProp, emp, id⊢, never, via, Lft, Share, Fml, ftrue, flft, finv, fhide, sem, ‵, raw, ◌⊛◌, mean, at_ret, ◌$◌, ◌∵◌, !, qed, by, move, keep, drop, use0, use1, use2, split, join, fsplit, fsplit3, fjoin, fjoin3, fpick, fpack, whole, sub, agg, look_in, stop, fld, load, lit, of_opd, bin, no_more, and_then, first, blocks, exec, returns, enter, branches, Calls-last, alloc_all, pass_all, free_all, look_at, get, through, is, sets, sets_last, lands_last, env, live, fact, fact_i, tables, RattleType, owns, RefOf, u64, plain, types_at, Ptr, block_ptr, ptr_val, in_a_block, uint_vals, uint_Tells, heard, nothing, Stays, stay_dropped, walk_of, Goes-dropped, after, proved, leaves, all_e, eqb→eq, shr_vals, shr_Tells, fm, found, finds, exchanges, Some, None, some_Good, Some-of, none_of}
use base.Share
use denote.Memory.{hidden_shr}
use denote.Param.{layout}
use types.RcWeak.{part}
use Rattle.core.specs.Thread.Scope.{refcount_invariant}
use Rattle.core.specs.contracts.option.Option as Opt
use Rattle.std_alloc.specs.Arc.Ownership.{owner_owns}
use denote.Opens.{unhide}
use types.Tokens.{shr_bor-open, obor_close}
use types.Within.{tokens_halve}
use Rattle.tile_cow.specs.Owner.{content, lent, owner_lends}
use Rattle.tile_cow.specs.contracts.owner.Owner as Owner
use Rattle.tile_cow.specs.contracts.owner.Owner.join.{ended, clauses, signature}
use Rattle.tile_cow.specs.contracts.owner.Owner.join.Key.{name as #self}
use Rattle.tile_cow.proofs.Fields.{pointer, pointer_own, pointer_made, pointer_good, Pointer, reads, reads_back}
use Rattle.tile_cow.proofs.Steps as steps
use Rattle.tile_cow.proofs.owner.Owner.join.Statement.{statement}
use Rattle.tile_cow.proofs.owner.Owner.join.Code as code

pub join_spec : {M : Type 1} → statement M
join_spec 𝓤 𝓛 𝓜 𝓡 wired =
    let c = clauses 𝓛 𝓜.mem 𝓡.returns in let 𝓣 = tables 𝓤 𝓛.H 𝓜 𝓡 𝓡.env in let O : RattleType = Owner.the_row in let fn = code.function in let self = RefOf (0 ∷ []) tt (plain (λ _. O)) (λ _. tt) in
    let hs : Stays signature.params ended.kept = (stay_dropped self ended.kept.0, (stay_dropped (plain (λ _. u64)) ended.kept.1.0, tt)) in
    proved 𝓛 ended hs c 𝓜 𝓡 (Goes-dropped 𝓛 1 self ended.kept.0 (λ κs x f. refl), (Goes-dropped 𝓛 1 (plain (λ _. u64)) ended.kept.1.0 (λ κs x f. refl), tt)) #self fn (code.unfolded 𝓤 𝓛.H 𝓜 𝓡 wired)
    (λ κs. (shr_vals, (uint_vals w64, tt))) (λ κs. (shr_Tells (named 0) κs.0 O, (uint_Tells w64, tt))) (λ κs qs bounds a gh are.
    let b : ℕ = a.0.ref_ptr.0 in let o : ℕ = a.0.ref_ptr.1 in let κ : Lft = κs.0 in let q : Share = qs.0 in let p : Ptr = a.0.now.words in let xs : List ℕ = a.0.now.bytes in let ν = Owner.the_type.name in let seen : ℕ = a.1.0 in let fits-seen : seen < 2 ^ 64 = are.1.0.1 in
    let y : (walk_of 𝓛 ended hs c).Ghost = ((κs, qs, bounds, a, (vptr b o ∷ [], (vint w64 seen ∷ [], tt))), gh) in let Post : Val → SProp 𝓤 = (walk_of 𝓛 ended hs c).post y in
    qed 𝓛 (((‵ (flft κ q) ⊛ ‵ ftrue) ⊛ ‵ (owns (types_at signature.params κs) a y.0.4)) ∷ raw (fact 𝓤 (seen < 2 ^ 40)) ∷ []) ∵
    move ! (1 ∷ []) $ heard ! _ (λ few. split ! $ split ! $ move ! (2 ∷ []) $ fsplit ! $ fsplit ! $ keep ! (1 ∷ 3 ∷ []) $
    use1 𝓛 (‵ (hidden_shr (Pointer ν) κ (p, tt) b o) ⊛ ‵ (fhide (owner_lends p xs κ))) (id⊢ 𝓤 _) $ split ! $ move ! (1 ∷ []) $ unhide ! $
    in_a_block ! p (λ r. owner_lends r xs κ) (id⊢ 𝓤 (never 𝓤)) (λ b' o' at. fpick ! (λ i. fsplit3 ! $
    let P : Fml = content b' o' xs in let m : Ptr = block_ptr b' o' in let I : Fml = refcount_invariant P b' o' i in
    -- [the share of the token; the invariant; what is lent; the pointer; the token of the `&`]
    move ! (4 ∷ []) $ use1 𝓛 (‵ (flft κ (Share.left q)) ⊛ ‵ (flft κ (Share.right q))) (𝓛.lfts.lft_split κ q) $ split ! $
    enter ! _ _ _ (vptr b o ∷ vint w64 seen ∷ []) Post $ alloc_all ! (λ l. pass_all ! refl ((tt, tt), ((tt, record { fits = fits-seen }), tt)) $ let Ev = env fn.locals l in
    move ! (2 ∷ 0 ∷ []) $ shr_bor-open ! tt (tokens_halve 𝓛 (i ∷ [])) (λ s. let then : ℕ → Fml = steps.after_join P b' o' i seen s in let room : seen + 1 < 2 ^ 63 = omega arith in let fits-next : seen + 1 < 2 ^ 64 = omega arith in
    -- [the open share; its token; a half; the invariant; what is lent; the pointer]
    move ! (5 ∷ 2 ∷ []) $ reads ν p ! tt b o (λ q'.
    sets ! (is ! (of_opd ! (load ! (through ! refl (fld ! refl (stop !))) (look_in ! 0 (sub ! 0 refl (whole !))))) (ap ptr_val at)) refl (tt, tt) $ reads_back ν p ! tt b o q' $ first ! $ blocks ! $
    -- [a half; the open share; its token; the invariant; what is lent]
    move ! (3 ∷ []) $ use1 𝓛 (‵ (finv I) ⊛ ‵ (finv I)) (𝓛.invs.inv_dup I) $ split ! $ move ! (0 ∷ 4 ∷ []) $
    use2 𝓛 (raw (𝓣.C _ (vptr b' o' ∷ vint w64 seen ∷ vint w64 (seen + 1) ∷ []) (λ u. mean 𝓛 (found then u)))) (via 𝓤 _ (steps.joins P b' o' i 𝓛 s seen room) (exchanges 𝓛 𝓜 𝓡 (code.calls-atomic_table::exchange 𝓡.env wired) m seen (seen + 1) fits-seen fits-next then)) $
    sets ! (bin ! (get ! refl) (lit ! tt) (record { fits = fits-next })) refl (tt, record { fits = fits-next }) $
    Calls-last ! (fm 𝓛 𝓜 𝓡) (found then) (and_then ! (get ! refl) (and_then ! (get ! refl) (and_then ! (get ! refl) (no_more !)))) (λ u. finds ! then (λ n fits.
    lands_last ! refl (tt, record { fits = fits }) $ exec ! 𝓣.C 𝓣.Λ Ev (after 2 fn.body) (at_ret Ev Post) $ sets ! (of_opd ! (get ! refl)) refl (tt, record { fits = fits }) $
    -- [its token; the part, where the number was met; the invariant; a half; the open share; what is lent]
    fsplit ! $ move ! (4 ∷ 0 ∷ []) $ obor_close ! tt $ drop ! $ move ! (0 ∷ 3 ∷ []) $ use2 𝓛 (‵ (flft κ q)) (𝓛.lfts.lft_join κ q) $
    -- [the token of the `&`; the part; the invariant; what is lent]
    sets ! (bin ! (get ! refl) (get ! refl) tt) refl (tt, tt) $ first ! $ branches ! (get ! refl)
    (λ met. move ! (1 ∷ []) $ use1 𝓛 (‵ (part 63 i)) (all_e 𝓤 (λ (_ : n ≡ seen). sem 𝓛 (part 63 i)) (eqb→eq n seen met)) $ move ! (0 ∷ 2 ∷ 3 ∷ []) $ fjoin3 ! $ fpack ! ℕ (λ j. owner_owns P b' o' j (lent b' o' xs)) i $
    sets ! (agg ! (and_then ! (get ! refl) (no_more !))) refl (pointer_good [] m) $ sets_last ! (agg ! (and_then ! (lit ! tt) (and_then ! (get ! refl) (no_more !)))) refl (some_Good (layout O) (pointer m) (pointer_good [] m)) $
    exec ! 𝓣.C 𝓣.Λ Ev (after 5 fn.body) (at_ret Ev Post) $ sets ! (of_opd ! (get ! refl)) refl (some_Good (layout O) (pointer m) (pointer_good [] m)) $
    let new : O.Denot = record { words = m; bytes = xs } in
    use0 𝓛 (‵ (pointer_own m (pointer m ∷ []))) (pointer_made 𝓛 m) $ fjoin ! $ use1 𝓛 (‵ ((Opt.the_row O).own_val (Some new) (live 1 (vcons (pointer m) vnil) ∷ []))) (Some-of 𝓛 O new (pointer m)) $
    use0 𝓛 (raw (fact 𝓤 (xs ≡ xs))) (fact_i 𝓤 (xs ≡ xs) (emp 𝓤) refl) $ nothing ! $ nothing ! $ fjoin ! $ nothing ! $ fjoin ! $ nothing ! $ move ! (4 ∷ 0 ∷ []) $ join ! $
    -- [the tokens; nothing left; the fact; the result]
    returns ! (look_at ! 0 refl) $ free_all ! refl $ keep ! (0 ∷ 1 ∷ 3 ∷ 2 ∷ []) $ by ! (leaves 𝓛 ended hs c y (live 1 (vcons (pointer m) vnil)) (Some new) (tt, (tt, tt)) (tt, (tt, tt))))
    (λ missed. sets_last ! (agg ! (and_then ! (lit ! tt) (no_more !))) refl (tt, (record { fits = lit< tt }, tt)) $ exec ! 𝓣.C 𝓣.Λ Ev (after 5 fn.body) (at_ret Ev Post) $
    sets ! (of_opd ! (get ! refl)) refl (tt, (record { fits = lit< tt }, tt)) $ use0 𝓛 (‵ ((Opt.the_row O).own_val None (live 0 vnil ∷ []))) (none_of 𝓛 O) $
    use0 𝓛 (raw (fact 𝓤 (Unit {0}))) (fact_i 𝓤 (Unit {0}) (emp 𝓤) tt) $ nothing ! $ nothing ! $ fjoin ! $ nothing ! $ fjoin ! $ nothing ! $ move ! (4 ∷ 0 ∷ []) $ join ! $
    returns ! (look_at ! 0 refl) $ free_all ! refl $ keep ! (0 ∷ 1 ∷ 3 ∷ 2 ∷ []) $ by ! (leaves 𝓛 ended hs c y (live 0 vnil) None (tt, (tt, tt)) (tt, (tt, tt)))))))))))))
