-- `claim` reads the count, and a sole owner has the block.
use Rattle.tile_cow.proofs.Names.{◌≡◌, ◌≢◌, ℕ, List, [], ◌∷◌, refl, sym, ap, lit<, Val, vptr, vcons, vnil, SProp, emp, id⊢, never, via, Fml, ftrue, finv, sem, ‵, raw, ◌⊛◌, mean, at_ret, ◌$◌, ◌∵◌, !, qed, by, move, keep, drop, use0, use1, use2, split, rewrite, fsplit, fsplit3, fjoin, fjoin3, fpick, fpack, whole, sub, agg, stop, fld, lit, of_opd, bin, no_more, and_then, first, blocks, exec, returns, enter, branches, Calls-last, alloc_all, pass_all, free_all, look_at, get, get_in, is, sets, sets_last, lands_last, env, live, fact, fact_i, tables, RattleType, owns, plain, types_at, Ptr, block_ptr, ptr_val, in_a_block, nothing, Stays, stay_dropped, walk_of, Goes-dropped, after, proved, leaves, all_e, eqb→eq, lent_back, fm, seq_cst, found, finds, loads, Ok, Err, some_Good, first_Good, is_not, ok_of, err_of}
use Rattle.std_alloc.specs.Arc.Ownership.{owner_owns}
use denote.Param.{layout}
use Rattle.core.specs.contracts.result.Result as Res
use types.RcWeak.{part}
use Rattle.core.specs.Thread.Scope.{refcount_invariant}
use Rattle.tile_cow.specs.Block.{block_owns, IsWritten}
use Rattle.tile_cow.specs.Owner.{content, lent, owner_has}
use Rattle.tile_cow.specs.contracts.block.Block as Block
use Rattle.tile_cow.specs.contracts.owner.Owner as Owner
use Rattle.tile_cow.specs.contracts.owner.Owner.claim.{ended, clauses, signature}
use Rattle.tile_cow.specs.contracts.owner.Owner.claim.Key.{name as #self}
use Rattle.tile_cow.proofs.Fields.{pointer, pointer_told, pointer_own, pointer_made, pointer_good}
use Rattle.tile_cow.proofs.Contents.{written, is_written, whole_again}
use Rattle.tile_cow.proofs.Steps as steps
use Rattle.tile_cow.proofs.owner.Owner.claim.Statement.{statement}
use Rattle.tile_cow.proofs.owner.Owner.claim.Code as code

pub claim_spec : {M : Type 1} → statement M
claim_spec 𝓤 𝓛 𝓜 𝓡 wired =
    let c = clauses 𝓛 𝓜.mem 𝓡.returns in let 𝓣 = tables 𝓤 𝓛.H 𝓜 𝓡 𝓡.env in let O : RattleType = Owner.the_row in let B : RattleType = Block.the_row in let fn = code.function in
    let hs : Stays signature.params ended.kept = (stay_dropped (plain (λ _. O)) ended.kept.0, tt) in
    proved 𝓛 ended hs c 𝓜 𝓡 (Goes-dropped 𝓛 0 (plain (λ _. O)) ended.kept.0 (λ κs x f. refl), tt) #self fn (code.unfolded 𝓤 𝓛.H 𝓜 𝓡 wired)
    (λ κs. ((λ x. pointer x.words ∷ []), tt)) (λ κs. ((λ x vs is. pointer_told x.words vs is.0), tt)) (λ κs qs bounds a gh are.
    let p : Ptr = a.0.words in let xs : List ℕ = a.0.bytes in
    let y : (walk_of 𝓛 ended hs c).Ghost = ((κs, qs, bounds, a, (pointer p ∷ [], tt)), gh) in let Post : Val → SProp 𝓤 = (walk_of 𝓛 ended hs c).post y in
    qed 𝓛 ((‵ ftrue ⊛ ‵ (owns (types_at signature.params κs) a y.0.4)) ∷ ‵ ftrue ∷ []) ∵
    split ! $ drop ! $ fsplit ! $ fsplit ! $ move ! (1 ∷ []) $ keep ! (0 ∷ []) $ in_a_block ! p (λ r. owner_has r xs) (id⊢ 𝓤 (never 𝓤)) (λ b o at. fpick ! (λ i. fsplit3 ! $ move ! (1 ∷ []) $
    use1 𝓛 (‵ (finv (refcount_invariant (content b o xs) b o i)) ⊛ ‵ (finv (refcount_invariant (content b o xs) b o i))) (𝓛.invs.inv_dup (refcount_invariant (content b o xs) b o i)) $ split ! $ move ! (0 ∷ 2 ∷ 1 ∷ []) $
    -- [the invariant; the part; the invariant; what is lent]
    let P : Fml = content b o xs in let m : Ptr = block_ptr b o in let then : ℕ → Fml = steps.after_claim P b o i in
    enter ! _ _ _ (pointer p ∷ []) Post $ alloc_all ! (λ l. pass_all ! refl (pointer_good [] p, tt) $ let Ev = env fn.locals l in
    sets ! (is ! (of_opd ! (get_in ! (fld ! refl (stop !)) (sub ! 0 refl (whole !)))) (ap ptr_val at)) refl (tt, tt) $ first ! $ blocks ! $
    use2 𝓛 (raw (𝓣.C _ (vptr b o ∷ seq_cst ∷ []) (λ r. mean 𝓛 (found then r))))
    (via 𝓤 _ (steps.claims P b o i 𝓛) (loads 𝓛 𝓜 𝓡 (code.calls-core::raw_atomic::load 𝓡.env wired) m then)) $
    sets ! (agg ! (and_then ! (lit ! tt) (no_more !))) refl (tt, (record { fits = lit< tt }, tt)) $
    Calls-last ! (fm 𝓛 𝓜 𝓡) (found then) (and_then ! (get ! refl) (and_then ! (get ! refl) (no_more !))) (λ r. finds ! then (λ n fits.
    lands_last ! refl (tt, record { fits = fits }) $ exec ! 𝓣.C 𝓣.Λ Ev (after 2 fn.body) (at_ret Ev Post) $ sets ! (of_opd ! (get ! refl)) refl (tt, record { fits = fits }) $
    sets ! (bin ! (get ! refl) (lit ! tt) tt) refl (tt, tt) $ first ! $ branches ! (get ! refl)
    (λ one. let e : n ≡ 1 = eqb→eq n 1 one in let whole_count : Fml = steps.last P b o i 1 in
    fsplit ! $ use1 𝓛 (‵ whole_count) (all_e 𝓤 (λ (_ : n ≡ 1). sem 𝓛 whole_count) e) $ fsplit3 ! $ move ! (1 ∷ 2 ∷ []) $ lent_back ! tt $ move ! (1 ∷ 0 ∷ []) $
    use2 𝓛 (‵ (block_owns m 1 xs (written xs))) (whole_again 𝓛 b o xs 1) $
    sets ! (agg ! (and_then ! (get ! refl) (no_more !))) refl (pointer_good [] m) $ sets_last ! (agg ! (and_then ! (lit ! tt) (and_then ! (get ! refl) (no_more !)))) refl (first_Good (layout B) (pointer m) (pointer_good [] m)) $
    exec ! 𝓣.C 𝓣.Λ Ev (after 5 fn.body) (at_ret Ev Post) $ sets ! (of_opd ! (get ! refl)) refl (first_Good (layout B) (pointer m) (pointer_good [] m)) $
    let new : B.Denot = record { words = m; owners = 1; bytes = xs; filled = written xs } in let Told : Type 0 = (1 ≡ 1) × (xs ≡ xs) × IsWritten xs (written xs) in
    use0 𝓛 (‵ (pointer_own m (pointer m ∷ []))) (pointer_made 𝓛 m) $ fjoin ! $ use1 𝓛 (‵ ((Res.the_row B O).own_val (Ok new) (live 0 (vcons (pointer m) vnil) ∷ []))) (ok_of 𝓛 B O new (pointer m)) $
    use0 𝓛 (raw (fact 𝓤 Told)) (fact_i 𝓤 Told (emp 𝓤) (refl, refl, is_written xs)) $ nothing ! $ nothing ! $ fjoin ! $ nothing ! $
    returns ! (look_at ! 0 refl) $ free_all ! refl $ keep ! (0 ∷ 1 ∷ 3 ∷ 2 ∷ []) $ by ! (leaves 𝓛 ended hs c y (live 0 (vcons (pointer m) vnil)) (Ok new) (tt, tt) (tt, tt)))
    (λ more. fsplit ! $ drop ! $ use1 𝓛 (‵ (part 63 i)) (all_e 𝓤 (λ (_ : n ≢ 1). sem 𝓛 (part 63 i)) (is_not n 1 more)) $ fjoin3 ! $ fpack ! ℕ (λ j. owner_owns P b o j (lent b o xs)) i $
    rewrite ! 0 (λ (r : Ptr). ‵ (owner_has r xs)) (sym at) refl $
    sets ! (is ! (agg ! (and_then ! (get ! refl) (no_more !))) (ap pointer (sym at))) refl (pointer_good [] p) $ sets_last ! (agg ! (and_then ! (lit ! tt) (and_then ! (get ! refl) (no_more !)))) refl (some_Good (layout O) (pointer p) (pointer_good [] p)) $
    exec ! 𝓣.C 𝓣.Λ Ev (after 5 fn.body) (at_ret Ev Post) $ sets ! (of_opd ! (get ! refl)) refl (some_Good (layout O) (pointer p) (pointer_good [] p)) $
    use0 𝓛 (‵ (pointer_own p (pointer p ∷ []))) (pointer_made 𝓛 p) $ fjoin ! $ use1 𝓛 (‵ ((Res.the_row B O).own_val (Err a.0) (live 1 (vcons (pointer p) vnil) ∷ []))) (err_of 𝓛 B O a.0 (pointer p)) $
    use0 𝓛 (raw (fact 𝓤 (a.0 ≡ a.0))) (fact_i 𝓤 (a.0 ≡ a.0) (emp 𝓤) refl) $ nothing ! $ nothing ! $ fjoin ! $ nothing ! $
    returns ! (look_at ! 0 refl) $ free_all ! refl $ keep ! (0 ∷ 1 ∷ 3 ∷ 2 ∷ []) $ by ! (leaves 𝓛 ended hs c y (live 1 (vcons (pointer p) vnil)) (Err a.0) (tt, tt) (tt, tt)))))))))
