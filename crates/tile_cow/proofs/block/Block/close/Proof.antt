-- `close` takes the bytes back from the slots.
use Rattle.tile_cow.proofs.Names.{◌≡◌, ℕ, ◌+◌, Bool, List, [], ◌∷◌, ◌++◌, length, refl, sym, ap, ◌∙◌, subst, Val, SProp, ent, emp, id⊢, never, ftrue, flft, WpFn, ‵, raw, ◌⊛◌, given, later, at_ret, ◌$◌, ◌∵◌, !, qed, by, move, keep, drop, learn, await, use0, use1, use2, split, rewrite, fsplit, fsplit3, fjoin, fpack, suffices, whole, sub, agg, stop, fld, of_opd, no_more, and_then, first, blocks, exec, returns, enter, alloc_all, pass_all, free_all, look_at, get, get_in, is, sets, lands_last, env, fact, fact_i, tables, RattleType, owns, u8, plain, types_at, Ptr, block_ptr, ptr_val, in_a_block, heard, nothing, calls_at_last, Stays, stay_dropped, walk_of, Goes-dropped, after, proved_at, leaves, WT, full_share}
use contract.BorrowLft.{⊑_static}
use Rattle.core.specs.Mem.Slots.{slots_items, slots_filled, slots_ptr, slots_len, slots_counts}
use Rattle.core.specs.Mem.Slots.Ownership.{slots}
use Rattle.core.specs.contracts.slots.Slots as Slots
use Rattle.core.proofs.slots.Opens.{row_val}
use Rattle.core.proofs.slots.Slots.into_raw_parts.Met as callee
use Rattle.atomic_table.proofs.Calls.{fm}
use Rattle.atomic_table.proofs.Raw.{Row, parts_typed, Row-seen, Into, at_into, Into-goes, Into-gives}
use Rattle.tile_cow.specs.Block.{frame_owns, bytes_at}
use Rattle.tile_cow.specs.contracts.block.Block as Block
use Rattle.tile_cow.specs.contracts.block.Frame as Frame
use Rattle.tile_cow.specs.contracts.block.Block.close.{ended, clauses, signature}
use Rattle.tile_cow.specs.contracts.block.Block.close.Key.{name as #self}
use Rattle.tile_cow.proofs.Fields.{pointer, pointer_told, pointer_own, pointer_made, pointer_good}
use Rattle.tile_cow.proofs.Rows.{byte_laws}
use Rattle.tile_cow.proofs.Contents.{Byte}
use Rattle.tile_cow.proofs.block.Block.close.Statement.{statement}
use Rattle.tile_cow.proofs.block.Block.close.Code as code

pub close_spec : {M : Type 1} → statement M
close_spec 𝓤 𝓛 𝓜 𝓡 wired =
    let c = clauses 𝓛 𝓜.mem 𝓡.returns in let 𝓣 = tables 𝓤 𝓛.H 𝓜 𝓡 𝓡.env in let B : RattleType = Block.the_row in let F : RattleType = Frame.the_row in let S : RattleType = Row Byte in
    let met = callee.met 𝓤 𝓛 𝓜 𝓡 (code.calls-core::slots::Slots::into_raw_parts 𝓡.env wired) u8 byte_laws in let fn = code.function in
    let hs : Stays signature.params ended.kept = (stay_dropped (plain (λ _. F)) ended.kept.0, (stay_dropped (plain (λ _. Slots.the_row u8)) ended.kept.1.0, tt)) in
    proved_at 𝓛 ended hs c 𝓜 𝓡 (Goes-dropped 𝓛 0 (plain (λ _. F)) ended.kept.0 (λ κs x f. refl), (Goes-dropped 𝓛 0 (plain (λ _. Slots.the_row u8)) ended.kept.1.0 (λ κs x f. refl), tt)) #self fn (code.unfolded 𝓤 𝓛.H 𝓜 𝓡 wired) (λ z are.
    let it : F.Denot = z.0.3.0 in let r : S.Denot = z.0.3.1.0 in let vss = z.0.4 in let p : Ptr = it.words in let k : ℕ = it.owners in let n : ℕ = it.len in let m : ℕ = slots_len r in let xs : List ℕ = slots_items r in let fs : List Bool = slots_filled r in
    let Post : Val → SProp 𝓤 = (walk_of 𝓛 ended hs c).post z in let Run : List Val → SProp 𝓤 = λ ws. WpFn 𝓤 𝓛.H 𝓣.C 𝓣.Λ fn ws Post in
    let e₀ : vss.0 ≡ pointer p ∷ [] = pointer_told p vss.0 are.0.0 in
    qed 𝓛 ((‵ ftrue ⊛ ‵ (owns (types_at signature.params z.0.0) z.0.3 vss)) ∷ raw (fact 𝓤 ((slots_ptr r ≡ bytes_at p) × (m ≡ n))) ∷ []) ∵
    move ! (1 ∷ []) $ heard ! _ (λ asked. split ! $ drop ! $ fsplit3 ! $ fsplit ! $ drop ! $
    in_a_block ! p (λ q. frame_owns q k n) (id⊢ 𝓤 (never 𝓤)) (λ b o at. move ! (1 ∷ []) $ Row-seen Byte ! r vss.1.0 (λ b' o' at' e₁ small fit. keep ! (0 ∷ 1 ∷ []) $
    let us : List Val = pointer p ∷ row_val b' o' m ∷ [] in let words : WT (row_val b' o' m) = (tt, (record { fits = small }, tt)) in
    let place : block_ptr b' o' ≡ block_ptr b (16 + o) = sym at' ∙ asked.0 ∙ ap bytes_at at in let long : n ≡ length xs = sym asked.1 ∙ (slots_counts r).0 in
    suffices ! (Run us) (subst (λ (ws : List Val). ent 𝓤 (Run us) (Run ws)) (sym (λ i. e₀ i ++ (e₁ i ++ []))) (id⊢ 𝓤 (Run us))) $
    enter ! 𝓣.C 𝓣.Λ fn us Post $ alloc_all ! (λ l. pass_all ! refl (pointer_good [] p, ((tt, words), tt)) $ let Ev = env fn.locals l in let y = at_into Byte 𝓛 𝓜.mem 𝓡.returns [] full_share r b' o' in let q : Ptr = block_ptr b o in
    sets ! (is ! (of_opd ! (get_in ! (fld ! refl (stop !)) (sub ! 0 refl (whole !)))) (ap ptr_val at)) refl (tt, tt) $ first ! $ blocks ! $ sets ! (of_opd ! (get ! refl)) refl (tt, words) $
    use0 𝓛 (‵ (flft [] full_share)) (𝓛.lfts.lft-nil full_share) $ move ! (1 ∷ 0 ∷ []) $
    use2 𝓛 (raw ((Into Byte 𝓛 𝓜.mem 𝓡.returns).pre y)) (Into-goes Byte 𝓛 𝓜.mem 𝓡.returns [] full_share r b' o' (⊑_static [])) $
    calls_at_last ! (fm 𝓛 𝓜 𝓡) (Into Byte 𝓛 𝓜.mem 𝓡.returns) met y (and_then ! (get ! refl) (no_more !)) (λ v.
    use1 𝓛 (later (given (v ≡ row_val b' o' m) (‵ (slots u8 (block_ptr b' o') xs fs) ⊛ ‵ (flft [] full_share)))) (Into-gives Byte 𝓛 𝓜.mem 𝓡.returns [] full_share r b' o' v at') $ await ! tt $ learn ! (λ ev. split ! $
    lands_last ! refl (parts_typed v b' o' m ev small) $ exec ! 𝓣.C 𝓣.Λ Ev (after 2 fn.body) (at_ret Ev Post) $
    sets ! (is ! (of_opd ! (get ! refl)) ev) refl (tt, words) $ sets ! (agg ! (and_then ! (get ! refl) (no_more !))) refl (pointer_good [] q) $
    -- [the slots; the token; the frame]
    rewrite ! 0 (λ (π : Ptr). ‵ (slots u8 π xs fs)) place refl $ nothing ! $ fpack ! (length fs ≡ length xs) (λ _. ftrue) (sym (slots_counts r).1 ∙ (slots_counts r).0) $ fjoin ! $
    move ! (2 ∷ 0 ∷ []) $ rewrite ! 0 (λ (j : ℕ). ‵ (frame_owns q k j)) long refl $ fjoin ! $ use0 𝓛 (‵ (pointer_own q (pointer q ∷ []))) (pointer_made 𝓛 q) $ fjoin ! $
    let new : B.Denot = record { words = q; owners = k; bytes = xs; filled = fs } in let Told : Type 0 = (k ≡ k) × (xs ≡ xs) × (fs ≡ fs) in
    use0 𝓛 (raw (fact 𝓤 Told)) (fact_i 𝓤 Told (emp 𝓤) (refl, refl, refl)) $ nothing ! $ nothing ! $ fjoin ! $ nothing ! $ fjoin ! $ nothing ! $
    returns ! (look_at ! 0 refl) $ free_all ! refl $ keep ! (0 ∷ 1 ∷ 3 ∷ 2 ∷ []) $ by ! (leaves 𝓛 ended hs c z (pointer q) new (tt, (tt, tt)) (tt, (tt, tt))))))))))
