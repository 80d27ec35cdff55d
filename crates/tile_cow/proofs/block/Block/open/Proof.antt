-- `open` reads the length, and makes slots of the bytes.
use Rattle.tile_cow.proofs.Names.{◌≡◌, ℕ, ◌+◌, Bool, List, [], ◌∷◌, length, refl, sym, ap, w64, arith, ty_int, Val, vint, SProp, emp, id⊢, never, ftrue, fat, flft, ‵, raw, ◌⊛◌, some, given, later, at_ret, ◌$◌, ◌∵◌, !, qed, by, move, keep, drop, learn, pick, await, join, use0, use1, use2, split, fsplit, fsplit3, fjoin, fpick, fpack, whole, sub, agg, stop, fld, load, look, lit, of_opd, bin, no_more, and_then, first, blocks, exec, returns, enter, alloc_all, pass_all, free_all, look_at, get, get_in, through, is, sets, sets_last, env, fact, fact_i, tables, RattleType, owns, u8, plain, types_at, Ptr, block_ptr, ptr_val, in_a_block, Tuple, nothing, calls_at, Stays, stay_dropped, walk_of, Goes-dropped, after, proved, leaves, pair_val, pair_of, T, has_ty, WT, full_share}
use contract.BorrowLft.{⊑_static}
use types.ByLocal.{lands_as}
use Rattle.core.specs.Mem.Slots.{slots_items, slots_filled, slots_ptr, slots_len}
use Rattle.core.proofs.slots.Opens.{row_val}
use Rattle.core.proofs.slots.Slots.from_raw_parts.Met as callee
use Rattle.atomic_table.proofs.Calls.{fm}
use Rattle.atomic_table.proofs.Raw.{Row, From, at_from, Made, from_goes, from_gives}
use Rattle.tile_cow.specs.Tile.{IsTileLength}
use Rattle.tile_cow.specs.Block.{block_owns}
use Rattle.tile_cow.specs.contracts.block.Block as Block
use Rattle.tile_cow.specs.contracts.block.Frame as Frame
use Rattle.tile_cow.specs.contracts.block.Block.open.{ended, clauses, signature}
use Rattle.tile_cow.specs.contracts.block.Block.open.Key.{name as #self}
use Rattle.tile_cow.proofs.Fields.{pointer, pointer_told, pointer_own, pointer_made, pointer_good}
use Rattle.tile_cow.proofs.Rows.{byte_laws}
use Rattle.tile_cow.proofs.Contents.{Byte}
use Rattle.tile_cow.proofs.block.Block.open.Statement.{statement}
use Rattle.tile_cow.proofs.block.Block.open.Code as code

pub open_spec : {M : Type 1} → statement M
open_spec 𝓤 𝓛 𝓜 𝓡 wired =
    let c = clauses 𝓛 𝓜.mem 𝓡.returns in let 𝓣 = tables 𝓤 𝓛.H 𝓜 𝓡 𝓡.env in let B : RattleType = Block.the_row in let F : RattleType = Frame.the_row in let S : RattleType = Row Byte in
    let met = callee.met 𝓤 𝓛 𝓜 𝓡 (code.calls-core::slots::Slots::from_raw_parts 𝓡.env wired) u8 byte_laws in
    let hs : Stays signature.params ended.kept = (stay_dropped (plain (λ _. B)) ended.kept.0, tt) in
    proved 𝓛 ended hs c 𝓜 𝓡 (Goes-dropped 𝓛 0 (plain (λ _. B)) ended.kept.0 (λ κs x f. refl), tt) #self code.function (code.unfolded 𝓤 𝓛.H 𝓜 𝓡 wired)
    (λ κs. ((λ x. pointer x.words ∷ []), tt)) (λ κs. ((λ x vs is. pointer_told x.words vs is.0), tt)) (λ κs qs bounds a gh are.
    let it : B.Denot = a.0 in let p : Ptr = it.words in let xs : List ℕ = it.bytes in let k : ℕ = it.owners in let fs : List Bool = it.filled in let n : ℕ = length xs in let fn = code.function in
    let y : (walk_of 𝓛 ended hs c).Ghost = ((κs, qs, bounds, a, (pointer p ∷ [], tt)), gh) in let Post : Val → SProp 𝓤 = (walk_of 𝓛 ended hs c).post y in
    qed 𝓛 ((‵ ftrue ⊛ ‵ (owns (types_at signature.params κs) a y.0.4)) ∷ ‵ ftrue ∷ []) ∵
    split ! $ drop ! $ fsplit ! $ fsplit ! $ move ! (1 ∷ []) $ keep ! (0 ∷ []) $
    in_a_block ! p (λ r. block_owns r k xs fs) (id⊢ 𝓤 (never 𝓤)) (λ b o at. fsplit ! $ fsplit3 ! $ move ! (2 ∷ []) $ fsplit ! $ fpick ! (λ fits. fpack ! (IsTileLength n) (λ _. ftrue) fits $ fjoin ! $
    move ! (3 ∷ []) $ fsplit ! $ fpick ! (λ long. drop ! $
    -- [the slots; the right to free; the count; the length]
    move ! (3 ∷ []) $ use1 𝓛 (given (T (has_ty (ty_int w64) (vint w64 n)) × WT (vint w64 n)) (‵ (fat full_share (ty_int w64) b (8 + o) (vint w64 n)))) (𝓛.laws.at_wt full_share (ty_int w64) b (8 + o) (vint w64 n)) $ learn ! (λ small.
    enter ! _ _ _ (pointer p ∷ []) Post $ alloc_all ! (λ l. pass_all ! refl (pointer_good [] p, tt) $ let Ev = env fn.locals l in let m : Ptr = block_ptr b o in
    sets ! (is ! (of_opd ! (get_in ! (fld ! refl (stop !)) (sub ! 0 refl (whole !)))) (ap ptr_val at)) refl (tt, tt) $ first ! $ blocks ! $
    sets ! (bin ! (get ! refl) (lit ! tt) tt) refl (tt, tt) $ sets ! (of_opd ! (load ! (through ! refl (stop !)) (look ! 0 refl))) refl small $ sets ! (of_opd ! (get ! refl)) refl small $
    sets ! (agg ! (and_then ! (get ! refl) (no_more !))) refl (pointer_good [] m) $ sets ! (bin ! (get ! refl) (lit ! tt) tt) refl (tt, tt) $ sets ! (of_opd ! (get ! refl)) refl (tt, tt) $
    let z = at_from Byte 𝓛 𝓜.mem 𝓡.returns [] full_share b (16 + o) n xs fs in let words : WT (row_val b (16 + o) n) = (tt, (small.1, tt)) in
    use0 𝓛 (‵ (flft [] full_share)) (𝓛.lfts.lft-nil full_share) $ move ! (2 ∷ 0 ∷ []) $
    use2 𝓛 (raw ((From Byte 𝓛 𝓜.mem 𝓡.returns).pre z)) (from_goes Byte 𝓛 𝓜.mem 𝓡.returns [] full_share b (16 + o) n xs fs (⊑_static []) refl (sym long) small.1.fits (let u = fits.1 in omega arith)) $
    calls_at ! (fm 𝓛 𝓜 𝓡) (From Byte 𝓛 𝓜.mem 𝓡.returns) met z (and_then ! (get ! refl) (and_then ! (get ! refl) (no_more !))) (λ v.
    use1 𝓛 (later (some (λ (r : S.Denot). given ((v ≡ row_val b (16 + o) n) × Made Byte 𝓛 𝓜.mem 𝓡.returns [] full_share b (16 + o) n xs fs r) (‵ (S.own_val r (row_val b (16 + o) n ∷ [])) ⊛ ‵ (flft [] full_share)))))
    (from_gives Byte 𝓛 𝓜.mem 𝓡.returns [] full_share b (16 + o) n xs fs v) $ await ! tt $ pick ! (λ r. learn ! (λ got. split ! $ let made = got.1 in
    lands_as ! got.0 refl (tt, words) $
    sets_last ! (agg ! (and_then ! (get ! refl) (and_then ! (get ! refl) (no_more !)))) refl (tt, ((pointer_good [] m).1, (words, tt))) $ exec ! 𝓣.C 𝓣.Λ Ev (after 2 fn.body) (at_ret Ev Post) $
    sets ! (of_opd ! (get ! refl)) refl (tt, ((pointer_good [] m).1, (words, tt))) $
    let frame : F.Denot = record { words = m; owners = k; len = n } in let u : Val = row_val b (16 + o) n in let w : Val = pair_val (pointer m) u in
    -- [the slots; the token; the length; the right to free; the count]
    move ! (2 ∷ 3 ∷ []) $ fjoin ! $ move ! (3 ∷ 0 ∷ []) $ fjoin ! $ use0 𝓛 (‵ (pointer_own m (pointer m ∷ []))) (pointer_made 𝓛 m) $ fjoin ! $
    use2 𝓛 (‵ ((Tuple (F ∷ S ∷ [])).own_val (frame, r) (w ∷ []))) (pair_of 𝓛 F S frame r (pointer m) u) $
    let Third : Type 0 = (slots_items r ≡ xs) × (slots_filled r ≡ fs) in let Second : Type 0 = (slots_ptr r ≡ block_ptr b (16 + o)) × (slots_len r ≡ n) in let First : Type 0 = (k ≡ k) × (n ≡ n) in
    use0 𝓛 (raw (fact 𝓤 Third)) (fact_i 𝓤 Third (emp 𝓤) (made.2, made.3)) $ use0 𝓛 (raw (fact 𝓤 Second)) (fact_i 𝓤 Second (emp 𝓤) (made.0, made.1)) $ join ! $ use0 𝓛 (raw (fact 𝓤 First)) (fact_i 𝓤 First (emp 𝓤) (refl, refl)) $ join ! $
    nothing ! $ nothing ! $ fjoin ! $ nothing ! $ returns ! (look_at ! 0 refl) $ free_all ! refl $ keep ! (0 ∷ 1 ∷ 3 ∷ 2 ∷ []) $ by ! (leaves 𝓛 ended hs c y w (frame, r) (tt, tt) (tt, tt)))))))))))
