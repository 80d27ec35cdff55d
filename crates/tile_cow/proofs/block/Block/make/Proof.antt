-- `make` writes the two words, and none of the bytes is written yet.
use Rattle.tile_cow.proofs.Names.{◌≡◌, ℕ, ◌+◌, ◌^◌, ◌<◌, Bool, false, List, [], ◌∷◌, length, replicate, refl, sym, ap, ◌∙◌, lit<, w64, w8, Ty, ty_int, ty_array, Val, vint, SProp, emp, never, fst∗, ftrue, fsep, froom, sem, ‵, raw, ◌⊛◌, at_ret, ◌$◌, ◌∵◌, !, qed, by, move, keep, drop, use0, use1, split, split3, rewrite, fsplit, fjoin, fpick, fpack, whole, sub, agg, stop, fld, lit, of_opd, bin, init, no_more, and_then, assigns, assigns_last, first, blocks, exec, returns, enter, alloc_all, pass_all, free_all, look_at, get, get_in, through, is, sets, env, fact, fact_i, tables, RattleType, owns, usize, plain, types_at, Ptr, block_ptr, null_ptr, ptr_val, room_for, in_a_block, uint_vals, uint_Tells, heard, nothing, Stays, stay_dropped, walk_of, Goes-dropped, after, proved, leaves}
use lib.ListN.{length-replicate}
use Rattle.core.specs.Mem.Slots.Ownership.{slots}
use Rattle.core.proofs.slots.Runs.{of_space}
use Rattle.std_heap.specs.contracts.Global as Global
use Rattle.std_heap.specs.contracts.GlobalAllocator.TheImpl as TheImpl
use Rattle.tile_cow.specs.Tile.{IsTileLength}
use Rattle.tile_cow.specs.Block.{block_type, room_owns, frees, rejoins, frame_owns}
use Rattle.tile_cow.specs.contracts.room.Room as Room
use Rattle.tile_cow.specs.contracts.block.Block as Block
use Rattle.tile_cow.specs.contracts.block.Block.make.{ended, clauses, signature}
use Rattle.tile_cow.specs.contracts.block.Block.make.Key.{name as #self}
use Rattle.tile_cow.proofs.Fields.{pointer, pointer_own, pointer_made, pointer_good, marked, marked_told, marked_good}
use Rattle.tile_cow.proofs.Contents.{Byte}
use Rattle.tile_cow.proofs.Rooms.{room_parts}
use Rattle.tile_cow.proofs.block.Block.make.Statement.{statement}
use Rattle.tile_cow.proofs.block.Block.make.Code as code

pub make_spec : {M : Type 1} → statement M
make_spec 𝓤 𝓛 𝓜 𝓡 wired =
    let c = clauses 𝓛 𝓜.mem 𝓡.returns in let 𝓣 = tables 𝓤 𝓛.H 𝓜 𝓡 𝓡.env in let R : RattleType = Room.the_row Global.the_row TheImpl.ghosts in
    let hs : Stays signature.params ended.kept = (stay_dropped (plain (λ _. R)) ended.kept.0, (stay_dropped (plain (λ _. usize)) ended.kept.1.0, tt)) in
    proved 𝓛 ended hs c 𝓜 𝓡 (Goes-dropped 𝓛 0 (plain (λ _. R)) ended.kept.0 (λ κs x f. refl), (Goes-dropped 𝓛 0 (plain (λ _. usize)) ended.kept.1.0 (λ κs x f. refl), tt)) #self code.function (code.unfolded 𝓤 𝓛.H 𝓜 𝓡 wired)
    (λ κs. ((λ x. marked x.words ∷ []), (uint_vals w64, tt))) (λ κs. ((λ x vs is. marked_told x.words vs is.0), (uint_Tells w64, tt))) (λ κs qs bounds a gh are.
    let it : R.Denot = a.0 in let p : Ptr = it.words in let n : ℕ = a.1.0 in let fn = code.function in let small : n < 2 ^ 64 = are.1.0.1 in
    let y : (walk_of 𝓛 ended hs c).Ghost = ((κs, qs, bounds, a, (marked p ∷ [], (vint w64 n ∷ [], tt))), gh) in let Post : Val → SProp 𝓤 = (walk_of 𝓛 ended hs c).post y in
    let xs : List ℕ = replicate n 0 in let fs : List Bool = replicate n false in let τ : Ty = block_type n in
    qed 𝓛 ((‵ ftrue ⊛ ‵ (owns (types_at signature.params κs) a y.0.4)) ∷ raw (fact 𝓤 (it.len ≡ n)) ∷ []) ∵
    move ! (1 ∷ []) $ heard ! _ (λ asked. split ! $ drop ! $ fsplit ! $ fsplit ! $ move ! (1 ∷ []) $ keep ! (0 ∷ []) $
    rewrite ! 0 (λ (k : ℕ). ‵ (room_owns frees p k)) asked refl $ fsplit ! $ fpick ! (λ long. drop ! $
    in_a_block ! p (λ r. fsep (room_for τ r) (frees τ r)) (fst∗ 𝓤 (never 𝓤) (sem 𝓛 (frees τ null_ptr))) (λ b o at. fsplit ! $
    use1 𝓛 (‵ (froom (ty_int w64) b o) ⊛ ‵ (froom (ty_int w64) b (8 + o)) ⊛ ‵ (froom (ty_array (ty_int w8) n) b (16 + o)) ⊛ ‵ (rejoins b o n)) (room_parts 𝓛 b o n) $ split3 ! $ move ! (2 ∷ []) $ split ! $
    use1 𝓛 (‵ (slots (Rattle.core.proofs.mem.Param.R Byte) (block_ptr b (16 + o)) xs fs)) (of_space Byte 𝓛 b (16 + o) n xs (length-replicate n 0)) $
    -- [the slots; the way back; the two words; the right to free]
    enter ! _ _ _ (marked p ∷ vint w64 n ∷ []) Post $ alloc_all ! (λ l. pass_all ! refl (marked_good p, ((tt, record { fits = small }), tt)) $ let Ev = env fn.locals l in
    sets ! (is ! (of_opd ! (get_in ! (fld ! refl (stop !)) (sub ! 0 refl (whole !)))) (ap ptr_val at)) refl (tt, tt) $ first ! $ blocks ! $
    assigns ! (of_opd ! (lit ! tt)) (through ! refl (stop !)) (init ! 2 refl (tt, record { fits = lit< tt })) $
    sets ! (bin ! (get ! refl) (lit ! tt) tt) refl (tt, tt) $ sets ! (of_opd ! (get ! refl)) refl (tt, record { fits = small }) $
    assigns_last ! (of_opd ! (get ! refl)) (through ! refl (stop !)) (init ! 3 refl (tt, record { fits = small })) $
    exec ! 𝓣.C 𝓣.Λ Ev (after 2 fn.body) (at_ret Ev Post) $
    let same : n ≡ length xs = sym (length-replicate n 0) in let new : Block.the_row.Denot = record { words = block_ptr b o; owners = 1; bytes = xs; filled = fs } in
    move ! (4 ∷ 1 ∷ []) $ fjoin ! $ nothing ! $ fpack ! (IsTileLength n) (λ _. ftrue) long $ fjoin ! $ move ! (3 ∷ 0 ∷ []) $ fjoin ! $ move ! (2 ∷ 0 ∷ []) $ fjoin ! $
    rewrite ! 0 (λ (m : ℕ). ‵ (frame_owns (block_ptr b o) 1 m)) same refl $ move ! (1 ∷ []) $ nothing ! $ fpack ! (length fs ≡ length xs) (λ _. ftrue) (length-replicate n false ∙ same) $ fjoin ! $ move ! (1 ∷ 0 ∷ []) $ fjoin ! $
    sets ! (agg ! (and_then ! (get ! refl) (no_more !))) refl (pointer_good [] (block_ptr b o)) $
    use0 𝓛 (‵ (pointer_own (block_ptr b o) (pointer (block_ptr b o) ∷ []))) (pointer_made 𝓛 (block_ptr b o)) $ fjoin ! $
    let Told : Type 0 = (1 ≡ 1) × (xs ≡ xs) × (fs ≡ fs) in
    use0 𝓛 (raw (fact 𝓤 Told)) (fact_i 𝓤 Told (emp 𝓤) (refl, refl, refl)) $ nothing ! $ nothing ! $ fjoin ! $ nothing ! $ fjoin ! $ nothing ! $
    returns ! (look_at ! 0 refl) $ free_all ! refl $ move ! (0 ∷ 1 ∷ 3 ∷ 2 ∷ []) $ by ! (leaves 𝓛 ended hs c y (pointer (block_ptr b o)) new (tt, (tt, tt)) (tt, (tt, tt))))))))
