-- `into_room` reads the length, and joins the parts of the block.
use Rattle.tile_cow.proofs.Names.{◌≡◌, ℕ, ◌+◌, ◌^◌, Bool, List, [], ◌∷◌, length, refl, ap, w64, w8, Ty, ty_int, ty_array, Val, vint, SProp, emp, id⊢, never, apply∗, ftrue, fat, froom, ‵, raw, ◌⊛◌, given, at_ret, ◌$◌, ◌∵◌, !, qed, by, move, keep, drop, group, learn, use0, use1, use2, split, fsplit, fsplit3, fjoin, fpick, fpack, feq_i, flt_i, whole, sub, agg, stop, fld, load, look, lit, of_opd, bin, no_more, and_then, first, blocks, exec, returns, enter, alloc_all, pass_all, free_all, look_at, get, get_in, through, is, sets, sets_last, env, fact, fact_i, tables, RattleType, owns, usize, plain, types_at, Ptr, block_ptr, ptr_val, in_a_block, Tuple, nothing, Stays, stay_dropped, walk_of, Goes-dropped, after, proved, leaves, pair_val, pair_of, sep, T, has_ty, WT, full_share}
use Rattle.core.proofs.slots.Runs.{to_space}
use Rattle.std_heap.specs.contracts.Global as Global
use Rattle.std_heap.specs.contracts.GlobalAllocator.TheImpl as TheImpl
use Rattle.tile_cow.specs.Tile.{IsTileLength}
use Rattle.tile_cow.specs.Block.{block_type, block_owns}
use Rattle.tile_cow.specs.contracts.room.Room as Room
use Rattle.tile_cow.specs.contracts.block.Block as Block
use Rattle.tile_cow.specs.contracts.block.Block.into_room.{ended, clauses, signature}
use Rattle.tile_cow.specs.contracts.block.Block.into_room.Key.{name as #self}
use Rattle.tile_cow.proofs.Fields.{pointer, pointer_told, pointer_good, marked, marked_own, marked_made, marked_good}
use Rattle.tile_cow.proofs.Contents.{Byte}
use Rattle.tile_cow.proofs.block.Block.into_room.Statement.{statement}
use Rattle.tile_cow.proofs.block.Block.into_room.Code as code

pub into_room_spec : {M : Type 1} → statement M
into_room_spec 𝓤 𝓛 𝓜 𝓡 wired =
    let c = clauses 𝓛 𝓜.mem 𝓡.returns in let 𝓣 = tables 𝓤 𝓛.H 𝓜 𝓡 𝓡.env in let B : RattleType = Block.the_row in let R : RattleType = Room.the_row Global.the_row TheImpl.ghosts in
    let hs : Stays signature.params ended.kept = (stay_dropped (plain (λ _. B)) ended.kept.0, tt) in
    proved 𝓛 ended hs c 𝓜 𝓡 (Goes-dropped 𝓛 0 (plain (λ _. B)) ended.kept.0 (λ κs x f. refl), tt) #self code.function (code.unfolded 𝓤 𝓛.H 𝓜 𝓡 wired)
    (λ κs. ((λ x. pointer x.words ∷ []), tt)) (λ κs. ((λ x vs is. pointer_told x.words vs is.0), tt)) (λ κs qs bounds a gh are.
    let it : B.Denot = a.0 in let p : Ptr = it.words in let xs : List ℕ = it.bytes in let k : ℕ = it.owners in let fs : List Bool = it.filled in let n : ℕ = length xs in let fn = code.function in
    let y : (walk_of 𝓛 ended hs c).Ghost = ((κs, qs, bounds, a, (pointer p ∷ [], tt)), gh) in let Post : Val → SProp 𝓤 = (walk_of 𝓛 ended hs c).post y in let τ : Ty = block_type n in
    qed 𝓛 ((‵ ftrue ⊛ ‵ (owns (types_at signature.params κs) a y.0.4)) ∷ ‵ ftrue ∷ []) ∵
    split ! $ drop ! $ fsplit ! $ fsplit ! $ move ! (1 ∷ []) $ keep ! (0 ∷ []) $
    in_a_block ! p (λ r. block_owns r k xs fs) (id⊢ 𝓤 (never 𝓤)) (λ b o at. fsplit ! $ fsplit3 ! $ move ! (3 ∷ []) $ fsplit ! $ fpick ! (λ long. drop ! $
    use1 𝓛 (‵ (froom (ty_array (ty_int w8) n) b (16 + o))) (to_space Byte 𝓛 b (16 + o) n xs refl fs long) $ move ! (3 ∷ []) $ fsplit3 ! $ fpick ! (λ fits. drop ! $
    -- [the right to free; the way back; the bytes' room; the count; the length]
    move ! (4 ∷ []) $ use1 𝓛 (given (T (has_ty (ty_int w64) (vint w64 n)) × WT (vint w64 n)) (‵ (fat full_share (ty_int w64) b (8 + o) (vint w64 n)))) (𝓛.laws.at_wt full_share (ty_int w64) b (8 + o) (vint w64 n)) $ learn ! (λ small.
    enter ! _ _ _ (pointer p ∷ []) Post $ alloc_all ! (λ l. pass_all ! refl (pointer_good [] p, tt) $ let Ev = env fn.locals l in let m : Ptr = block_ptr b o in
    sets ! (is ! (of_opd ! (get_in ! (fld ! refl (stop !)) (sub ! 0 refl (whole !)))) (ap ptr_val at)) refl (tt, tt) $ first ! $ blocks ! $
    sets ! (bin ! (get ! refl) (lit ! tt) tt) refl (tt, tt) $ sets_last ! (of_opd ! (load ! (through ! refl (stop !)) (look ! 0 refl))) refl small $
    exec ! 𝓣.C 𝓣.Λ Ev (after 2 fn.body) (at_ret Ev Post) $ sets ! (of_opd ! (get ! refl)) refl small $ sets ! (agg ! (no_more !)) refl (tt, tt) $
    sets ! (agg ! (and_then ! (get ! refl) (and_then ! (get ! refl) (no_more !)))) refl (marked_good m) $ sets ! (of_opd ! (get ! refl)) refl small $
    sets ! (agg ! (and_then ! (get ! refl) (and_then ! (get ! refl) (no_more !)))) refl (tt, ((marked_good m).1, (small.1, tt))) $
    use1 𝓛 (‵ (froom (ty_int w64) b (8 + o))) (𝓛.laws.at_room (ty_int w64) b (8 + o) (vint w64 n)) $ move ! (4 ∷ []) $ use1 𝓛 (‵ (froom (ty_int w64) b o)) (𝓛.laws.at_room (ty_int w64) b o (vint w64 k)) $
    move ! (0 ∷ 1 ∷ 4 ∷ []) $ group ! 3 $ move ! (0 ∷ 2 ∷ []) $
    use2 𝓛 (‵ (froom τ b o)) (apply∗ 𝓤 (sep 𝓤 (𝓛.H.room (ty_int w64) b o) (sep 𝓤 (𝓛.H.room (ty_int w64) b (8 + o)) (𝓛.H.room (ty_array (ty_int w8) n) b (16 + o)))) (𝓛.H.room τ b o)) $ fjoin ! $
    nothing ! $ fpack ! (IsTileLength n) (λ _. ftrue) fits $ fjoin ! $
    let new : R.Denot = record { words = m; by = record {}; len = n; heap = record { memory = record { seal = tt } } } in let v : Val = pair_val (marked m) (vint w64 n) in
    use0 𝓛 (‵ (marked_own m (marked m ∷ []))) (marked_made 𝓛 m) $ fjoin ! $ flt_i ! n (2 ^ 64) small.1.fits $ feq_i ! (List Val) (vint w64 n ∷ []) (vint w64 n ∷ []) refl $ fjoin ! $ move ! (1 ∷ 0 ∷ []) $
    use2 𝓛 (‵ ((Tuple (R ∷ usize ∷ [])).own_val (new, n) (v ∷ []))) (pair_of 𝓛 R usize new n (marked m) (vint w64 n)) $
    let Told : Type 0 = (n ≡ n) × (n ≡ n) in
    use0 𝓛 (raw (fact 𝓤 Told)) (fact_i 𝓤 Told (emp 𝓤) (refl, refl)) $ nothing ! $ nothing ! $ fjoin ! $ nothing ! $
    returns ! (look_at ! 0 refl) $ free_all ! refl $ move ! (0 ∷ 1 ∷ 3 ∷ 2 ∷ []) $ by ! (leaves 𝓛 ended hs c y v (new, n) (tt, tt) (tt, tt))))))))
