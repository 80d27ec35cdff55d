-- `free` hands the room back to the allocator.
use Rattle.std.proofs.Common.{◌≡◌, ℕ, ◌+◌, ◌/◌, ◌*◌, ◌^◌, ◌<◌, T, List, [], ◌∷◌, sym, refl, ap, subst, arith, lit<, w64}
use mir.Syntax.{Ty, named, ty_unit}
use mir.Val.{Val, vunit, vint, vptr, has_ty, WT}
use mir.MapTy.{inst_fn}
use base.Logic.{SProp, never, fst∗}
use base.Fml.{Fml, ftrue, fsep, flft, Incl-trans}
use types.Logic.{sem}
use types.Kit.{‵, raw, ◌⊛◌, given, later, at_ret, ◌$◌, ◌∵◌, !, qed, by, move, keep, drop, use1, use3, split, join, learn, rewrite, fsplit, fsplit3, fjoin, fjoin3, fpick, feq_i, await}
use types.Part.{whole, sub}
use types.Run.{stop, fld, unit_lit, no_more, and_then, of_opd, bin, first, blocks, exec, returns, enter}
use types.ByLocal.{alloc_all, pass_all, free_all, look_at, get, get_in, is, sets, lands_last, env}
use contract.BorrowLft.{◌⊑◌}
use contract.Running.{tables}
use denote.Exit.{yes, no}
use denote.RattleType.{RattleType, owns}
use denote.Signature.{plain, types_at}
use denote.Param.{param}
use denote.Builtin.{RefOf, usize}
use denote.RawPtr.{Ptr, null_ptr, ptr_val, room_for, in_a_block}
use denote.Ref.{shr_vals, shr_Tells}
use denote.Plain.{uint_vals, uint_Tells}
use denote.Steps.{nothing}
use denote.Triple.Call.{calls_at_last}
use denote.Triple.Walked.{Stays, stay_dropped, walk_of, Goes-dropped}
use Rattle.core.proofs.alloc.Calls.{Al, token, Gives, at_gives, Gives-goes, Gives-Gives}
use Rattle.core.proofs.slots.Bodies.{after}
use mir.Syntax.{a_type, dcons, dnil}
use denote.Param.{bounded}
use types.Run.{lit}
use Rattle.atomic_table.proofs.Calls.{fm}
use Rattle.std.proofs.raw_atomic.Walks.{proved, leaves}
use Rattle.tile_cow.specs.Block.{block_type, room_owns}
use Rattle.tile_cow.specs.contracts.room.Room.{the_row}
use Rattle.tile_cow.proofs.Fields.{marked, marked_told, marked_good}
use Rattle.tile_cow.proofs.Layouts.{block_size, block_align}
use Rattle.tile_cow.specs.contracts.room.Room.free.{ended, clauses}
use Rattle.tile_cow.specs.contracts.room.Room.free.Key.{name as #self}
use Rattle.tile_cow.proofs.room.Room.free.Statement.{statement}
use Rattle.tile_cow.proofs.room.Room.free.Code as code

pub free_spec : {M : Type 1} → statement M
free_spec 𝓤 𝓛 𝓜 𝓡 wired U LU g d dd met _ =
    let H = 𝓛.H in let 𝓣 = tables 𝓤 H 𝓜 𝓡 𝓡.env in let W : RattleType = param 0 U in let En = ended U g d dd in
    let Z : Al = record { row = U; laws = LU; g = g; d = d; drops = dd } in let inst = bounded (a_type ∷ []) (U, tt) (dcons d (dcons dd dnil)) in let fn = inst_fn inst code.function in
    let Row : RattleType = the_row W g in let heap = RefOf (0 ∷ []) tt (plain (λ _. W)) (λ _. tt) in let c = clauses U g d dd 𝓛 𝓜.mem 𝓡.returns in
    let hs : Stays En.signature.params En.kept = (stay_dropped (plain (λ _. Row)) no, (stay_dropped heap yes, (stay_dropped (plain (λ _. usize)) yes, tt))) in
    proved 𝓛 En hs c 𝓜 𝓡 (Goes-dropped 𝓛 2 (plain (λ _. Row)) no (λ κs x f. refl), (Goes-dropped 𝓛 2 heap yes (λ κs x f. refl), (Goes-dropped 𝓛 2 (plain (λ _. usize)) yes (λ κs x f. refl), tt)))
    (#self inst) fn (code.unfolded 𝓤 H 𝓜 𝓡 wired (U, tt) d dd)
    (λ κs. ((λ x. marked x.words ∷ []), (shr_vals, (uint_vals w64, tt)))) (λ κs. ((λ x vs is. marked_told x.words vs is.0), (shr_Tells (named 0) κs.0 W, (uint_Tells w64, tt)))) (λ κs qs bounds a gh are.
    let κ = κs.0 in let q = qs.0 in let p : Ptr = a.0.words in let hp : ℕ × ℕ = a.1.0.ref_ptr in let h : U.Denot = a.1.0.now in let n : ℕ = a.1.1.0 in
    let s : ℕ = (n + 23) / 8 * 8 in let τ : Ty = block_type n in
    let y : (walk_of 𝓛 En hs c).Ghost = ((κs, qs, bounds, a, (marked p ∷ [], (vptr hp.0 hp.1 ∷ [], (vint w64 n ∷ [], tt)))), gh) in let Post : Val → SProp 𝓤 = (walk_of 𝓛 En hs c).post y in
    let others : Fml = fsep (flft κs.1.0 qs.1.0) ftrue in
    qed 𝓛 (((‵ (flft κ q) ⊛ ‵ others) ⊛ ‵ (owns (types_at En.signature.params κs) a y.0.4)) ∷ given (κs.1.0 ⊑ U.lives) (‵ ftrue) ∷ given ((a.0.len ≡ n) × (a.0.heap ≡ h)) (‵ ftrue) ∷ []) ∵
    move ! (1 ∷ 2 ∷ []) $ learn ! (λ within. drop ! $ learn ! (λ asked. drop ! $ split ! $ split ! $ move ! (2 ∷ []) $ fsplit3 ! $ fsplit ! $ drop ! $
    rewrite ! 0 (λ (r : ℕ × U.Denot). ‵ (room_owns (g.dealloc_token r.1) p r.0)) {x = (n, h)} {y = (a.0.len, a.0.heap)} (λ i. (asked.0 i, asked.1 i)) refl $ fsplit ! $ fpick ! (λ fits. drop ! $
    in_a_block ! p (λ r. fsep (room_for τ r) (token Z h τ r)) (fst∗ 𝓤 (never 𝓤) (sem 𝓛 (token Z h τ null_ptr))) (λ b o at. fsplit ! $ move ! (2 ∷ []) $ fsplit ! $ keep ! (2 ∷ 3 ∷ 1 ∷ 5 ∷ 6 ∷ []) $
    let few = fits.1 in let low : n + 23 < 2 ^ 64 = omega arith in let eighth : (n + 23) / 8 < 2 ^ 64 = omega arith in let bytes : s < 2 ^ 64 = omega arith in
    enter ! 𝓣.C 𝓣.Λ fn (marked p ∷ vptr hp.0 hp.1 ∷ vint w64 n ∷ []) Post $
    alloc_all ! (λ l. pass_all ! refl (marked_good p, ((tt, tt), ((tt, record { fits = are.1.1.0.1 }), tt))) $ let Ev = env fn.locals l in
    let t : (Gives Z 𝓛 𝓜.mem 𝓡.returns).Ghost = at_gives Z 𝓛 𝓜.mem 𝓡.returns κ q hp h b o s 8 τ in
    sets ! (is ! (of_opd ! (get_in ! (fld ! refl (stop !)) (sub ! 0 refl (whole !)))) (ap ptr_val at)) refl (tt, tt) $ first ! $ blocks ! $ sets ! (of_opd ! (get ! refl)) refl (tt, tt) $
    sets ! (bin ! (get ! refl) (lit ! tt) (record { fits = low })) refl (tt, record { fits = low }) $ sets ! (bin ! (get ! refl) (lit ! tt) (lit< tt)) refl (tt, record { fits = eighth }) $
    sets ! (bin ! (get ! refl) (lit ! tt) (record { fits = bytes })) refl (tt, record { fits = bytes }) $
    move ! (2 ∷ 3 ∷ []) $ join ! $ move ! (1 ∷ 2 ∷ 0 ∷ []) $ use3 𝓛 (raw ((Gives Z 𝓛 𝓜.mem 𝓡.returns).pre t))
    (Gives-goes Z 𝓛 𝓜.mem 𝓡.returns κ q hp h (Incl-trans bounds.0 within) b o s 8 τ (block_size n few) (block_align n) bytes (lit< tt)) $
    calls_at_last ! (fm 𝓛 𝓜 𝓡) (Gives Z 𝓛 𝓜.mem 𝓡.returns) (met.deallocate dd) t (and_then ! (get ! refl) (and_then ! (get ! refl) (and_then ! (get ! refl) (and_then ! (lit ! tt) (no_more !))))) (λ v.
    use1 𝓛 (later (given (v ≡ vunit) (‵ (flft κ q)))) (Gives-Gives Z 𝓛 𝓜.mem 𝓡.returns κ q hp h b o s 8 τ v) $ await ! tt $ learn ! (λ e.
    lands_last ! refl (subst (λ (u : Val). T (has_ty ty_unit u) × WT u) (sym e) (tt, tt)) $ exec ! 𝓣.C 𝓣.Λ Ev (after 2 fn.body) (at_ret Ev Post) $
    sets ! (of_opd ! (unit_lit !)) refl (tt, tt) $ join ! $ nothing ! $ feq_i ! (List Val) (vunit ∷ []) (vunit ∷ []) refl $ nothing ! $ nothing ! $ fjoin ! $ nothing ! $ nothing ! $ fjoin3 ! $
    returns ! (look_at ! 0 refl) $ free_all ! refl $ keep ! (3 ∷ 0 ∷ 1 ∷ 2 ∷ []) $ by ! (leaves 𝓛 En hs c y vunit tt (tt, (tt, (tt, tt))) (tt, (tt, (tt, tt))))))))))))
