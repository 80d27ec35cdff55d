-- `first` shares the block with one owner.
use Rattle.std.proofs.Common.{◌≡◌, ℕ, List, [], ◌∷◌, refl, sym}
use mir.Val.{Val}
use base.Logic.{SProp, emp, id⊢, never}
use base.Fml.{ftrue}
use types.Kit.{‵, raw, ◌⊛◌, later, rewrite, ◌$◌, ◌∵◌, !, qed, by, move, keep, drop, use0, use1, split, fsplit, fjoin, await}
use types.Part.{whole, sub, agg}
use types.Run.{stop, fld, no_more, and_then, of_opd, returns, enter}
use types.ByLocal.{alloc_all, pass_all, free_all, look_at, get, get_in, sets}
use contract.Monad.{fact, fact_i}
use denote.RattleType.{RattleType, owns}
use denote.Signature.{plain, types_at}
use denote.RawPtr.{Ptr, block_ptr, in_a_block}
use denote.Steps.{heard, nothing}
use denote.Triple.Walked.{Stays, stay_dropped, walk_of, Goes-dropped}
use Rattle.std.proofs.raw_atomic.Walks.{proved, leaves}
use Rattle.tile_cow.specs.Block.{block_owns, IsWritten}
use Rattle.tile_cow.specs.Owner.{owner_has}
use Rattle.tile_cow.specs.contracts.block.Block as Block
use Rattle.tile_cow.specs.contracts.owner.Owner as Owner
use Rattle.tile_cow.specs.contracts.owner.Owner.first.{ended, clauses, signature}
use Rattle.tile_cow.specs.contracts.owner.Owner.first.Key.{name as #self}
use Rattle.tile_cow.proofs.Fields.{pointer, pointer_told, pointer_made, pointer_own, pointer_good, ptr_good}
use Rattle.tile_cow.proofs.Contents.{starts}
use Rattle.tile_cow.proofs.owner.Owner.first.Statement.{statement}
use Rattle.tile_cow.proofs.owner.Owner.first.Code as code

pub first_spec : {M : Type 1} → statement M
first_spec 𝓤 𝓛 𝓜 𝓡 wired =
    let c = clauses 𝓛 𝓜.mem 𝓡.returns in let B : RattleType = Block.the_row in
    let hs : Stays signature.params ended.kept = (stay_dropped (plain (λ _. B)) ended.kept.0, tt) in
    proved 𝓛 ended hs c 𝓜 𝓡 (Goes-dropped 𝓛 0 (plain (λ _. B)) ended.kept.0 (λ κs x f. refl), tt) #self code.function (code.unfolded 𝓤 𝓛.H 𝓜 𝓡 wired)
    (λ κs. ((λ x. pointer x.words ∷ []), tt)) (λ κs. ((λ x vs is. pointer_told x.words vs is.0), tt)) (λ κs qs bounds a gh are.
    let it : B.Denot = a.0 in let p : Ptr = it.words in let xs : List ℕ = it.bytes in
    let y : (walk_of 𝓛 ended hs c).Ghost = ((κs, qs, bounds, a, (pointer p ∷ [], tt)), gh) in let Post : Val → SProp 𝓤 = (walk_of 𝓛 ended hs c).post y in
    qed 𝓛 ((‵ ftrue ⊛ ‵ (owns (types_at signature.params κs) a y.0.4)) ∷ raw (fact 𝓤 ((it.owners ≡ 1) × IsWritten xs it.filled)) ∷ []) ∵
    move ! (1 ∷ []) $ heard ! _ (λ asked. split ! $ drop ! $ fsplit ! $ fsplit ! $ move ! (1 ∷ []) $ keep ! (0 ∷ []) $
    in_a_block ! p (λ r. block_owns r it.owners xs it.filled) (id⊢ 𝓤 (never 𝓤)) (λ b o at.
    rewrite ! 0 (λ (k : ℕ). ‵ (block_owns (block_ptr b o) k xs it.filled)) asked.0 refl $
    let new : Owner.the_row.Denot = record { words = p; bytes = xs } in
    enter ! _ _ _ (pointer p ∷ []) Post $ alloc_all ! (λ l. pass_all ! refl (pointer_good [] p, tt) $
    use1 𝓛 (later (‵ (owner_has (block_ptr b o) xs))) (starts 𝓛 b o xs it.filled asked.1) $ await ! tt $
    sets ! (of_opd ! (get_in ! (fld ! refl (stop !)) (sub ! 0 refl (whole !)))) refl (ptr_good p) $
    sets ! (agg ! (and_then ! (get ! refl) (no_more !))) refl (pointer_good [] p) $
    rewrite ! 0 (λ (r : Ptr). ‵ (owner_has r xs)) (sym at) refl $
    use0 𝓛 (‵ (pointer_own p (pointer p ∷ []))) (pointer_made 𝓛 p) $ fjoin ! $
    use0 𝓛 (raw (fact 𝓤 (xs ≡ xs))) (fact_i 𝓤 (xs ≡ xs) (emp 𝓤) refl) $ nothing ! $ nothing ! $ fjoin ! $ nothing ! $
    returns ! (look_at ! 0 refl) $ free_all ! refl $ move ! (0 ∷ 1 ∷ 3 ∷ 2 ∷ []) $ by ! (leaves 𝓛 ended hs c y (pointer p) new (tt, tt) (tt, tt))))))
