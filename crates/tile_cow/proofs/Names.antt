-- The names that the walks cite.
pub use Rattle.std.proofs.Common.{◌≡◌, ◌≢◌, ℕ, ◌+◌, ◌-◌, ◌*◌, ◌/◌, ◌%◌, ◌^◌, ◌<◌, ◌≤◌, Bool, true, false, List, [], ◌∷◌, ◌++◌, length, replicate, refl, sym, ap, ◌∙◌, subst, lit<, w64, arith, T}
pub use mir.Syntax.{w8, Ty, ty_int, ty_array, ty_struct, tcons, tnil, named}
pub use mir.Val.{Val, vint, vptr, vstruct, vcons, vnil, WT, has_ty, vunit}
pub use base.Fraction.{full_share}
pub use base.Logic.{SProp, ent, sep, wand, emp, id⊢, never, fst∗, apply∗, via}
pub use base.Fml.{Lft, Share, Fml, ftrue, fsep, fex, fat, froom, flft, finv, fhide, feq}
pub use prog.Wp.{Env, WpFn}
pub use types.Logic.{Logic, sem}
pub use types.Kit.{‵, raw, ◌⊛◌, some, given, later, mean, at_ret, ◌$◌, ◌∵◌, !, qed, by, move, keep, drop, group, use0, use1, use2, use3, split, split3, join, pick, learn, rewrite, assume, fsplit, fsplit3, fjoin, fjoin3, fpick, fpack, feq_i, feq_l, flt_i, flt_l, suffices, await, done}
pub use types.Part.{whole, sub, agg, look_in}
pub use types.Run.{stop, fld, hop, load, addr, lit, of_opd, bin, look, init, store, no_more, and_then, assigns, assigns_last, first, blocks, exec, returns, enter, branches, Calls-last}
pub use types.ByLocal.{alloc_all, pass_all, free_all, look_at, get, get_in, through, is, sets, sets_last, lands_last, env}
pub use types.Match.{live}
pub use contract.Monad.{fact, fact_i}
pub use contract.Running.{tables}
pub use denote.Exit.{yes, no}
pub use denote.RattleType.{RattleType, owns}
pub use denote.Builtin.{RefOf, usize, u64, u8}
pub use denote.Signature.{plain, types_at}
pub use denote.RawPtr.{Ptr, RawPtr, block_ptr, null_ptr, ptr_val, room_for, in_a_block}
pub use denote.Plain.{uint_vals, uint_Tells}
pub use denote.Steps.{heard, nothing, only}
pub use denote.Struct.Tuple.{Tuple}
pub use denote.Triple.Call.{calls_at, calls_at_last}
pub use denote.Triple.Walked.{Stays, stay_dropped, walk_of, Goes-dropped}
pub use Rattle.core.proofs.alloc.Shapes.{after}
pub use Rattle.std.proofs.raw_atomic.Walks.{proved, proved_at, leaves}
pub use Rattle.std_alloc.proofs.Pairs.{pair_val, pair_of}
pub use base.Logic.{all_e}
pub use lib.Dec.{eqb→eq, eqb}
pub use types.Tokens.{lent_back}
pub use denote.Ref.{shr_vals, shr_Tells}
pub use Rattle.atomic_table.proofs.Calls.{fm, seq_cst, found, finds, loads, subs, exchanges}
pub use Rattle.core.specs.declared.option.Option.TheVariants.{Some, None}
pub use Rattle.core.specs.declared.result.Result.TheVariants.{Ok, Err}
pub use Rattle.std_alloc.proofs.RcSteps.{some_Good, first_Good, Some-of, none_of, is_not}
pub use Rattle.std_alloc.proofs.ResultValues.{ok_of, err_of}
