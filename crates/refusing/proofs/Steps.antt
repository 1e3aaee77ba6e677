-- The names that the walks cite.
pub use Rattle.std.proofs.Common.{◌≡◌, ℕ, ◌+◌, Bool, true, false, List, [], ◌∷◌, ◌++◌, Ok, Err, refl, ap, w64}
pub use Rattle.std.proofs.raw_atomic.Walks.{proved, leaves}
pub use Rattle.std.proofs.alloc.Calls.{Al, α, seen, token, Answer, answer_val, Answer-typed, Answer-Ok, Answer-err}
pub use Rattle.std.proofs.alloc.Calls.{Takes, at_takes, Answered, Takes-goes, Takes-gives, answers, Gives, at_gives}
pub use Rattle.std.proofs.alloc.Calls.{Gives-goes, Gives-Gives}
pub use seplogic.Ra.Ura.{Ura}
pub use mir.Syntax.{Args, Fn, a_type, dnil, dcons}
pub use mir.Val.{Val, vunit, vbool, vint, vptr}
pub use mir.MapTy.{inst_fn}
pub use base.Logic.{id⊢, fst∗, never}
pub use base.Fml.{ftrue, ffalse, fsep, froom, flft}
pub use prog.Memory.{size, align, capped, up}
pub use prog.Wp.{WpFn}
pub use types.Logic.{Logic, sem}
pub use contract.BorrowLft.{◌⊑◌, ⊑_trans}
pub use contract.Monad.{fact}
pub use contract.Running.{tables}
pub use types.Kit.{‵, raw, ◌⊛◌, some, later, given, prop, at_ret, Sq, Item, ◌$◌, ◌∵◌, !, qed, done, by, move, keep}
pub use types.Kit.{drop, use0, use1, use2, split, split3, join, fsplit, fjoin, group, feq_i, feq_l, pick, learn, await}
pub use types.Kit.{suffices, regoal}
pub use types.Part.{agg}
pub use types.Run.{enter, of_opd, lit, unit_lit, addr, fld, stop, no_more, and_then, first, branches, skips, exec}
pub use types.Run.{returns, returns_within}
pub use types.ByLocal.{alloc_all, pass_all, free_all, look_at, get, through, sets, lands_as, env}
pub use denote.Builtin.{usize, bool, unit, RawPtr, RefOf}
pub use denote.Exit.{yes}
pub use denote.Memory.{hidden_shr}
pub use denote.Opens.{unhide}
pub use denote.Param.{bounded, param}
pub use denote.Plain.{uint_vals, uint_Tells}
pub use denote.RattleType.{owns}
pub use denote.RawPtr.{Ptr, block_ptr, null_ptr, room_for, in_a_block, rawptr_vals, rawptr_Tells}
pub use denote.Ref.{shr_vals}
pub use denote.Signature.{Slot, plain, types_at}
pub use denote.Steps.{nothing, heard, only}
pub use denote.Triple.Call.{calls_at}
pub use denote.Triple.Clauses.{Ended, Clauses, lasts}
pub use denote.Triple.Spec.{triple_of}
pub use denote.Triple.Table.{framed}
pub use denote.Triple.Walked.{Stays, stay_dropped, walk_of, Goes-dropped}
