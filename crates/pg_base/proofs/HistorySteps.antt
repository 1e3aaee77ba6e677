-- The proofs by hand of `History` in common. Each of these functions makes a value of no bytes, and its proof chooses
-- the value's list.
pub use Rattle.std.proofs.Common.{[], ◌∷◌, ◌++◌, refl}
pub use Rattle.std.proofs.raw_atomic.Walks.{proved}
pub use mir.MapTy.{inst_fn}
pub use mir.Syntax.{a_type, named}
pub use types.Kit.{‵, raw, ◌⊛◌, ◌$◌, ◌∵◌, !, qed, done, move, keep, split, suffices}
pub use types.Part.{agg}
pub use types.Run.{enter, returns, no_more, and_then}
pub use types.ByLocal.{alloc_all, pass_all, free_all, look_at, get, sets}
pub use denote.Exit.{yes}
pub use denote.Param.{param, layouts}
pub use denote.RattleType.{RattleType, owns}
pub use denote.Ref.{shr_vals, shr_Tells}
pub use denote.Shadow.{pure_i}
pub use denote.Signature.{plain, types_at}
pub use denote.Slice.{shr_slice_vals, shr_slice_Tells}
pub use denote.Triple.Entry.{alive}
pub use denote.Triple.Walked.{Stays, walk_of, says, stay_none_ref, stay_none_slice, Goes-none_ref, Goes-none_slice}
pub use denote.Triple.Walked.{ends_at}
use mir.Val.{Val, vstruct, vcons, vnil}

-- a struct with no field, and a struct whose one field is such a struct
abbrev pub none : Val
none = vstruct vnil

abbrev pub one_none : Val
one_none = vstruct (vcons none vnil)
