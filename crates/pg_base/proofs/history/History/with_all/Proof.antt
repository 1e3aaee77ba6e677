-- `with_all` chooses the list with the values at its end.
use Rattle.pg_base.proofs.HistorySteps.{[], ◌∷◌, ◌++◌, refl, proved, inst_fn, a_type, named, ‵, raw, ◌⊛◌, ◌$◌, ◌∵◌, ! }
use Rattle.pg_base.proofs.HistorySteps.{qed, done, move, keep, split, suffices, agg, enter, returns, no_more}
use Rattle.pg_base.proofs.HistorySteps.{and_then, alloc_all, pass_all, free_all, look_at, get, sets, yes, param}
use Rattle.pg_base.proofs.HistorySteps.{layouts, RattleType, owns, shr_vals, shr_Tells, shr_slice_vals}
use Rattle.pg_base.proofs.HistorySteps.{shr_slice_Tells, pure_i, plain, types_at, alive, Stays, walk_of, says}
use Rattle.pg_base.proofs.HistorySteps.{stay_none_ref, stay_none_slice, Goes-none_ref, Goes-none_slice, ends_at, none}
use Rattle.pg_base.proofs.HistorySteps.{one_none}
use Rattle.pg_base.specs.contracts.history.History as History
use Rattle.pg_base.specs.contracts.history.History.with_all as f
use Rattle.pg_base.proofs.history.History.with_all.Statement.{statement}
use Rattle.pg_base.proofs.history.History.with_all.Code as code

pub with_all_spec : {M : Type 1} → statement M
with_all_spec 𝓤 𝓛 𝓜 𝓡 wired A LA =
    let Item : RattleType = param 0 A in let R : RattleType = History.the_row Item in
    let T = f.ended A in let c = f.clauses A 𝓛 𝓜.mem 𝓡.returns in
    let hs : Stays T.signature.params T.kept =
    (stay_none_ref (0 ∷ []) tt (plain (λ _. R)) yes, (stay_none_slice (1 ∷ []) tt (plain (λ _. Item)) yes, tt))
    in let W = walk_of 𝓛 T hs c in
    let types = layouts (a_type ∷ []) (A, tt) in
    proved 𝓛 T hs c 𝓜 𝓡 (
      Goes-none_ref 𝓛 3 (0 ∷ []) tt (plain (λ _. R)) yes,
      (Goes-none_slice 𝓛 3 (1 ∷ []) tt (plain (λ _. Item)) yes, tt),
    )
    (f.Key.name types) (inst_fn types code.function) (code.unfolded 𝓤 𝓛.H 𝓜 𝓡 wired (A, tt))
    (λ κs. (shr_vals, (shr_slice_vals, tt)))
    (λ κs. (shr_Tells (named 0) κs.0 R, (shr_slice_Tells (named 1) κs.1.0 Item, tt))) (λ κs qs bounds a g are.
    let y : W.Ghost = ((κs, qs, bounds, a, (shr_vals a.0, (shr_slice_vals a.1.0, tt))), g) in
    let made : R.Denot = record { kind = record {}; items = a.0.now.items ++ a.1.0.now } in
    qed 𝓛 ((raw (alive 𝓛 T.signature κs qs) ⊛ ‵ (owns (types_at T.signature.params κs) a y.0.4)) ∷ raw
    ((c κs a).requires g) ∷ []) ∵
    keep ! (0 ∷ []) $ split ! $
    enter ! _ _ _ _ _ $ alloc_all ! (λ l. pass_all ! refl
    ((tt, tt), ((tt, (tt, (record { fits = are.1.0.0.1.0 }, tt))), tt)) $
    sets ! (agg ! (no_more !)) refl (tt, tt) $
    sets ! (agg ! (and_then ! (get ! refl) (no_more !))) refl (tt, (tt, tt)) $
    returns ! (look_at ! 0 refl) $ free_all ! refl $
    suffices ! _ (ends_at 𝓛 T hs c y one_none made (tt, (tt, tt)) (tt, (tt, tt))) $ says ! refl $
    -- [the tokens; the parameters], and then the value that was made
    pure_i ! (R.own_val made (one_none ∷ [])) ((λ vss. (tt, ((λ uss. (tt, tt)), tt))), tt)
    (((none ∷ [], tt), (refl, ((tt, (refl, tt)), tt))), tt) $
    move ! (1 ∷ 2 ∷ 0 ∷ []) $ done !))
