-- `new` chooses the empty list.
use Rattle.pg_base.proofs.HistorySteps.{[], ◌∷◌, refl, proved, inst_fn, a_type, ‵, raw, ◌⊛◌, ◌$◌, ◌∵◌, !, qed, done}
use Rattle.pg_base.proofs.HistorySteps.{move, keep, split, suffices, agg, enter, returns, no_more, and_then}
use Rattle.pg_base.proofs.HistorySteps.{alloc_all, pass_all, free_all, look_at, get, sets, param, layouts, RattleType}
use Rattle.pg_base.proofs.HistorySteps.{owns, pure_i, types_at, alive, Stays, walk_of, says, ends_at, none, one_none}
use Rattle.pg_base.specs.contracts.history.History as History
use Rattle.pg_base.specs.contracts.history.History.new as f
use Rattle.pg_base.proofs.history.History.new.Statement.{statement}
use Rattle.pg_base.proofs.history.History.new.Code as code

pub new_spec : {M : Type 1} → statement M
new_spec 𝓤 𝓛 𝓜 𝓡 wired A LA =
    let R : RattleType = History.the_row (param 0 A) in
    let T = f.ended A in let c = f.clauses A 𝓛 𝓜.mem 𝓡.returns in
    let hs : Stays T.signature.params T.kept = tt in let W = walk_of 𝓛 T hs c in
    let types = layouts (a_type ∷ []) (A, tt) in
    proved 𝓛 T hs c 𝓜 𝓡 tt
    (f.Key.name types) (inst_fn types code.function) (code.unfolded 𝓤 𝓛.H 𝓜 𝓡 wired (A, tt))
    (λ κs. tt) (λ κs. tt) (λ κs qs bounds a g are.
    let y : W.Ghost = ((κs, qs, bounds, a, tt), g) in
    let made : R.Denot = record { kind = record {}; items = [] } in
    qed 𝓛 ((raw (alive 𝓛 T.signature κs qs) ⊛ ‵ (owns (types_at T.signature.params κs) a y.0.4)) ∷ raw
    ((c κs a).requires g) ∷ []) ∵
    keep ! (0 ∷ []) $ split ! $
    enter ! _ _ _ _ _ $ alloc_all ! (λ l. pass_all ! refl tt $
    sets ! (agg ! (no_more !)) refl (tt, tt) $
    sets ! (agg ! (and_then ! (get ! refl) (no_more !))) refl (tt, (tt, tt)) $
    returns ! (look_at ! 0 refl) $ free_all ! refl $
    suffices ! _ (ends_at 𝓛 T hs c y one_none made tt tt) $ says ! refl $
    -- [the tokens; the parameters], and then the value that was made
    pure_i ! (R.own_val made (one_none ∷ [])) ((λ vss. (tt, ((λ uss. (tt, tt)), tt))), tt)
    (((none ∷ [], tt), (refl, ((tt, (refl, tt)), tt))), tt) $
    move ! (1 ∷ 2 ∷ 0 ∷ []) $ done !))
