use Rattle.std.proofs.Common.{◌∙◌, ◌++◌, [], ◌∷◌, ap, refl, length, arith}
use Rattle.pg_base.proofs.SinkLemmas.{on_err}
use Rattle.pg_seq.specs.declared.opening.Opening.{Opening}
use Rattle.pg_plan.specs.History.{plan}
use Rattle.pg_seq.proofs.PlaceLemmas.{starts_length}
use Rattle.pg_seq.proofs.StandLemmas.{same_buffer, may_open, opened_stands, same_stands}
use Rattle.pg_seq.proofs.assembler.Assembler.open.Goals as goal

pub open_file-requires : goal.open_file-requires
open_file-requires g c =
    let first = c.requires.1 in
    let long = ap length first.0.starts ∙ starts_length (plan c.requires.0) in
    let few = first.1.1 in
    omega arith

pub returns-in_err-reserve-clause-err : goal.returns-in_err-reserve-clause-err
returns-in_err-reserve-clause-err g c = λ past h.
    on_err _ c.from_residual-in_err-reserve.result
    (same_stands c.args.self.now _ past h (record { selector = refl; format = refl; running = refl; bad = refl })
    (record { handed = refl; printing = refl; printer = refl }) c.reserve.ensures.items (same_buffer _) refl)

pub returns-clause-ok : goal.returns-clause-ok
returns-clause-ok g c = λ past h.
    let s = c.args.self.now in
    let first = c.requires.1 in
    let o = c.in_ok-open_file.ensures.ok in
    let opening : Opening _ = record { start = c.announced-start.result; prefix = c.in_ok-prefix.prefix } in
    opened_stands s _ past c.args.name.now h (may_open s past c.requires.0 c.args.name.now h first.0 first.1)
    refl refl refl refl (record { handed = o.handed; printing = refl; printer = refl }) opening
    (c.in_ok-push_back.ensures.items ∙ ap (λ xs. xs ++ opening ∷ []) c.reserve.ensures.items) c.announced-start.ensures
    c.in_ok-prefix.ensures refl o
