use Rattle.std.proofs.Common.{ℕ, List, subst, arith, Some, None}
use Rattle.std.proofs.lemmas.List.{take_rest}
use Rattle.memchr.specs.Find.{IsFirstByte, is_byte}
use Rattle.pg_blocks.proofs.CutLemmas.{finished_after, unfinished_after, searched_none, searched_some}
use Rattle.pg_blocks.proofs.cutter.first_cut.Goals as goal

pub returns-then-piece-from-clause-none : goal.returns-then-piece-from-clause-none
returns-then-piece-from-clause-none c =
    unfinished_after c.args.end c.args.size c.args.rest.now c.args.piece.now c.requires.size c.requires.unfinished
    (λ j low high e. absurd (omega arith))

pub returns-in-Some-clause-some : goal.returns-in-Some-clause-some
returns-in-Some-clause-some c =
    let from = c.saturating_sub-from.result in
    let P : List ℕ → Type 0 = λ ys. IsFirstByte (is_byte c.args.end) ys (Some c.in-Some.len) in
    let found =
    searched_some c.args.end from c.args.piece.now c.in-Some.len
    (subst P (take_rest c.args.piece.now from) c.in-Some.ensures) in
    finished_after c.args.end c.args.size c.args.rest.now c.args.piece.now _ c.requires.size c.requires.unfinished
    (omega arith) found.0 found.1 (λ i low high. found.2 i (omega arith) high)

pub returns-in-None-clause-none : goal.returns-in-None-clause-none
returns-in-None-clause-none c =
    let from = c.saturating_sub-from.result in
    let P : List ℕ → Type 0 = λ ys. IsFirstByte (is_byte c.args.end) ys None in
    let none =
    searched_none c.args.end from c.args.piece.now (subst P (take_rest c.args.piece.now from) c.in-None.ensures) in
    unfinished_after c.args.end c.args.size c.args.rest.now c.args.piece.now c.requires.size c.requires.unfinished
    (λ j low high. none j (omega arith) high)
