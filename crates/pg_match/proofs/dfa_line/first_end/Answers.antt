use Rattle.std.proofs.Common.{◌+◌, List, ℕ, Some, None, subst}
use Rattle.std.proofs.lemmas.List.{take_rest}
use Rattle.memchr.specs.Find.{IsFirstByte, is_byte}
use Rattle.pg_match.proofs.LineLemmas.{first_found, first_none}
use Rattle.pg_match.proofs.dfa_line.first_end.Goals as goal

pub returns-in-Some-clause-first : goal.returns-in-Some-clause-first
returns-in-Some-clause-first c =
    let a = c.args in
    let F : List ℕ → Type 0 = λ xs. IsFirstByte (is_byte a.end) xs (Some c.in-Some.len) in
    first_found a.end a.bytes.now a.place c.requires.within c.requires.clear c.in-Some.len
    (subst F (take_rest a.bytes.now (a.place + 1)) c.in-Some.ensures)

pub returns-in-None-clause-first : goal.returns-in-None-clause-first
returns-in-None-clause-first c =
    let a = c.args in
    let F : List ℕ → Type 0 = λ xs. IsFirstByte (is_byte a.end) xs None in
    first_none a.end a.bytes.now a.place c.requires.within c.requires.clear
    (subst F (take_rest a.bytes.now (a.place + 1)) c.in-None.ensures)
