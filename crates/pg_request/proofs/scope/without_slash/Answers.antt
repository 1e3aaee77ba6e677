use Rattle.std.proofs.Common.{Some, None, sym, ap, ◌∙◌, arith}
use Rattle.std.proofs.lemmas.Str.Pattern.{strip_suffix_char}
use Rattle.pg_request.specs.Asked.{without_slash}
use Rattle.pg_request.proofs.GlobLemmas.{cut_slash, no_slash}
use Rattle.pg_request.proofs.scope.without_slash.Goals as goal

pub returns-in-Some : goal.returns-in-Some
returns-in-Some c =
    let ends = strip_suffix_char 47 c.args.glob.now (Some c.in-Some.front) c.in-Some.ensures.cases (omega arith) in
    sym (ap without_slash ends ∙ cut_slash c.in-Some.front.now)

pub returns-in-None : goal.returns-in-None
returns-in-None c =
    let none = strip_suffix_char 47 c.args.glob.now None c.in-None.ensures.cases (omega arith) in
    sym (no_slash c.args.glob.now none)
