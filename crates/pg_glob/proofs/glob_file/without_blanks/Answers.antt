use Rattle.std.proofs.Common.{◌∙◌, ap, sym}
use Rattle.pg_glob.specs.GlobFiles.{without_blanks}
use Rattle.pg_glob.proofs.GlobFileLemmas.{blank_end, other_end}
use Rattle.pg_glob.proofs.glob_file.without_blanks.Goals as goal

pub returns-then-not-is_blank : goal.returns-then-not-is_blank
returns-then-not-is_blank c =
    let text = c.in-Some.ensures.cases.0 in
    let other = sym c.is_blank.ensures ∙ c.if-not-is_blank.true in
    text ∙ (sym (other_end c.in-Some.front.now c.in-Some.byte.now other)
    ∙ (ap without_blanks (sym text) ∙ c.loop-byte.invariant))

pub loop-byte-preserved : goal.loop-byte-preserved
loop-byte-preserved c =
    let text = c.in-Some.ensures.cases.0 in
    let blank = sym c.is_blank.ensures ∙ c.if-not-is_blank.false in
    sym (blank_end c.in-Some.front.now c.in-Some.byte.now blank)
    ∙ (ap without_blanks (sym text) ∙ c.loop-byte.invariant)
