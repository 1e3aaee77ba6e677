use Rattle.std.proofs.Common.{◌∙◌, ap, arith, ℕ, Option}
use Rattle.std.specs.Prelude.{unwrap_or}
use Rattle.clap.specs.Matches.{found_of}
use Rattle.pg_words.proofs.Numbers.{number_within}
use Rattle.pg_words.proofs.matches.number_within.Goals as goal

pub returns-then-number-eq0-clause-exact : goal.returns-then-number-eq0-clause-exact
returns-then-number-eq0-clause-exact c = λ us is behind.
    let default = c.args.default in
    let exact = c.unwrap_or-number.ensures ∙ ap (λ (o : Option ℕ). unwrap_or o default)
    (c.number.ensures us is (1, c.args.most, behind, omega (arith, c.ranges.most.fits))) in
    let within = number_within us (found_of c.args.found.now) c.args.name.now 1 c.args.most default
    c.unwrap_or-number.result is behind c.requires.0 c.requires.1 exact in
    absurd (omega (arith, within.0, c.if-number-eq0.true))

pub returns-then-number-most-clause-exact : goal.returns-then-number-most-clause-exact
returns-then-number-most-clause-exact c = λ us is behind.
    let default = c.args.default in
    let exact = c.unwrap_or-number.ensures ∙ ap (λ (o : Option ℕ). unwrap_or o default)
    (c.number.ensures us is (1, c.args.most, behind, omega (arith, c.ranges.most.fits))) in
    let within = number_within us (found_of c.args.found.now) c.args.name.now 1 c.args.most default
    c.unwrap_or-number.result is behind c.requires.0 c.requires.1 exact in
    absurd (omega (arith, within.1, c.if-number-most.true))

pub returns-clause-exact : goal.returns-clause-exact
returns-clause-exact c = λ us is behind.
    c.unwrap_or-number.ensures ∙ ap (λ (o : Option ℕ). unwrap_or o c.args.default)
    (c.number.ensures us is (1, c.args.most, behind, omega (arith, c.ranges.most.fits)))
