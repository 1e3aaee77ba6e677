use Rattle.std.proofs.Common.{◌≤◌, length, arith}
use Rattle.std.proofs.lemmas.List.Elements.{All-map}
use Rattle.pg_pattern.specs.Strings.{items_of}
use Rattle.pg_strings.proofs.short.all_longer.Goals as goal

pub returns : goal.returns
returns g c = λ yes.
    All-map (λ string. 3 ≤ length string) items_of c.args.strings.now
    (λ k d low. c.loop-string.invariant k d (omega (arith, low, c.loop-string-test.false)))
