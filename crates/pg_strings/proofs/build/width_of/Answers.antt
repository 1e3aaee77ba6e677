use Rattle.std.proofs.Common.{◌≤◌, length, arith}
use Rattle.std.proofs.lemmas.List.Elements.{All-map}
use Rattle.pg_pattern.specs.Strings.{items_of}
use Rattle.pg_strings.proofs.build.width_of.Goals as goal

pub returns-clause-long : goal.returns-clause-long
returns-clause-long g c =
    All-map (λ string. (1 ≤ length string) × (3 ≤ length string → c.loop-string.width ≤ length string)) items_of
    c.args.strings.now
    (λ k d low. (
      c.requires k d low,
      c.loop-string.invariant.long k d (omega
          (arith, low, c.loop-string-test.false)),
    ))
