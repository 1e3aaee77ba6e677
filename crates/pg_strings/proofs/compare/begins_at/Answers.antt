use Rattle.std.proofs.Common.{arith}
use Rattle.std.proofs.lemmas.Grind.{common_steps}
use Rattle.pg_strings.proofs.PlaceLemmas.{stands_is}
use Rattle.pg_strings.proofs.compare.begins_at.Goals as goal

pub returns : goal.returns
returns c = stands_is c.args.bytes.now c.args.string.now _ c.args.place c.starts_with.result c.requires (grind
    (arith, common_steps)) c.starts_with.ensures.value
