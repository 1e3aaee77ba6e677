use Rattle.std.proofs.Common.{arith}
use Rattle.std.proofs.lemmas.Grind.{common_steps}
use Rattle.pg_strings.proofs.ChainLemmas.{pushed_as}
use Rattle.pg_strings.proofs.chains.Chains.push.Goals as goal

pub returns : goal.returns
returns g c = λ homes chains.
    pushed_as c.args.self.now.first.items c.args.self.now.next.items homes c.push.new.self.items c.args.chain
    c.len-count.result c.index-before.result.now
    (let links = chains.links in grind (arith, c.len-count.ensures, links))
    (grind (arith, common_steps, c.index-before.ensures, c.requires.count, c.requires.chain))
    (let items = c.in_ok-push.ensures.items in grind (arith, items)) c.requires.chain chains
