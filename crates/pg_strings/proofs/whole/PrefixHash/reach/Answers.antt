use Rattle.std.proofs.Common.{◌≡◌, ◌+◌, ◌-◌, ◌∙◌, take, drop, ap, arith}
use Rattle.pg_strings.specs.Whole.{hash_behind}
use Rattle.pg_strings.proofs.WholeLemmas.{prefix_more}
use Rattle.pg_strings.proofs.whole.PrefixHash.reach.Goals as goal
use Rattle.pg_strings.proofs.whole.PrefixHash.reach.Goals.{then-len-self, else-len-self}

pub returns-clause-prefix : goal.returns-clause-prefix
returns-clause-prefix c =
    let bytes = c.args.bytes.now in
    let place = c.args.place in
    let len = c.args.len in
    record {
      within = c.requires.there;
      hash = elim c.if-len-self.branch [
        | then-len-self w ↦
            let same : place + len - place ≡ len = omega arith in
            ap (λ it. it.hash) w.self-is
            ∙ (w.hash_of-self.ensures ∙ ap (λ n. hash_behind 0 (take n (drop place bytes))) same)
        | else-len-self w ↦
            ap (λ it. it.hash) w.self-is
            ∙ (w.hash_behind-self.ensures
            ∙ prefix_more bytes place c.args.self.now.len len c.args.self.now.hash w.if-len-self.false
            c.requires.prefix.hash)
      ];
    }
