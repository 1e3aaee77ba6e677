use Rattle.pg_prefilter.proofs.SuffixLemmas.{suffix_found}
use Rattle.pg_prefilter.proofs.strings.next_suffix.Goals as goal

pub returns : goal.returns
returns g c = λ trees bounds is.
    suffix_found trees bounds c.args.suffix.now is c.args.line.now c.args.from c.in-Some.start
    c.in-Some.ensures c.if-start-from.false
