use Rattle.std.proofs.Common.{arith, true≢false, sym}
use Rattle.pg_prefilter.proofs.needle.Needle.new.Goals as goal

pub returns-clause-ahead : goal.returns-clause-ahead
returns-clause-ahead g c = λ searched. record {
  stands = λ sought. absurd (true≢false (sym sought));
  first = λ k low o. omega arith;
}
