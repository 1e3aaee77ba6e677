use Rattle.std.proofs.Common.{length, arith, inl, inr}
use Rattle.std.proofs.lemmas.Bool.{cases_lt}
use Rattle.pg_match.proofs.StringLemmas.{size_nothing, size_string}
use Rattle.pg_match.proofs.strings.string_size.Goals as goal

pub returns : goal.returns
returns c = λ fold. elim (cases_lt 0 (length c.args.string.now)) [
  | inl some ↦
      let size = size_string fold c.args.string.now some in omega (arith, size, some, c.capped.ensures, c.max.ensures)
  | inr none ↦
      let size = size_nothing fold c.args.string.now (omega (arith, none)) in
      omega (arith, size, none, c.capped.ensures, c.max.ensures)
]
