use Rattle.std.proofs.lemmas.Bool.Decides.{Decides-eqb}
use Rattle.std.proofs.lemmas.Slice.Eq.{slice_eq-Decides}
use Rattle.pg_strings.proofs.compare.is_text.Goals as goal

pub returns : goal.returns
returns c = slice_eq-Decides Decides-eqb c.args.string.now c.args.text.now c.eq.result c.eq.ensures
