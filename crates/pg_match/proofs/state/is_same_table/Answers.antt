use Rattle.std.specs.Bool.{Decides}
use Rattle.std.proofs.Common.{◌≡◌}
use Rattle.std.proofs.Common.{rules}
use Rattle.std.proofs.lemmas.Slice.Eq.{slice_eq-Decides}
use Rattle.pg_match.specs.contracts.state.StatePartialEq.TheImpl.{eq-value}
use Rattle.pg_match.specs.declared.state.State.{State}
use Rattle.pg_match.proofs.state.is_same_table.Goals as goal

state_decides : (a b : State) → Decides (eq-value.it a b) (a ≡ b)
state_decides a b = search rules

pub returns : goal.returns
returns c = slice_eq-Decides state_decides c.args.one.now c.args.other.now c.eq.result c.eq.ensures
