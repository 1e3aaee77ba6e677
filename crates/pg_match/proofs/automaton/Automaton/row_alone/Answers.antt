use Rattle.std.proofs.Common.{◌∙◌, ap, subst}
use Rattle.std.specs.Option.{IfSome}
use Rattle.pg_match.specs.Dfas.{In, Same}
use Rattle.pg_match.specs.Steps.{Has}
use Rattle.pg_match.specs.Views.{members, dfa}
use Rattle.pg_match.proofs.StateSetLemmas.{room_swapped}
use Rattle.pg_match.proofs.automaton.Automaton.row_alone.Goals as goal

pub returns-clause-row : goal.returns-clause-row
returns-clause-row g c =
    let kept = c.keep_alone in
    let back = ap members c.swap-2.ensures.x_after ∙ c.has_both-has_both.ensures.next
    ∙ ap members c.swap.ensures.y_after in
    subst (λ s. IfSome kept.result (λ row. Same (Has s) (In (dfa kept.new.cache) row))) back kept.ensures.same

pub has_both-has_both-requires-clause-room : goal.has_both-has_both-requires-clause-room
has_both-has_both-requires-clause-room g c =
    room_swapped _ _ _ (ap members c.swap.ensures.x_after) (ap members c.swap.ensures.y_after) c.requires.room

pub returns-then-not-has_both-clause-room : goal.returns-then-not-has_both-clause-room
returns-then-not-has_both-clause-room g c =
    room_swapped _ _ _ (ap members c.swap-2.ensures.x_after) (ap members c.swap-2.ensures.y_after)
    c.has_both-has_both.ensures.room

pub returns-clause-room : goal.returns-clause-room
returns-clause-room g c =
    room_swapped _ _ _ (ap members c.swap-2.ensures.x_after) (ap members c.swap-2.ensures.y_after)
    c.has_both-has_both.ensures.room
