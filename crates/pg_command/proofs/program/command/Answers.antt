use Rattle.std.proofs.Common.{rules, ◌≡◌, ◌∙◌, ap, inl, map, sym, subst, Global, List, Result, String}
use Rattle.std.specs.String.{string_bytes}
use Rattle.pg_words.specs.Asked.{Asked, asked_of, pace_of}
use Rattle.pg_words.specs.Asks.{Asks, AsksSearch, asks, asks_of}
use Rattle.pg_words.specs.Gives.{Gives, IsWordsFault, IsTask}
use Rattle.pg_words.specs.Joined.{asked}
use Rattle.pg_words.specs.Line.{table}
use Rattle.pg_words.specs.declared.words.Task.{Task}
use Rattle.pg_words.specs.declared.words.Task.TheVariants.{Search}
use Rattle.pg_words.specs.declared.words.WordsFault.{WordsFault}
use Rattle.pg_command.specs.Answers.{AnswersSearch}
use Rattle.pg_command.specs.Command.{Does}
use Rattle.pg_command.proofs.RefusalLemmas.{refusal_told}
use Rattle.pg_command.proofs.program.command.Goals as goal

-- the words ask for the search of the request
pub returns-in-Ok-Search-clause-commands : goal.returns-in-Ok-Search-clause-commands
returns-in-Ok-Search-clause-commands g c =
    let request = c.in-Ok-Search.request in
    let joined = asks_of (asked table (map string_bytes c.in-Ok.joined.parts.items)) in
    let same : c.in-Ok-Search.field-0 ≡ Search request = search rules in
    let given : joined ≡ AsksSearch (asked_of request) (pace_of request) =
    subst (IsTask joined) same
    (subst (λ (r : Result Task WordsFault). Gives joined r) c.in-Ok-Search.is c.read_words.ensures) in
    let words = map string_bytes c.args.call.now.words.items in
    let asked_for : asks words ≡ AsksSearch (asked_of request) (pace_of request) =
    ap (λ (texts : List (String Global)). asks (map string_bytes texts)) (sym c.as_slice.ensures.value)
    ∙ (ap asks_of (sym c.in-Ok.ensures) ∙ given) in
    let terminal = c.args.call.now.terminal in
    inl (
    subst
    (λ (a : Asks). Does (g.T.FileTree.tells c.args.tree.now) (g.T.FileTree.answers c.args.tree.now) terminal a
    (g.S.Store.past c.args.files.now.store) (g.S.Store.past c.answer.new.files.store)
    (g.W.Sink.stream c.args.out.now) (g.W.Sink.stream c.answer.new.out) (g.E.Sink.stream c.args.err.now)
    (g.E.Sink.stream c.answer.new.err)
    c.answer.result)
    (sym asked_for) (subst
    (λ (asked : Asked). AnswersSearch (g.T.FileTree.tells c.args.tree.now) (g.T.FileTree.answers c.args.tree.now) asked
    (g.S.Store.past c.args.files.now.store) (g.S.Store.past c.answer.new.files.store)
    (g.W.Sink.stream c.args.out.now) (g.W.Sink.stream c.answer.new.out) (g.E.Sink.stream c.args.err.now)
    (g.E.Sink.stream c.answer.new.err)
    c.answer.result)
    c.request_on-request.ensures.asked c.answer.ensures.answers)
    )

-- why the words aren't taken was told
pub returns-clause-commands : goal.returns-clause-commands
returns-clause-commands g c =
    let fault = c.in-Err.fault in
    let joined = asks_of (asked table (map string_bytes c.in-Ok.joined.parts.items)) in
    let given : IsWordsFault joined fault =
    subst (λ (r : Result Task WordsFault). Gives joined r) c.in-Err.is c.read_words.ensures in
    let words = map string_bytes c.args.call.now.words.items in
    let asked_for : IsWordsFault (asks words) fault =
    subst (λ (a : Asks). IsWordsFault a fault)
    (ap asks_of c.in-Ok.ensures
    ∙ ap (λ (texts : List (String Global)). asks (map string_bytes texts)) c.as_slice.ensures.value) given in
    refusal_told (g.T.FileTree.tells c.args.tree.now) (g.T.FileTree.answers c.args.tree.now) c.args.call.now.terminal
    (g.S.Store.past c.args.files.now.store) (g.W.Sink.stream c.args.out.now) (g.E.Sink.stream c.args.err.now)
    (g.E.Sink.stream c.refuse-in-Err.new.err)
    c.refuse-in-Err.result fault (asks words) asked_for
    c.refuse-in-Err.ensures.told c.refuse-in-Err.ensures.fault
