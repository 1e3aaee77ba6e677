use Rattle.std.proofs.Common.{◌≡◌, ◌∙◌, ap, sym, subst, map, List, ℕ, ⊎_elim, []}
use Rattle.std.specs.String.{string_bytes}
use Rattle.clap.specs.Words.{App, app_of, fault_of, found_of, is_simple, is_simple_and_free, matches_of, rows_of}
use Rattle.clap.specs.Words.{IsAmong, kind_of}
use Rattle.clap.specs.declared.error.kind.ErrorKind.{ErrorKind}
use Rattle.pg_words.specs.App.{our_app}
use Rattle.pg_words.specs.Asks.{asks_of}
use Rattle.pg_words.specs.Gives.{Gives}
use Rattle.pg_words.specs.Joined.{asked}
use Rattle.pg_words.specs.Line.{table, Uses}
use Rattle.pg_words.proofs.Answered.{gives, out_of_memory, refused_words, refuses, utf8_strings}
use Rattle.pg_words.proofs.Rules.{ours_is_simple}
use Rattle.pg_words.proofs.words.read_words.Goals as goal

pub returns-in_ok-filters-in-Ok : goal.returns-in_ok-filters-in-Ok
returns-in_ok-filters-in-Ok c =
    let parts = c.args.words.now.parts.items in
    let ws = map string_bytes parts in
    let is_app : app_of c.in_ok-command.command ≡ our_app = c.in_ok-command.ensures in
    let same : map string_bytes c.as_slice.result.now ≡ ws = ap (map string_bytes) c.as_slice.ensures in
    let simple = ap is_simple_and_free is_app ∙ ours_is_simple in
    let none : fault_of our_app ws ≡ [] =
    ap (fault_of our_app) (sym same) ∙ (ap (λ (a : App). fault_of a (map string_bytes c.as_slice.result.now))
    (sym is_app)
    ∙ c.in-Ok.ensures.kinds simple) in
    let rows : rows_of (found_of c.in-Ok.found) ≡ matches_of our_app ws =
    (c.in-Ok.ensures.matches (ap is_simple is_app)).0
    ∙ (ap (λ (a : App). matches_of a (map string_bytes c.as_slice.result.now)) is_app ∙ ap (matches_of our_app) same) in
    let got = gives ws (found_of c.in-Ok.found) (utf8_strings parts) c.args.words.now.complete none rows in
    subst (λ (U : Uses). Gives (asks_of U) c.task_of.result) (sym got.1)
    (c.task_of.ensures got.0 got.2
    (c.ignores_case.ensures got.0
    (ap (λ (l : List (List ℕ)). asked table l) (ap (map string_bytes) c.as_slice-in-Ok-2.ensures) ∙ got.1))
    (c.separator_of.ensures got.0
    (ap (λ (l : List (List ℕ)). asked table l) (ap (map string_bytes) c.as_slice-in-Ok-3.ensures) ∙ got.1))
    (c.in_ok-filters-in-Ok.ensures got.0
    (ap (λ (l : List (List ℕ)). asked table l) (ap (map string_bytes) c.as_slice-in-Ok.ensures) ∙ got.1)))

pub returns-in-Err : goal.returns-in-Err
returns-in-Err c =
    let parts = c.args.words.now.parts.items in
    let ws = map string_bytes parts in
    let is_app : app_of c.in_ok-command.command ≡ our_app = c.in_ok-command.ensures in
    let same : map string_bytes c.as_slice.result.now ≡ ws = ap (map string_bytes) c.as_slice.ensures in
    let simple = ap is_simple_and_free is_app ∙ ours_is_simple in
    let kinds : fault_of (app_of c.in_ok-command.command) (map string_bytes c.as_slice.result.now)
    ≡ fault_of our_app ws =
    ap (λ (a : App). fault_of a (map string_bytes c.as_slice.result.now)) is_app ∙ ap (fault_of our_app) same in
    ⊎_elim
    (λ memory. out_of_memory (asked table ws) c.refusal.result (c.refusal.ensures.memory memory))
    (λ among. refused_words (asked table ws) c.refusal.result c.refusal.ensures.text
    (refuses ws (utf8_strings parts) c.args.words.now.complete
    (λ none. subst (λ (l : List ErrorKind). IsAmong (kind_of c.in-Err.error) l) (kinds ∙ none) among)))
    (c.in-Err.ensures.kinds simple)
