use Rattle.std.proofs.Common.{◌≡◌, ◌∙◌, true, arith, ap, sym, get_or, take, drop}
use Rattle.std.specs.Prelude.{slice_index_or}
use Rattle.std.proofs.lemmas.List.{get_or_default}
use Rattle.pg_strings.specs.Outcomes.{strings_of}
use Rattle.pg_strings.specs.Whole.{flag_by, hash_behind}
use Rattle.pg_strings.proofs.WholeLemmas.{none_flagged, unset}
use Rattle.pg_strings.proofs.set.StringSet.is_last.Goals as goal

pub returns-then-index-prefix : goal.returns-then-index-prefix
returns-then-index-prefix g c = λ last bytes place prefix.
    let whole = c.args.whole.now in
    let lengths = whole.lengths.items in
    let flags = whole.flags.items in
    let len = c.index.result.now in
    let is : get_or lengths c.args.at 0 ≡ c.args.prefix.now.len =
    sym (c.index.ensures ∙ get_or_default lengths c.args.at len 0 c.requires.at) ∙ c.if-index-prefix.true in
    let clear = unset c.index-then-index-prefix.result.now last in
    let read : slice_index_or flags (flag_by c.args.prefix.now.hash) true ≡ c.index-then-index-prefix.result.now =
    ap (λ n. slice_index_or flags n true) (sym c.flag_of.ensures.value)
    ∙ (get_or_default flags c.flag_of.result true c.index-then-index-prefix.result.now
    (omega (arith, c.flag_of.ensures.few, c.requires.whole.all_flags)) ∙ sym c.index-then-index-prefix.ensures) in
    none_flagged (strings_of c.args.self.now) lengths flags bytes place c.args.at c.args.prefix.now.hash
    c.requires.whole.flagged c.requires.at
    (prefix.hash ∙ ap (λ n. hash_behind 0 (take n (drop place bytes))) (sym is)) (read ∙ clear)
