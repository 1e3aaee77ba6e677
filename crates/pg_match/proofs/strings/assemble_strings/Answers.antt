use Rattle.std.proofs.Common.{◌≡◌, List, ℕ, [], length, take, take_all, sum_by, arith, ap, subst}
use Rattle.std.specs.Borrow.{Bor}
use Rattle.std.proofs.lemmas.List.{length-map}
use Rattle.pg_match.specs.Sizes.{size_of}
use Rattle.pg_match.specs.Strings.{string_pattern, string_patterns}
use Rattle.pg_match.specs.Tables.{HasFirst}
use Rattle.pg_match.proofs.BuildLemmas.{any_some, begun, room_for, some_any}
use Rattle.pg_match.proofs.StringLemmas.{pattern_at, strings_end, strings_proper}
use Rattle.pg_match.proofs.strings.assemble_strings.Goals as goal

-- where none is read
abbrev none : Bor (List ℕ)
none = record { ref_ptr = (0, 0); now = [] }

pub add_string-requires-clause-fits : goal.add_string-requires-clause-fits
add_string-requires-clause-fits g c =
    let strings = c.args.strings.now in
    let i = c.loop-i.i in
    let fits = room_for (string_patterns c.args.fold strings) i _
    (pattern_at c.args.fold strings i none c.loop-i-test.true) in
    omega (arith, fits, c.loop-i.invariant.size, c.requires)

pub add_choice-requires : goal.add_choice-requires
add_choice-requires g c = λ some.
    let strings = c.args.strings.now in
    let i = c.loop-i.i in
    let fits = room_for (string_patterns c.args.fold strings) i _
    (pattern_at c.args.fold strings i none c.loop-i-test.true) in
    omega (arith, fits, c.loop-i.invariant.size, c.requires, c.in_ok-entry.ensures.size, some)

pub loop-i-init : goal.loop-i-init
loop-i-init g c = begun _ _ _ _ c.new-states.ensures.items c.in_ok-push.ensures

pub loop-i-preserved : goal.loop-i-preserved
loop-i-preserved g c =
    c.in_ok-start.ensures c.loop-i.states.items (string_patterns c.args.fold c.args.strings.now) _ c.loop-i.invariant
    c.in_ok-entry.ensures (pattern_at c.args.fold c.args.strings.now c.loop-i.i none c.loop-i-test.true)

pub automaton_of-requires-clause-few : goal.automaton_of-requires-clause-few
automaton_of-requires-clause-few g c =
    let strings = c.args.strings.now in
    let patterns = string_patterns c.args.fold strings in
    let size = c.loop-i.invariant.size in
    let same = length-map strings (λ (s : Bor (List ℕ)). string_pattern c.args.fold s.now) in
    let all : sum_by size_of (take c.loop-i.i patterns) ≡ sum_by size_of patterns =
    ap (sum_by size_of) (take_all c.loop-i.i patterns (omega (arith, same, c.loop-i-test.false))) in
    let last = c.loop-i.auto.i-end in
    omega (arith, size, all, same, last, c.loop-i-test.false, c.requires)

pub returns : goal.returns
returns g c =
    let strings = c.args.strings.now in
    let patterns = string_patterns c.args.fold strings in
    let same = length-map strings (λ (s : Bor (List ℕ)). string_pattern c.args.fold s.now) in
    let last = c.loop-i.auto.i-end in
    let end : c.loop-i.i ≡ length patterns = omega (arith, same, last, c.loop-i-test.false) in
    c.automaton_of.ensures patterns (strings_proper c.args.fold strings)
    (subst (λ i. HasFirst c.loop-i.states.items patterns i c.loop-i.start) end c.loop-i.invariant) (
      λ h. let n = any_some (length strings) _ c.is_empty.ensures h in omega (arith, same, n),
      λ h. some_any (length strings) _ c.is_empty.ensures (omega (arith, same, h)),
    ) (strings_end c.args.fold c.args.bounds strings c.longest-reach.result c.longest-reach.ensures)
