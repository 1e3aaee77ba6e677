use Rattle.std.proofs.Common.{◌≡◌, ◌+◌, ◌*◌, ◌%◌, ◌<◌, ap, ◌∙◌, arith, drop, false, get_or}
use Rattle.std.specs.Prelude.{slice_index, slice_index_or}
use Rattle.std.proofs.lemmas.List.{get_or-drop}
use Rattle.pg_strings.proofs.KeyLemmas.{window_single, window_pair}
use Rattle.pg_pattern.specs.declared.bounds.Bounds.TheVariants.{Any}
use Rattle.pg_strings.proofs.ShortLemmas.{longest_clear, read_of}
use Rattle.std.proofs.lemmas.Bool.{or_parts}
use Rattle.pg_strings.proofs.short.ShortStrings.stands_at.Goals as goal

pub returns : goal.returns
returns g c = λ strings tables none.
    let bytes = c.args.bytes.now in
    let place = c.args.place in
    let rest = drop place bytes in
    let window = c.window-window.result in
    let low : slice_index bytes place < 256 = omega (arith, c.type_inv.bytes place) in
    let low' : slice_index bytes (place + 1) < 256 = omega (arith, c.type_inv.bytes (place + 1)) in
    let same : place + 0 ≡ place = omega arith in
    let first : slice_index rest 0 ≡ slice_index bytes place =
    get_or-drop place bytes 0 0 ∙ ap (λ n. get_or bytes n 0) same in
    let second : slice_index rest 1 ≡ slice_index bytes (place + 1) = get_or-drop place bytes 1 0 in
    let single = window_single rest (omega (arith, first, low)) in
    let pair = window_pair rest (omega (arith, first, low)) (omega (arith, second, low')) in
    let single_is : window % 256 ≡ slice_index bytes place =
    ap (λ n. n % 256) c.window-window.ensures ∙ (single ∙ first) in
    let read = ap (λ n. n % 65536) c.window-window.ensures ∙ pair in
    let pair_is : window % 65536 ≡ slice_index bytes place + 256 * slice_index bytes (place + 1) =
    omega (arith, read, first, second) in
    let clear = or_parts c.index.result.now c.index-2.result.now none in
    longest_clear strings Any bytes place
    (λ within ends. read_of c.args.self.now.pairs.items (window % 65536) _ c.index-2.result.now _
    (omega (arith, pair_is, low, low', c.requires.pairs))
    (ap (λ n. slice_index_or c.args.self.now.pairs.items n false) pair_is
    ∙ tables.pair (slice_index bytes place) (slice_index bytes (place + 1)) low low') c.index-2.ensures clear.1)
    (λ within ends. read_of c.args.self.now.singles.items (window % 256) _ c.index.result.now _
    (omega (arith, single_is, low, c.requires.singles))
    (ap (λ n. slice_index_or c.args.self.now.singles.items n false) single_is
    ∙ tables.single (slice_index bytes place) low) c.index.ensures clear.0)
