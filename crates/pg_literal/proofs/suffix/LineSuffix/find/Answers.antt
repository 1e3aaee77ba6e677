use Rattle.std.proofs.Common.{◌≡◌, ◌∙◌, ◌-◌, ◌<◌, ap, arith, get_or, length, subst, sym, take, true, true≢false}
use Rattle.std.proofs.lemmas.List.{take_all}
use Rattle.std.proofs.lemmas.Option.{slice_get-get_or, get_or_from_slice_get}
use Rattle.pg_bytes.specs.ByteSets.{bytes}
use Rattle.pg_literal.specs.Rows.{StandsAt, row_of}
use Rattle.pg_literal.proofs.SuffixLemmas.{ends_more, ends_each, row_size}
use Rattle.pg_literal.proofs.suffix.LineSuffix.find.Goals as goal

pub returns-then-not-contains : goal.returns-then-not-contains
returns-then-not-contains g c = λ i ends.
    let line = c.args.line.now in
    let sets = c.args.self.now.sets.items in
    let set = c.index.result.now in
    let k = c.loop-k.k in
    let byte = get_or line (length line - 1 - k) 0 in
    let each = ends_each line sets set k i (omega arith) ends in
    let byte_is = get_or_from_slice_get line (length line - 1 - k) each.0 0 each.1 in
    let has : bytes set byte ≡ true = ap (λ s. bytes s byte) c.index.ensures
    ∙ (ap (bytes (get_or sets k set)) byte_is ∙ each.2) in
    true≢false (sym has ∙ sym c.if-not-contains.ensures)

pub loop-k-preserved : goal.loop-k-preserved
loop-k-preserved g c =
    let line = c.args.line.now in
    let sets = c.args.self.now.sets.items in
    let set = c.index.result.now in
    let k = c.loop-k.k in
    let byte = get_or line (length line - 1 - k) 0 in
    let less : k < length line = omega arith in
    ends_more line sets set k byte (omega arith) less (slice_get-get_or line (length line - 1 - k) 0 (omega arith))
    (sym (ap (λ s. bytes s byte) c.index.ensures) ∙ sym c.if-not-contains.ensures) c.loop-k.invariant

pub returns : goal.returns
returns g c =
    let line = c.args.line.now in
    let sets = c.args.self.now.sets.items in
    let all : length sets ≡ c.len-2.result = omega arith in
    let last : c.loop-k.k ≡ length sets = omega arith in
    let stands = subst (λ n. StandsAt line (row_of (take n sets)) (length line - n)) last c.loop-k.invariant in
    let whole = subst (λ xs. StandsAt line (row_of xs) (length line - length sets)) (take_all _ sets (omega arith))
    stands
    in (
      subst (λ n. StandsAt line (row_of sets) (length line - n)) all whole,
      omega (arith, row_size sets),
    )

pub loop-k-init : goal.loop-k-init
loop-k-init g c = omega arith
