use Rattle.std.proofs.Common.{◌+◌, ◌<◌, ◌∙◌, sym, ap, arith, false}
use Rattle.std.proofs.lemmas.Bool.{false≢true}
use Rattle.std.specs.Prelude.{slice_index, slice_index_or}
use Rattle.pg_strings.proofs.ShortLemmas.{longest_pair, longest_single, longest_clear, read_of, NoPair, NoSingle}
use Rattle.pg_strings.proofs.short.ShortStrings.longest_at.Goals as goal
use Rattle.pg_strings.proofs.short.ShortStrings.longest_at.Goals.{else-fits-via-then-fits+else-index}
use Rattle.pg_strings.proofs.short.ShortStrings.longest_at.Goals.{else-fits-via-else-fits}
use Rattle.pg_strings.proofs.short.ShortStrings.longest_at.Goals.{else-fits-2-via-then-fits-2+else-index-2}
use Rattle.pg_strings.proofs.short.ShortStrings.longest_at.Goals.{else-fits-2-via-else-fits-2}

pub returns-then-index : goal.returns-then-index
returns-then-index g c = λ strings tables.
    let bytes = c.args.bytes.now in
    let place = c.args.place in
    let table = c.args.self.now.pairs.items in
    let fits = c.fits.ensures.0 c.if-fits.true in
    let low : slice_index bytes place < 256 = omega (arith, c.type_inv.bytes place) in
    let low' : slice_index bytes (place + 1) < 256 = omega (arith, c.type_inv.bytes (place + 1)) in
    let told = ap (λ n. slice_index_or table n false) c.pair_of.ensures.value
    ∙ tables.pair (slice_index bytes place) (slice_index bytes (place + 1)) low low' in
    longest_pair strings c.args.bounds bytes place fits.0 fits.1
    (read_of table c.pair_of.result _ c.index.result.now _ (omega (arith, c.pair_of.ensures.few, c.requires.pairs)) told
    c.index.ensures c.if-index.true)

pub returns-then-index-2 : goal.returns-then-index-2
returns-then-index-2 g c = λ strings tables.
    let bytes = c.args.bytes.now in
    let place = c.args.place in
    let table = c.args.self.now.pairs.items in
    let fits = c.fits-2.ensures.0 c.if-fits-2.true in
    let low : slice_index bytes place < 256 = omega (arith, c.type_inv.bytes place) in
    let low' : slice_index bytes (place + 1) < 256 = omega (arith, c.type_inv.bytes (place + 1)) in
    let one = read_of c.args.self.now.singles.items (slice_index bytes place) _ c.index-then-fits-2.result.now _
    (omega (arith, low, c.requires.singles)) (tables.single (slice_index bytes place) low) c.index-then-fits-2.ensures
    c.if-index-2.true in
    let none : NoPair strings c.args.bounds bytes place = λ within ends. elim c.else-fits.branch [
      | else-fits-via-then-fits+else-index w ↦
          let told = ap (λ n. slice_index_or table n false) w.pair_of.ensures.value
          ∙ tables.pair (slice_index bytes place) (slice_index bytes (place + 1)) low low' in
          read_of table w.pair_of.result _ w.index.result.now _ (omega
          (arith, w.pair_of.ensures.few, c.requires.pairs)) told w.index.ensures w.if-index.false
      | else-fits-via-else-fits w ↦
          absurd (false≢true (sym w.if-fits.false ∙ c.fits.ensures.1 (within, ends)))
    ] in
    longest_single strings c.args.bounds bytes place fits.0 fits.1 none one

pub returns : goal.returns
returns g c = λ strings tables.
    let bytes = c.args.bytes.now in
    let place = c.args.place in
    let table = c.args.self.now.pairs.items in
    let low : slice_index bytes place < 256 = omega (arith, c.type_inv.bytes place) in
    let low' : slice_index bytes (place + 1) < 256 = omega (arith, c.type_inv.bytes (place + 1)) in
    let none : NoPair strings c.args.bounds bytes place = λ within ends. elim c.else-fits.branch [
      | else-fits-via-then-fits+else-index w ↦
          let told = ap (λ n. slice_index_or table n false) w.pair_of.ensures.value
          ∙ tables.pair (slice_index bytes place) (slice_index bytes (place + 1)) low low' in
          read_of table w.pair_of.result _ w.index.result.now _ (omega
          (arith, w.pair_of.ensures.few, c.requires.pairs)) told w.index.ensures w.if-index.false
      | else-fits-via-else-fits w ↦
          absurd (false≢true (sym w.if-fits.false ∙ c.fits.ensures.1 (within, ends)))
    ] in
    let none' : NoSingle strings c.args.bounds bytes place = λ within ends. elim c.else-fits-2.branch [
      | else-fits-2-via-then-fits-2+else-index-2 w ↦
          read_of c.args.self.now.singles.items (slice_index bytes place) _ w.index-then-fits-2.result.now _
          (omega (arith, low, c.requires.singles)) (tables.single (slice_index bytes place) low)
          w.index-then-fits-2.ensures w.if-index-2.false
      | else-fits-2-via-else-fits-2 w ↦
          absurd (false≢true (sym w.if-fits-2.false ∙ c.fits-2.ensures.1 (within, ends)))
    ] in
    longest_clear strings c.args.bounds bytes place none none'
