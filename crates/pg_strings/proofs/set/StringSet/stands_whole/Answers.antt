use Rattle.std.proofs.Common.{◌≡◌, ◌+◌, ◌-◌, ◌∙◌, length, map, take, drop, arith, ap, sym, true, false, length-drop}
use Rattle.std.proofs.lemmas.Bool.{false≢true}
use Rattle.std.proofs.lemmas.List.{length-take-le}
use Rattle.pg_pattern.specs.Strings.{items_of}
use Rattle.pg_strings.proofs.WholeLemmas.{text_stands, so_fits}
use Rattle.pg_strings.proofs.set.StringSet.stands_whole.Goals as goal

pub returns-clause-stands : goal.returns-clause-stands
returns-clause-stands g c =
    let bytes = c.args.bytes.now in
    let place = c.args.place in
    let len = c.args.len in
    let fits = c.fits.ensures.0 (let yes : c.fits.result ≡ true = cc in yes) in
    let same : place + len - place ≡ len = omega arith in
    let text = take (place + len - place) (drop place bytes) in
    let size : length text ≡ len =
    length-take-le (place + len - place) (drop place bytes) (omega (arith, fits.0, length-drop place bytes)) ∙ same in
    text_stands (map items_of c.args.self.now.strings.items) c.args.bounds bytes text place len c.has_whole.result
    (ap (λ n. take n (drop place bytes)) same) size fits c.has_whole.ensures

pub returns-then-not-fits-clause-stands : goal.returns-then-not-fits-clause-stands
returns-then-not-fits-clause-stands g c =
    let no : c.fits.result ≡ false = cc in (
      λ yes. absurd (false≢true yes),
      λ one. absurd (false≢true (sym no ∙ c.fits.ensures.1
          (so_fits (map items_of c.args.self.now.strings.items) c.args.bounds c.args.bytes.now c.args.place c.args.len
          one))),
    )
