use Rattle.std.proofs.Common.{◌∙◌, Some, length, get_or, sym, ap, arith}
use Rattle.std.proofs.lemmas.Option.{slice_get_past, slice_get-get_or}
use Rattle.pg_seq.proofs.StartLemmas.{length_starts, some_begun, start_found}
use Rattle.pg_seq.proofs.file_starts.FileStarts.get.Goals as goal

pub returns-then-file-self : goal.returns-then-file-self
returns-then-file-self g c =
    let long = length_starts c.self.inside.progressions.items c.self.inside.files in
    let same = ap length c.self.view_is in
    sym (slice_get_past c.args.self.now c.args.file (omega arith))

pub overflow_sub-begun : goal.overflow_sub-begun
overflow_sub-begun g c = some_begun _ _ c.self.inside.files c.args.file _ c.as_slice.ensures.value c.self.invariant
    c.if-file-self.false c.count_begun-begun.ensures.bound c.count_begun-begun.ensures.point

pub start_of-requires : goal.start_of-requires
start_of-requires g c =
    let ps = c.self.inside.progressions.items in
    let is = start_found _ ps c.self.inside.files c.args.file _ c.as_slice.ensures.value c.self.invariant
    c.if-file-self.false c.count_begun-begun.ensures.bound c.count_begun-begun.ensures.point c.index.result.now
    c.index.ensures in
    let long = length_starts ps c.self.inside.files in
    let fits = c.self.invariant.fits c.args.file 0 (omega arith) in
    omega (arith, is, fits)

pub returns : goal.returns
returns g c =
    let is = start_found _ _ c.self.inside.files c.args.file _ c.as_slice.ensures.value c.self.invariant
    c.if-file-self.false c.count_begun-begun.ensures.bound c.count_begun-begun.ensures.point c.index.result.now
    c.index.ensures in
    let long = length_starts c.self.inside.progressions.items c.self.inside.files in
    let same = ap length c.self.view_is in
    ap Some (c.start_of.ensures ∙ (is ∙ ap (λ xs. get_or xs c.args.file 0) c.self.view_is))
    ∙ sym (slice_get-get_or c.args.self.now c.args.file 0 (omega arith))
