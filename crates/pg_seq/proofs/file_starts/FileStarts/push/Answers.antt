use Rattle.std.proofs.Common.{◌∙◌, ◌++◌, [], ◌∷◌, length, ap, arith}
use Rattle.pg_seq.proofs.StartLemmas.{length_starts, appended}
use Rattle.pg_seq.proofs.file_starts.FileStarts.push.Goals as goal

pub overflow_add-self : goal.overflow_add-self
overflow_add-self g c =
    let long = length_starts c.self.inside.progressions.items c.self.inside.files in
    let same = ap length c.self.view_is in
    omega (arith, long, same, c.requires)

pub invariant_of-self-2 : goal.invariant_of-self-2
invariant_of-self-2 g c = (appended c.self.inside.progressions.items c.append.new.progressions.items c.self.inside.files
    c.args.start c.self.invariant c.ranges.start.fits c.in_ok-append.ensures.ok).0

pub returns-clause-ok : goal.returns-clause-ok
returns-clause-ok g c = (appended c.self.inside.progressions.items c.append.new.progressions.items c.self.inside.files
    c.args.start c.self.invariant c.ranges.start.fits c.in_ok-append.ensures.ok).1
    ∙ ap (λ xs. xs ++ c.args.start ∷ []) c.self.view_is
