use Rattle.std.proofs.Common.{◌∙◌, ◌∷◌, ap, inr, refl, subst, sym, Err}
use Rattle.pg_base.specs.Entries.{Left}
use Rattle.pg_files.specs.Given.{File}
use Rattle.pg_request.specs.Reading.{IsReadOrGivenUp}
use Rattle.pg_request.proofs.patterns.read_file.Goals as goal

pub returns-in-Ok-read_to_end-clause-read : goal.returns-in-Ok-read_to_end-clause-read
returns-in-Ok-read_to_end-clause-read g c =
    let path = c.args.path.now in
    let past = g.S.Store.past c.args.store.now in
    subst (λ end. IsReadOrGivenUp path past end c.read_to_end.new.bytes.items (g.S.Store.past c.read_to_end.new.store))
    c.in-Ok-read_to_end.is
    (c.read_to_end.ensures path past
    (c.in-Ok.ensures ∙ ap (λ bytes. File path bytes Left ∷ past) (sym c.new-bytes.ensures.items)))

pub returns-in-Err-ReadFailed-clause-fault : goal.returns-in-Err-ReadFailed-clause-fault
returns-in-Err-ReadFailed-clause-fault g c =
    let path = c.args.path.now in
    let past = g.S.Store.past c.args.store.now in
    let bytes = c.read_to_end.new.bytes.items in
    let failed = c.in-Err-ReadFailed in (
      c.shown_name-name.ensures,
      inr (
        refl,
        bytes,
        subst (λ end. IsReadOrGivenUp path past end bytes (g.S.Store.past c.read_to_end.new.store))
            (failed.is ∙ ap Err failed.field-0-is)
            (c.read_to_end.ensures path past
            (c.in-Ok.ensures ∙ ap (λ bytes. File path bytes Left ∷ past) (sym c.new-bytes.ensures.items))),
      ),
    )

pub returns-clause-fault : goal.returns-clause-fault
returns-clause-fault g c =
    let path = c.args.path.now in
    let past = g.S.Store.past c.args.store.now in
    let bytes = c.read_to_end.new.bytes.items in
    let refused = c.in-Err-OutOfMemory-read_to_end in
    let got = subst (λ end. IsReadOrGivenUp path past end bytes (g.S.Store.past c.read_to_end.new.store))
    (refused.is ∙ ap Err refused.field-0-is)
    (c.read_to_end.ensures path past
    (c.in-Ok.ensures ∙ ap (λ bytes. File path bytes Left ∷ past) (sym c.new-bytes.ensures.items))) in
    inr (got.0, Left, refl, got.1)
