use Rattle.std.proofs.Common.{[], ◌∷◌, ◌++◌, ap, sym, ◌∙◌, map}
use Rattle.std.proofs.lemmas.List.{map-append}
use Rattle.pg_pattern.specs.Strings.{items_of}
use Rattle.pg_prefilter.proofs.NonEmptyLemmas.{none_copied, some_copied}
use Rattle.pg_prefilter.proofs.fixed.with_bytes.Goals as goal
use Rattle.pg_prefilter.proofs.fixed.with_bytes.Goals.{then-not-is_empty+in_ok-copy_as_searched+in_ok-push}
use Rattle.pg_prefilter.proofs.fixed.with_bytes.Goals.{else-not-is_empty}

pub loop-string-preserved : goal.loop-string-preserved
loop-string-preserved g c =
    let strings = c.args.strings.now in
    let i = c.loop-string.string-index in
    let less = c.loop-string-test.true in
    let was = c.loop-string.invariant in
    elim c.if-not-is_empty.branch [
      | then-not-is_empty+in_ok-copy_as_searched+in_ok-push w ↦
          ap (λ v. map items_of v.items) w.copies-is
          ∙ some_copied strings i (record { ref_ptr = (0, 0); now = [] }) less (map items_of c.loop-string.copies.items)
          (map items_of w.push.new.self.items) was (sym c.is_empty.ensures ∙ w.if-not-is_empty.true)
          (ap (map items_of) w.in_ok-push.ensures.items ∙ (map-append items_of c.loop-string.copies.items _
          ∙ ap (λ s. map items_of c.loop-string.copies.items ++ s ∷ []) w.in_ok-copy_as_searched.ensures))
      | else-not-is_empty w ↦
          ap (λ v. map items_of v.items) w.copies-is
          ∙ none_copied strings i (record { ref_ptr = (0, 0); now = [] }) less (map items_of c.loop-string.copies.items)
          was (sym c.is_empty.ensures ∙ w.if-not-is_empty.false)
    ]
