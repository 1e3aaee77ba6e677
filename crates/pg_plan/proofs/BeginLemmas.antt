-- What may be handed out is a beginning of each output that can still come.
use Rattle.std.proofs.Common.{ℕ, Bool, true, false, cond, List, [], ◌∷◌, ◌++◌, sym, ap, ◌∙◌, subst, append_assoc}
use Rattle.std.proofs.lemmas.List.{append-nil}
use Rattle.pg_selection.specs.Search.{Search, terminator}
use Rattle.pg_rows.specs.declared.format.Format.{Format}
use Rattle.pg_base.specs.Entries.{Entry}
use Rattle.pg_rows.specs.Output.{HasRoom, output}
use Rattle.pg_plan.specs.Plan.{Step, IsPlan, IsShaped, Begins, entries_of}
use Rattle.pg_plan.specs.History.{Past, plan, taken_of, all_taken, front, front_after, handed_after, handed}
use Rattle.pg_base.specs.Sink.{IsBeginning}
use Rattle.pg_plan.specs.Drains.{IsSafe}
use Rattle.pg_plan.proofs.CursorLemmas.{plan_begins}

pub begins_trans : (xs ys zs : List ℕ) → IsBeginning xs ys → IsBeginning ys zs → IsBeginning xs zs
begins_trans xs ys zs a b = (a.0 ++ b.0, sym (append_assoc xs a.0 b.0) ∙ (ap (λ w. w ++ b.0) a.1 ∙ b.1))

front_by : (q : Search) (format : Format) (room : HasRoom format) (t : Bool) (taken : List (ℕ × ℕ)) (s : Step)
    (p : List Step) → IsShaped (terminator q) (s ∷ p)
    → IsBeginning (output q format (entries_of (front taken p))) (output q format (entries_of p))
    → IsBeginning (output q format (entries_of (cond t (s ∷ p) (front taken p))))
    (output q format (entries_of (s ∷ p)))
front_by q format room true taken s p h ih = ([], append-nil (output q format (entries_of (s ∷ p))))
front_by q format room false taken s p h ih = begins_trans _ _ _ ih (plan_begins q format room p (s ∷ []) h)

pub front_begins : (q : Search) (format : Format) (room : HasRoom format) (taken : List (ℕ × ℕ)) (p : List Step)
    → IsShaped (terminator q) p → IsBeginning (output q format (entries_of (front taken p)))
    (output q format (entries_of p))
front_begins q format room taken [] h = ([], append-nil (output q format []))
front_begins q format room taken (s ∷ p) h =
    front_by q format room (all_taken taken (s ∷ p)) taken s p h (front_begins q format room taken p h.1)

pub handed_begins : (past : Past) → HasRoom past.format → IsShaped (terminator past.query) (plan past)
    → (entries : List Entry) → Begins (terminator past.query) (plan past) entries
    → IsBeginning (handed past) (output past.query past.format entries)
unfolding handed_after front_after
handed_begins past room h entries b =
    let P : List Entry → Type 0 = λ es. IsBeginning (handed past) (output past.query past.format es) in
    subst P b.3 (begins_trans _ _ _ (front_begins past.query past.format room (taken_of past.query past.events)
    (plan past) h) (plan_begins past.query past.format room (plan past) b.0 b.1))

pub shape_of : (end : ℕ) (p : List Step) → IsPlan end p → IsShaped end p
shape_of end [] h = tt
shape_of end (s ∷ p) h = (h.0.0, shape_of end p h.1)

-- what may be handed out is a beginning of what the plan gives
pub handed_safe : (past : Past) → HasRoom past.format → IsShaped (terminator past.query) (plan past)
    → IsSafe past (handed past)
unfolding handed_after front_after
handed_safe past room shape = front_begins past.query past.format room (taken_of past.query past.events)
    (plan past) shape
