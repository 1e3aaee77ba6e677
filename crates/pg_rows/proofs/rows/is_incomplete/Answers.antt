use Rattle.std.proofs.Common.{◌≡◌, ◌++◌, ◌∷◌, ◌-◌, ◌<◌, [], ℕ, Bool, true, false, not, nat_eq, cond, List, length}
use Rattle.std.proofs.Common.{get_or, sym, ◌∙◌, arith, refl}
use Rattle.std.proofs.lemmas.Bool.{eqb-true, eqb-false}
use Rattle.pg_blocks.specs.Lines.{lines, terminated}
use Rattle.pg_rows.proofs.TextLemmas.{whole_by_last, incomplete_by_last}
use Rattle.pg_rows.proofs.rows.is_incomplete.Goals as goal

by_last : (end : ℕ) (bytes : List ℕ) (t : Bool) → 0 < length bytes → nat_eq (get_or bytes (length bytes - 1) 0) end ≡ t
    → terminated end (lines end bytes) ≡ cond (not t) (bytes ++ end ∷ []) bytes
by_last end bytes true some e = whole_by_last end bytes some (eqb-true _ end e)
by_last end bytes false some e = incomplete_by_last end bytes some (eqb-false _ end e)

pub returns-then-not-is_empty : goal.returns-then-not-is_empty
returns-then-not-is_empty c = by_last c.args.end c.args.text.now _
    (omega (arith, eqb-false (length c.args.text.now) 0 (sym c.is_empty.ensures ∙ c.if-not-is_empty.true))) refl
