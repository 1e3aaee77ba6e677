-- Whether enough was read, by what is remembered of the open file.
use Rattle.std.proofs.Common.{◌≡◌, ℕ, ◌+◌, inl, inr, Bool, true, false, not, ◌&&◌, cond, nat_lt, Option, List, length}
use Rattle.std.proofs.Common.{sym, ap, ◌∙◌, arith}
use Rattle.std.specs.List.{count_by, list_any}
use Rattle.std.proofs.lemmas.Bool.{lt-ltb, le-ltb, cases_lt}
use Rattle.pg_selection.specs.Search.{Search}
use Rattle.pg_selection.specs.Selection.{selects}
use Rattle.pg_rows.specs.declared.format.Format.{Format}
use Rattle.pg_rows.specs.declared.format.Mode.{Mode}
use Rattle.pg_rows.specs.Modes.{shows_rows, settles_at_first}
use Rattle.pg_rows.specs.Output.{HasRoom, is_below}
use Rattle.pg_rows.specs.Trail.{Trail}
use Rattle.pg_rows.specs.Enough.{is_full, is_trailed, lines_suffice, trail_suffices}
use Rattle.pg_rows.proofs.TrailLemmas.{IsTrail, Quota}
use Rattle.pg_rows.proofs.FoldLemmas.{some_counted, kept_some}

below_same : (limit : Option ℕ) (kept count : ℕ) → Quota limit kept count → is_below count limit ≡ is_below kept limit
below_same limit kept count (inl e) = ap (λ k. is_below k limit) (sym e)
below_same limit kept count (inr p) = p.1 ∙ sym p.0

more_by : (n more : ℕ) → nat_lt n (n + more) ≡ nat_lt 0 more
more_by n more = elim (cases_lt 0 more) [
  | inl some ↦ lt-ltb n (n + more) (omega arith) ∙ sym (lt-ltb 0 more some)
  | inr none ↦ le-ltb n (n + more) (omega arith) ∙ sym (le-ltb 0 more none)
]

module _ (q : Search) (format : Format) (room : HasRoom format) where
  full_by : (ls : List (List ℕ)) (t : Trail) → IsTrail q format ls t
      → is_full q format ls ≡ not (is_below t.kept format.limit)
  full_by ls t h = ap not (below_same format.limit t.kept (count_by (selects q) ls) h.quota)

  trailed_by : (ls : List (List ℕ)) (t : Trail) → IsTrail q format ls t
      → is_trailed q format ls ≡ (not format.parts && nat_lt 0 t.countdown)
  trailed_by ls t h =
      ap (λ b. not format.parts && b) (h.near.coming (length ls) (omega arith) ∙ more_by (length ls) t.countdown)

  selected_by : (ls : List (List ℕ)) (t : Trail) → IsTrail q format ls t → list_any (selects q) ls ≡ nat_lt 0 t.kept
  selected_by ls t h = some_counted q ls ∙ kept_some format.limit t.kept (count_by (selects q) ls) room h.quota

  -- the lines suffice where what is remembered of them says so
  pub suffice_by : (m : Mode) (ls : List (List ℕ)) (t : Trail) → IsTrail q format ls t
      → lines_suffice m q format ls ≡ trail_suffices m format t
  suffice_by m ls t h = go (settles_at_first m) (shows_rows m)
    where
      full : Bool
      full = not (is_below t.kept format.limit)

      go : (first shown : Bool)
          → cond first (list_any (selects q) ls)
          (cond shown (is_full q format ls && not (is_trailed q format ls)) (is_full q format ls))
          ≡ cond first (nat_lt 0 t.kept) (cond shown (full && not (not format.parts && nat_lt 0 t.countdown)) full)
      go true shown = selected_by ls t h
      go false true = ap (λ b. b && not (is_trailed q format ls)) (full_by ls t h)
          ∙ ap (λ b. full && not b) (trailed_by ls t h)
      go false false = full_by ls t h
