-- Lines that are looked at one after another.
use Rattle.std.proofs.Common.{◌≡◌, ◌∙◌, ℕ, ◌+◌, ◌-◌, ◌<◌, ◌≤◌, ◌^◌, ◌⊎◌, inl, inr, List, ◌∷◌, ◌++◌}
use Rattle.std.proofs.Common.{length, take, drop, slice_index, slice_range, sym, ap, subst, arith, length-drop}
use Rattle.std.specs.List.{AllByRecursion}
use Rattle.std.proofs.lemmas.Bool.{cases_lt}
use Rattle.std.proofs.lemmas.List.{append-nil, drop_all, drop-drop, drop_more, get_or-drop, length-take-le}
use Rattle.std.proofs.lemmas.List.{take-append-drop}
use Rattle.pg_blocks.specs.Lines.{lines, AreWhole, AreShort}
use Rattle.pg_blocks.proofs.LineLemmas.{lines-alone, lines-line}
use Rattle.pg_match.specs.Lines.{IsFirstText, IsTextAt, TellsLine}
use Rattle.pg_match.specs.declared.dfa_line.KnownLine.{KnownLine}
use Rattle.pg_prefilter.specs.Candidates.{IsLineAt}
use Rattle.pg_prefilter.proofs.LineLemmas.{IsPassed, is_line, line_at}

-- the next line starts behind the terminator, or there is none
abbrev pub GoesOn : List ℕ → ℕ → ℕ → Type 0
GoesOn bytes e next = ((e < length bytes) × (next ≡ e + 1)) ⊎ ((length bytes ≤ e) × (next ≡ e))

-- the line that a scan has found
pub scanned : (end : ℕ) (bytes : List ℕ) (s e next : ℕ) → s < length bytes → IsTextAt end bytes s e
    → GoesOn bytes e next → IsLineAt end bytes s e next
scanned end bytes s e next below t goes = elim goes [
  | inl more ↦ line_at end bytes s e next t.onward t.within (omega (arith, more.1, t.onward)) t.clear
      (inl (more.1, more.0, t.ended more.0))
  | inr none ↦ line_at end bytes s e next t.onward t.within (omega (arith, none.1, none.0)) t.clear
      (inr (none.1, omega (arith, none.0, t.within)))
]

-- a line is left before the end
pub not_passed : (end : ℕ) (bytes : List ℕ) (s : ℕ) → s < length bytes → IsPassed end bytes s
    → AreWhole end (take s bytes)
not_passed end bytes s below (inl w) = w
not_passed end bytes s below (inr e) = absurd (omega arith)

-- the line that starts at a place, and those behind it
line_cut : (end : ℕ) (bytes : List ℕ) (s e : ℕ) → s < length bytes → IsTextAt end bytes s e
    → lines end (drop s bytes) ≡ slice_range bytes s e ∷ lines end (drop (e + 1) bytes)
line_cut end bytes s e below t =
    let text = take (e - s) (drop s bytes) in
    let alone = is_line end bytes s e t.within t.clear in
    let to_e : s + (e - s) ≡ e = omega (arith, t.onward) in
    let split : drop s bytes ≡ text ++ drop e bytes =
    sym (take-append-drop (e - s) (drop s bytes))
    ∙ ap (λ xs. text ++ xs) (drop-drop (e - s) s bytes ∙ ap (λ n. drop n bytes) to_e) in
    elim (cases_lt e (length bytes)) [
      | inl inside ↦
          let next : drop e bytes ≡ end ∷ drop (e + 1) bytes =
          drop_more bytes e 0 inside ∙ ap (λ b. b ∷ drop (e + 1) bytes) (t.ended inside) in
          ap (lines end) (split ∙ ap (λ xs. text ++ xs) next) ∙ lines-line end text (drop (e + 1) bytes) alone
      | inr all ↦
          let whole : drop s bytes ≡ text =
          split ∙ (ap (λ xs. text ++ xs) (drop_all e bytes all) ∙ append-nil text) in
          let some : 0 < length text =
          omega (arith, length-take-le (e - s) (drop s bytes) (omega (arith, length-drop s bytes, t.within)), all) in
          ap (lines end) whole
          ∙ (lines-alone end text some alone
          ∙ ap (λ xs. text ∷ lines end xs) (sym (drop_all (e + 1) bytes (omega (arith, all)))))
    ]

-- neither the line nor those that are left are too long
pub scanned_short : (end : ℕ) (bytes : List ℕ) (s e next : ℕ) → s < length bytes → IsTextAt end bytes s e
    → AreShort end (drop s bytes) → GoesOn bytes e next
    → (length (slice_range bytes s e) ≤ 2 ^ 30) × AreShort end (drop next bytes)
scanned_short end bytes s e next below t short goes =
    let Q : List (List ℕ) → Type 0 = λ ls. AllByRecursion (λ l. length l ≤ 2 ^ 30) ls in
    let h = subst Q (line_cut end bytes s e below t) short in (
      h.0,
      elim goes [
        | inl more ↦ subst Q (sym (ap (λ n. lines end (drop n bytes)) more.1)) h.1
        | inr none ↦ subst Q (sym (ap (lines end) (drop_all next bytes (omega (arith, none.0, none.1))))) tt
      ],
    )

module _ (end : ℕ) (bytes : List ℕ) (start : ℕ) where
  at_rest : (i : ℕ) → start ≤ i → slice_index (drop start bytes) (i - start) ≡ slice_index bytes i
  at_rest i le =
      let to_i : start + (i - start) ≡ i = omega arith in
      get_or-drop start bytes (i - start) 0 ∙ ap (slice_index bytes) to_i

  -- the text of a line whose first bytes were read
  pub text_known : (P : List ℕ → Type 0) (known : KnownLine) (stop : ℕ) → TellsLine P end (drop start bytes) known
      → IsTextAt end bytes (start + known.read) stop → IsTextAt end bytes start stop
  text_known P known stop told t = record {
    onward = omega (arith, t.onward);
    within = t.within;
    clear = λ i low high same. elim (cases_lt i (start + known.read)) [
      | inl read ↦ told.clear (i - start) (omega arith) (at_rest i low ∙ same)
      | inr behind ↦ t.clear i behind high same
    ];
    ended = t.ended;
  }

  -- it is the first one of the bytes from there on
  pub first_text : (stop : ℕ) → IsTextAt end bytes start stop → IsFirstText end (drop start bytes) (stop - start)
  first_text stop t =
      let size = length-drop start bytes in
      let to_stop : start + (stop - start) ≡ stop = omega (arith, t.onward) in
      record {
        onward = omega arith;
        within = omega (arith, size, t.within);
        clear = λ i low lt same. t.clear (start + i) (omega arith) (omega (arith, t.onward))
            (sym (get_or-drop start bytes i 0) ∙ same);
        ended = λ lt. at_rest stop t.onward ∙ t.ended (omega (arith, size, t.onward));
      }
