-- Bytes with their last line completed.
use Rattle.std.proofs.Common.{◌≡◌, ℕ, zero, suc, ◌+◌, ◌-◌, ◌<◌, inl, inr, List, [], ◌∷◌, ◌++◌, length, take, get_or}
use Rattle.std.proofs.Common.{refl}
use Rattle.std.proofs.Common.{sym, ap, ◌∙◌, subst, arith, append_assoc, length-append}
use Rattle.std.proofs.lemmas.Bool.{cases_eq}
use Rattle.std.proofs.lemmas.List.{get_or_at, take_all, take_more, append-nil}
use Rattle.std.proofs.lemmas.List.Concat.{flat_map-append}
use Rattle.pg_blocks.specs.Lines.{lines, terminated, AreWhole}
use Rattle.pg_blocks.proofs.LineLemmas.{terminated-lines, whole_append}
use Rattle.pg_blocks.proofs.LineLaws.{lines_are_lines}
use Rattle.pg_base.specs.Sink.{IsBeginning}

pub whole_terminated : (end : ℕ) (ls : List (List ℕ)) → AreWhole end (terminated end ls)
whole_terminated end [] = inl refl
whole_terminated end (l ∷ ls) =
    whole_append end (l ++ end ∷ []) (terminated end ls) (inr (l, refl)) (whole_terminated end ls)

pub last_whole : (end : ℕ) (bytes : List ℕ) → AreWhole end bytes → 0 < length bytes
    → get_or bytes (length bytes - 1) 0 ≡ end
last_whole end bytes (inl e) some = absurd (omega (arith, ap length e))
last_whole end bytes (inr h) some =
    let n : length bytes - 1 ≡ length h.0 = omega (arith, ap length h.1, length-append h.0 (end ∷ [])) in
    ap (λ k. get_or bytes k 0) n ∙ (ap (λ xs. get_or xs (length h.0) 0) h.1 ∙ get_or_at h.0 end [] 0 (length h.0) refl)

-- the last byte is a newline
pub whole_by_last : (end : ℕ) (bytes : List ℕ) → 0 < length bytes → get_or bytes (length bytes - 1) 0 ≡ end
    → terminated end (lines end bytes) ≡ bytes
whole_by_last end bytes some e =
    let back : (length bytes - 1) + 1 ≡ length bytes = omega arith in
    terminated-lines end bytes (inr (
      take (length bytes - 1) bytes,
      sym (take_all (length bytes) bytes (omega arith))
          ∙ (ap (λ k. take k bytes) (sym back)
          ∙ (take_more bytes (length bytes - 1) 0 (omega arith) ∙ ap (λ b. take (length bytes - 1) bytes ++ b ∷ []) e)),
    ))

-- it isn't
pub incomplete_by_last : (end : ℕ) (bytes : List ℕ) → 0 < length bytes → (get_or bytes (length bytes - 1) 0 ≡ end → ⊥)
    → terminated end (lines end bytes) ≡ bytes ++ end ∷ []
incomplete_by_last end bytes some ne = elim (lines_are_lines end bytes).whole [
  | inl e ↦ let P : List ℕ → Type 0 = λ xs. AreWhole end xs in
      absurd (ne (last_whole end bytes (subst P (sym e) (whole_terminated end (lines end bytes))) some))
  | inr h ↦
      ap (terminated end) h.joins ∙ (flat_map-append (λ (l : List ℕ). l ++ end ∷ []) h.front (h.last ∷ [])
      ∙ (ap (λ xs. terminated end h.front ++ xs) (append-nil (h.last ++ end ∷ []))
      ∙ (sym (append_assoc (terminated end h.front) h.last (end ∷ [])) ∙ ap (λ xs. xs ++ end ∷ []) (sym h.whole))))
]

pub no_bytes : (end : ℕ) (bytes : List ℕ) → length bytes ≡ 0 → terminated end (lines end bytes) ≡ bytes
no_bytes end [] e = refl
no_bytes end (b ∷ bytes) e = absurd (omega arith)

-- a text is a beginning of its completed lines
pub begins_completed : (end : ℕ) (bytes : List ℕ) → IsBeginning bytes (terminated end (lines end bytes))
begins_completed end bytes = by_length (length bytes) refl
  where
    by_length : (n : ℕ) → length bytes ≡ n → IsBeginning bytes (terminated end (lines end bytes))
    by_length zero e = ([], append-nil bytes ∙ sym (no_bytes end bytes e))
    by_length (suc n) e = elim (cases_eq (get_or bytes (length bytes - 1) 0) end) [
      | inl same ↦ ([], append-nil bytes ∙ sym (whole_by_last end bytes (omega arith) same))
      | inr ne ↦ (end ∷ [], sym (incomplete_by_last end bytes (omega arith) ne))
    ]
