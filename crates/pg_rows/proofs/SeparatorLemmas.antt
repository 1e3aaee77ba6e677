-- The bytes of a separator, for `Separator::new`.
use Rattle.std.proofs.Common.{◌≡◌, ◌∙◌, ℕ, ◌≤◌, cond, List, ◌++◌, Option, Some, None, length, drop}
use Rattle.std.proofs.Common.{replicate, ap, sym}
use Rattle.std.proofs.lemmas.List.{drop-replicate}
use Rattle.std.proofs.lemmas.Bool.{le-leb}
use Rattle.pg_rows.specs.Separator.{separator_for, separator_of}
use Rattle.pg_rows.specs.declared.separator.Separator.{Separator}

-- a text over the first bytes of an empty room
pub made_of : (text bytes : List ℕ) → bytes ≡ text → length text ≤ 64
    → Some (record { bytes = bytes ++ drop (length text) (replicate 64 0); len = length text }) ≡ separator_for text
made_of text bytes same few = ap held
    (ap (λ (l : List ℕ). l ++ drop (length text) (replicate 64 0)) same
    ∙ ap (λ (l : List ℕ). text ++ l) (drop-replicate (length text) 64 0))
    ∙ ap (λ b. cond b (Some (separator_of text)) None) (sym (le-leb (length text) 64 few))
  where
    held : List ℕ → Option Separator
    held room = Some (record { bytes = room; len = length text })
