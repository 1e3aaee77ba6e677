-- Which bytes a backslash does nothing to, for `basic_escape`, `extended_escape` and `escape_fault`.
use Rattle.std.proofs.Common.{ℕ, ◌≡◌, ◌≢◌, false, [], ◌∷◌}
use Rattle.pg_grammar.specs.Grammar.{is_escaped}
use Rattle.pg_grammar.specs.Places.{IsUnescaped}
use Rattle.pg_grammar.specs.declared.syntax.Syntax.TheVariants.{Basic, Extended}

same_byte : (b c : ℕ) → 92 ∷ b ∷ [] ≡ 92 ∷ c ∷ [] → b ≡ c
same_byte b c e = cc

pub unescaped_basic : (b : ℕ) → b ≢ 40 → b ≢ 41 → b ≢ 123 → is_escaped Basic b ≡ false → IsUnescaped Basic b
unescaped_basic b o c i e = (e, λ h. o (same_byte b 40 h), λ h. c (same_byte b 41 h), λ h. i (same_byte b 123 h))

pub unescaped_extended : (b : ℕ) → is_escaped Extended b ≡ false → IsUnescaped Extended b
unescaped_extended b e = (e, λ h. cc, λ h. cc, λ h. cc)
