-- The patterns of fixed strings, and of expressions that spell what these do, for `searchers_of_strings` and
-- `machine_of_strings`.
use Rattle.std.proofs.Common.{◌≡◌, ℕ, suc, ◌<◌, ◌≤◌, Bool, List, [], ◌∷◌, ◌++◌, length, refl, sym, ap, ◌∙◌}
use Rattle.std.proofs.Common.{subst, arith, append_assoc, All, ◌⊎◌, inl, inr, Result, Ok, Err}
use Rattle.std.proofs.lemmas.List.{append-nil}
use Rattle.std.specs.Borrow.{Bor}
use Rattle.std.specs.List.{AllZip}
use Rattle.std.specs.Result.{IfErr, IsErrAnd}
use Rattle.pg_pattern.specs.Patterns.{Pattern, Cat, IsProper}
use Rattle.pg_grammar.specs.Grammar as G
use Rattle.pg_grammar.specs.Grammar.{Literal, Spells}
use Rattle.pg_grammar.specs.ListResults.{AreSpelled}
use Rattle.pg_grammar.specs.Results.{IsSpelled}
use Rattle.pg_grammar.specs.Slices.{bytes_of}
use Rattle.pg_syntax.proofs.PlainLemmas.{plain_spelled}
use Rattle.pg_literal.proofs.StringLemmas.{literal_some}
use Rattle.pg_match.specs.Sizes.{list_size}
use Rattle.pg_match.specs.Strings.{string_pattern, string_patterns, with_string}
use Rattle.pg_match.specs.declared.machine.BuildFault.{BuildFault}
use Rattle.pg_match.specs.declared.machine.BuildFault.TheVariants.{TooManyStates}
use Rattle.pg_selection.specs.Search.{SearchText, Kind, Fixed, AreTreesOf}
use Rattle.pg_prefilter.specs.Fixed.{AreFixed}
use Rattle.pg_lines.specs.Queries.{AreItsStrings, IsPlainText, IsQueryFault}
use Rattle.pg_lines.specs.declared.query.QueryFault.{QueryFault}
use Rattle.pg_lines.specs.declared.query.QueryFault.TheVariants.{TooLarge, OutOfMemory}

module _ (fold : Bool) where
  -- one byte
  abbrev byte : ℕ → Pattern
  byte b = string_pattern fold (b ∷ [])

  -- a row of bytes is a literal
  literal_behind : (front : List ℕ) (p : Pattern) (text : List ℕ) → Literal fold front p
      → Literal fold (front ++ text) (with_string fold p text)
  literal_behind front p [] l = subst (λ t. Literal fold t p) (sym (append-nil front)) l
  literal_behind front p (b ∷ text) l =
      subst (λ t. Literal fold t (with_string fold (Cat p (byte b)) text)) (append_assoc front (b ∷ []) text)
      (literal_behind (front ++ b ∷ []) (Cat p (byte b)) text (G.more l b))

  -- a string spells its pattern
  spells_pattern : (text : List ℕ) → length text ≤ 4096 → Spells Fixed fold text (string_pattern fold text)
  spells_pattern [] short = G.nothing
  spells_pattern (b ∷ text) short = G.some short (literal_behind (b ∷ []) (byte b) text (G.first b))

  -- one more byte
  one_behind : (p : Pattern) (text : List ℕ) (b : ℕ)
      → with_string fold p (text ++ b ∷ []) ≡ Cat (with_string fold p text) (byte b)
  one_behind p [] b = refl
  one_behind p (c ∷ text) b = one_behind (Cat p (byte c)) text b

  pattern_behind : (text : List ℕ) (b : ℕ) → 0 < length text
      → string_pattern fold (text ++ b ∷ []) ≡ Cat (string_pattern fold text) (byte b)
  pattern_behind [] b some = absurd (omega (arith, some))
  pattern_behind (c ∷ text) b some = one_behind (byte c) text b

  -- and spells no other pattern
  literal_pattern : {text : List ℕ} {p : Pattern} → Literal fold text p → p ≡ string_pattern fold text
  literal_pattern (G.first b) = refl
  literal_pattern (G.more {text = t} l b) =
      ap (λ q. Cat q (byte b)) (literal_pattern l) ∙ sym (pattern_behind t b (literal_some l))

  spells_only : {text : List ℕ} {p : Pattern} → Spells Fixed fold text p → p ≡ string_pattern fold text
  spells_only G.nothing = refl
  spells_only (G.some short l) = literal_pattern l

  -- no repetition stands in it
  proper_behind : (p : Pattern) (text : List ℕ) → IsProper p → IsProper (with_string fold p text)
  proper_behind p [] proper = proper
  proper_behind p (b ∷ text) proper = proper_behind (Cat p (byte b)) text (proper, tt)

  string_proper : (text : List ℕ) → IsProper (string_pattern fold text)
  string_proper [] = tt
  string_proper (b ∷ text) = proper_behind (byte b) text tt

  -- a string spells its pattern as a fixed string, and so as an expression without special bytes
  string_spelled : (kind : Kind) (text : List ℕ) → IsPlainText kind text
      → IsSpelled kind fold text (string_pattern fold text)
  string_spelled kind text string = plain_spelled kind fold text (string_pattern fold text) string.1 (record {
    spells = spells_pattern text string.0;
    only = λ q spells. spells_only spells;
    proper = string_proper text;
  })

  strings_spell : (kind : Kind) (strings : List (Bor (List ℕ))) → All (λ string. IsPlainText kind string.now) strings
      → AreSpelled kind fold (bytes_of strings) (string_patterns fold strings)
  strings_spell kind [] plain = tt
  strings_spell kind (s ∷ strings) plain = (
    string_spelled kind s.now (plain 0 s (omega arith)),
    strings_spell kind strings
        (λ k d less. plain (suc k) d (omega (arith, less))),
  )

  -- and nothing else, so that trees of the strings are what they spell as fixed strings
  fixed_zip : (kind : Kind) (strings : List (Bor (List ℕ))) (trees : List Pattern)
      → All (λ string. IsPlainText kind string.now) strings → AreSpelled kind fold (bytes_of strings) trees
      → AllZip (Spells Fixed fold) (bytes_of strings) trees
  fixed_zip kind [] [] plain are = tt
  fixed_zip kind [] (t ∷ trees) plain are = absurd are
  fixed_zip kind (s ∷ strings) [] plain are = absurd are
  fixed_zip kind (s ∷ strings) (t ∷ trees) plain are =
      let string = plain 0 s (omega arith) in (
        subst (Spells Fixed fold s.now) (are.0.only (string_pattern fold s.now)
            (string_spelled kind s.now string).spells) (spells_pattern s.now string.0),
        fixed_zip kind strings trees (λ k d less. plain (suc k) d (omega (arith, less))) are.1,
      )

-- the trees of a text whose patterns are the strings
pub string_trees : (text : SearchText) (strings : List (Bor (List ℕ))) → AreItsStrings text strings
    → AreTreesOf text (string_patterns text.fold strings)
string_trees text strings are =
    subst (λ texts. AreSpelled text.kind text.fold texts (string_patterns text.fold strings)) are.each
    (strings_spell text.fold text.kind strings are.plain)

-- such a text's patterns spell what they spell as fixed strings
pub strings_fixed : (text : SearchText) (strings : List (Bor (List ℕ))) → AreItsStrings text strings → AreFixed text
strings_fixed text strings are trees spelled =
    subst (λ texts. AllZip (Spells Fixed text.fold) texts trees) are.each
    (fixed_zip text.fold text.kind strings trees are.plain
    (subst (λ texts. AreSpelled text.kind text.fold texts trees) (sym are.each) spelled))

-- why no automaton was built for them is why the text isn't compiled
pub strings_fault : {M : Type 0} (text : SearchText) (strings : List (Bor (List ℕ))) → AreItsStrings text strings
    → (build : BuildFault) → (build ≡ TooManyStates → 65536 < list_size (string_patterns text.fold strings))
    → (result : Result M QueryFault)
    → IsErrAnd result (λ fault. ((build ≡ TooManyStates) × (fault ≡ TooLarge)) ⊎ (fault ≡ OutOfMemory))
    → IfErr result (IsQueryFault text)
strings_fault text strings are build large (Ok made) told = tt
strings_fault text strings are build large (Err fault) (inl (many, is)) =
    subst (IsQueryFault text) (sym is) (string_patterns text.fold strings, string_trees text strings are, large many)
strings_fault text strings are build large (Err fault) (inr is) = subst (IsQueryFault text) (sym is) tt
