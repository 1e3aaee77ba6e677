-- Lines of a block that are judged by strings.
use Rattle.std.proofs.Common.{Bor, ◌≡◌, ◌<◌, ◌≤◌, ◌+◌, ◌-◌, ◌⊎◌, inl, inr, ℕ, Bool, true, false, IsTrue, Option, Some}
use Rattle.std.proofs.Common.{None}
use Rattle.std.proofs.Common.{List, length, take, drop, slice_range, refl, sym, ap, ◌∙◌, subst, arith, length-drop}
use Rattle.std.specs.Option.{IfSome, IsSomeAnd}
use Rattle.std.proofs.lemmas.List.{take-take, take_rest, drop-drop, length-take-le}
use Rattle.pg_literal.specs.Literals.{as_searched}
use Rattle.pg_strings.specs.Outcomes.{strings_of}
use Rattle.pg_selection.specs.Search.{SearchText}
use Rattle.pg_prefilter.specs.Strings.{IsNear, AreStrings, AreNonEmpty, IsSetOf, IsSuffixOf, IsBlockJudge, JudgesLine}
use Rattle.pg_prefilter.specs.Strings.{IsJudgeOf, ReadsSearched, first_judge}
use Rattle.pg_prefilter.specs.declared.literal_set.LiteralSet.{LiteralSet}
use Rattle.pg_literal.specs.declared.suffix.LineSuffix.{LineSuffix}
use Rattle.pg_strings.specs.declared.set.StringSet.{StringSet}
use Rattle.pg_prefilter.specs.declared.strings.BlockJudge.{BlockJudge}
use Rattle.pg_prefilter.specs.declared.strings.NearText.{NearText}
use Rattle.pg_prefilter.proofs.NeedleLemmas.{cut_searched, searched_length}

module _ {A : Type 0} (text : SearchText) (bytes : List ℕ) (strings : BlockJudge A)
    (are : IsBlockJudge text bytes strings) (line : List ℕ) (at : ℕ) where
  -- a line that stands at a place of the bytes
  pub judges_line : at + length line ≤ length bytes → line ≡ take (length line) (drop at bytes)
      → JudgesLine text strings line at
  judges_line within is = record {
    judge = are.judge;
    searched = λ reads.
        let searched = strings.searched.now in
        let folded = are.searched reads in
        let long = searched_length text.fold bytes searched folded in (
          omega (arith, within, long),
          cut_searched text.fold bytes searched at line folded (omega (arith, within)) is,
        );
  }

  -- the front of a part of the bytes
  pub judges_front : (stop : ℕ) → at ≤ stop → stop ≤ length bytes
      → line ≡ take (length line) (slice_range bytes at stop) → length line ≤ length (slice_range bytes at stop)
      → JudgesLine text strings line at
  judges_front stop low high is fits =
      let behind = length-drop at bytes in
      let size = length-take-le (stop - at) (drop at bytes) (omega (arith, behind, low, high)) in
      let short : length line ≤ stop - at = omega (arith, fits, size) in
      judges_line (omega (arith, low, high, short))
      (is ∙ take-take (length line) (stop - at) (drop at bytes) short)

module _ {A : Type 0} (text : SearchText) (bytes : List ℕ) (strings : BlockJudge A)
    (are : IsBlockJudge text bytes strings) (at start stop : ℕ) where
  -- a line of what stands behind a place
  pub judges_behind : at ≤ length bytes → start ≤ stop → stop ≤ length bytes - at
      → JudgesLine text strings (slice_range (take (length bytes - at) (drop at bytes)) start stop) (at + start)
  judges_behind within low high =
      let rest = drop at bytes in
      let line = take (stop - start) (drop start (take (length bytes - at) rest)) in
      let is : line ≡ take (stop - start) (drop (at + start) bytes) =
      ap (λ xs. take (stop - start) (drop start xs)) (take_rest bytes at)
      ∙ ap (take (stop - start)) (drop-drop start at bytes) in
      let long = length-drop (at + start) bytes in
      let size : length line ≡ stop - start =
      ap length is ∙ length-take-le (stop - start) (drop (at + start) bytes) (omega (arith, long, low, high, within)) in
      judges_line text bytes strings are line (at + start) (omega (arith, size, low, high, within))
      (is ∙ ap (λ n. take n (drop (at + start) bytes)) (sym size))

-- what is known of a set is known where it is left out too
pub sought_known : {X : Type 0} (P : X → Type 0) (set sought : Option X) → (sought ≡ set) ⊎ (sought ≡ None)
    → IfSome set P → IfSome sought P
sought_known P set sought (inl same) known = subst (λ o. IfSome o P) (sym same) known
sought_known P set sought (inr none) known = subst (λ o. IfSome o P) (sym none) tt

-- what two facts say of a value, of which one says that there is one
said_by_both : {X : Type 0} (P Q : X → Type 0) (o : Option X) → IsSomeAnd o P → IfSome o Q → (x : X) × P x × Q x
said_by_both P Q None some known = absurd some
said_by_both P Q (Some x) some known = (x, some, known)

module _ {A : Type 0} (set : Option (Bor (LiteralSet A))) where
  -- the strings are those of the set, which are all patterns
  abbrev pub AreOfSet : Bor (StringSet A) → Type 0
  AreOfSet strings = IsSomeAnd set (λ x. IsTrue x.now.is_fixed × (strings.now ≡ x.now.strings))

  -- the first of what was found of a query judges its lines
  pub judge_known : (text : SearchText) (strings some : Option (Bor (StringSet A)))
      (suffix : Option (Bor (LineSuffix A))) (near : Option NearText) → IfSome set (λ x. IsSetOf text x.now)
      → IfSome strings AreOfSet → IfSome some (λ x. AreNonEmpty text (strings_of x.now))
      → IfSome suffix (λ x. IsSuffixOf text x.now) → IfSome near (λ x. IsNear text x.finder x.before)
      → IsJudgeOf text (first_judge strings some suffix near)
  judge_known text (Some y) some suffix near known fixed non_empty ends stands =
      let Are : StringSet A → Type 0 = λ s. AreStrings text (strings_of s) in
      let both = said_by_both _ _ set fixed known in
      subst Are (sym both.1.1) (both.2.1 both.1.0)
  judge_known text None (Some x) suffix near known fixed non_empty ends stands = non_empty
  judge_known text None None (Some x) near known fixed non_empty ends stands = ends
  judge_known text None None None (Some x) known fixed non_empty ends stands = stands
  judge_known text None None None None known fixed non_empty ends stands = tt

  -- what is known where there is a set or a literal is known where strings or a text are looked for
  pub judge_reads : (P : Type 0) (count : ℕ) (strings non_empty : Option (Bor (StringSet A)))
      (suffix : Option (Bor (LineSuffix A))) (near : Option NearText) → IfSome strings AreOfSet
      → IfSome near (λ _. 0 < count) → IfSome set (λ _. P) → (0 < count → P)
      → ReadsSearched (first_judge strings non_empty suffix near) → P
  judge_reads P count (Some y) non_empty suffix near fixed some many few reads = (said_by_both _ _ set fixed many).2
  judge_reads P count None (Some x) suffix near fixed some many few reads = absurd reads
  judge_reads P count None None (Some x) near fixed some many few reads = absurd reads
  judge_reads P count None None None (Some x) fixed some many few reads = few some
  judge_reads P count None None None None fixed some many few reads = absurd reads
