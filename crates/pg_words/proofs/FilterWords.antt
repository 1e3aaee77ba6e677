-- The filters of files that words name.
use Rattle.std.proofs.Common.{◌≡◌, ◌∙◌, ap, refl, sym, true, false, not, Bool, List, [], ◌∷◌, ◌++◌}
use Rattle.std.proofs.Common.{Option, Some, None, cond, codes, map, ◌&&◌, append-nil, append_assoc}
use Rattle.std.specs.Prelude.{unwrap_or}
use Rattle.std.specs.Str.{bytes_eq}
use Rattle.std.proofs.lemmas.Slice.Eq.{bytes_eq-Decides}
use Rattle.clap.specs.Lexer.{long_of}
use Rattle.clap.proofs.CutLemmas.{Lacks}
use Rattle.pg_words.specs.Joined.{long, word}
use Rattle.pg_words.specs.Line.{Word, Use, Given, Operand, Uses, by_name, filter_by, filters_in, table}
use Rattle.pg_words.specs.Line.{Filter, Include, Exclude, ExcludeFrom}
use Rattle.pg_words.proofs.Passes.{IsPass}
use Rattle.pg_words.proofs.SilentWords.{IsHeeded, named_alone, named_at, refused_as, word_silent}

abbrev Filters : Type 0
Filters = List Filter

filters_both : (us vs : List Use) → filters_in (us ++ vs) ≡ filters_in us ++ filters_in vs
filters_both [] vs = refl
filters_both (Given o v ∷ us) vs =
    ap (λ (l : Filters). filter_by o.name v ++ l) (filters_both us vs)
    ∙ sym (append_assoc (filter_by o.name v) (filters_in us) (filters_in vs))
filters_both (Operand v ∷ us) vs = filters_both us vs

abbrev pub filters_after : List Use → List Filter → List Filter
filters_after us before = before ++ filters_in us

operands_silent : (ws : List Word) → filters_in (map Operand ws) ≡ []
operands_silent [] = refl
operands_silent (w ∷ ws) = operands_silent ws

pub filters_pass : IsPass (List Filter) filters_after
filters_pass = record {
  both = λ us vs before. ap (λ (l : Filters). before ++ l) (filters_both us vs)
      ∙ sym (append_assoc before (filters_in us) (filters_in vs));
  operands = λ ws before. ap (λ (l : Filters). before ++ l) (operands_silent ws) ∙ append-nil before;
  nothing = append-nil;
}

-- none of the names
abbrev is_silent : Word → Bool
is_silent name =
    not (bytes_eq name (codes "include"))
    && (not (bytes_eq name (codes "exclude")) && not (bytes_eq name (codes "exclude-from")))

silent_is : (name v : Word) → is_silent name ≡ true → filter_by name v ≡ []
silent_is name v e =
    go (bytes_eq name (codes "include")) (bytes_eq name (codes "exclude")) (bytes_eq name (codes "exclude-from")) e
  where
    go : (a b d : Bool) → (not a && (not b && not d)) ≡ true
        → cond {A = Filters} a (Include v ∷ [])
        (cond {A = Filters} b (Exclude v ∷ []) (cond {A = Filters} d (ExcludeFrom v ∷ []) [])) ≡ []
    go true b d e = cc
    go false true d e = cc
    go false false true e = cc
    go false false false e = refl

abbrev added : Word → Word → Filters → Filters
added name v before = before ++ filter_by name v

heeded : IsHeeded Filters filters_after added is_silent
heeded = record {
  pass = filters_pass;
  given = λ o v before. ap (λ (l : Filters). before ++ l) (append-nil (filter_by o.name v));
  silent = λ name v before e. ap (λ (l : Filters). before ++ l) (silent_is name v e) ∙ append-nil before;
  told = refl;
}

-- a word without `=`
pub none_named : (w : Word) (us : List Use) → Lacks 61 w → word table w ≡ Some us → [] ≡ filters_in us
none_named w us lacks e = sym (word_silent heeded w us [] silent e)
  where
    -- each of the names wants a value
    alone : (n : Word) → long (by_name table n) None ≡ Some us → is_silent n ≡ true
    alone n asks = go (bytes_eq n (codes "include")) (bytes_eq n (codes "exclude"))
        (bytes_eq n (codes "exclude-from")) (λ is. refused_as n (codes "include") None us is asks refl)
        (λ is. refused_as n (codes "exclude") None us is asks refl)
        (λ is. refused_as n (codes "exclude-from") None us is asks refl)
      where
        go : (a b d : Bool) → (a ≡ true → ⊥) → (b ≡ true → ⊥) → (d ≡ true → ⊥) → (not a && (not b && not d)) ≡ true
        go true b d h k m = absurd (h refl)
        go false true d h k m = absurd (k refl)
        go false false true h k m = absurd (m refl)
        go false false false h k m = refl

    silent : (p : Word × Option Word) → long_of w ≡ Some p → long (by_name table p.0) p.1 ≡ Some us
        → is_silent p.0 ≡ true
    silent p is asks =
        let parts = named_alone w p lacks is in
        let n : Word = parts.0 in
        let pair : p ≡ (n, None) = parts.2 in
        ap (λ (q : Word × Option Word). is_silent q.0) pair
        ∙ alone n (ap (λ (q : Word × Option Word). long (by_name table q.0) q.1) (sym pair) ∙ asks)

-- a word with another text before its first `=`
pub other_named : (w t v : Word) (us : List Use) → w ≡ t ++ 61 ∷ v → Lacks 61 t
    → bytes_eq t (codes "--include") ≡ false → bytes_eq t (codes "--exclude") ≡ false
    → bytes_eq t (codes "--exclude-from") ≡ false → word table w ≡ Some us → [] ≡ filters_in us
other_named w t v us cut lacks keeps leaves reads e = sym (word_silent heeded w us [] silent e)
  where
    silent : (p : Word × Option Word) → long_of w ≡ Some p → long (by_name table p.0) p.1 ≡ Some us
        → is_silent p.0 ≡ true
    silent p is asks =
        let parts = named_at t v p lacks (ap long_of (sym cut) ∙ is) in
        let n : Word = parts.0 in
        let looks : t ≡ 45 ∷ 45 ∷ n = parts.1 in
        let pair : p ≡ (n, Some v) = parts.2 in
        ap (λ (q : Word × Option Word). is_silent q.0) pair
        ∙ (ap (λ (b : Bool). not b && (not (bytes_eq n (codes "exclude"))
        && not (bytes_eq n (codes "exclude-from"))))
        (ap (λ (l : Word). bytes_eq l (codes "--include")) (sym looks) ∙ keeps)
        ∙ (ap (λ (b : Bool). not b && not (bytes_eq n (codes "exclude-from")))
        (ap (λ (l : Word). bytes_eq l (codes "--exclude")) (sym looks) ∙ leaves)
        ∙ ap not (ap (λ (l : Word). bytes_eq l (codes "--exclude-from")) (sym looks) ∙ reads)))

module _ (w t v : Word) (us : List Use) (cut : w ≡ t ++ 61 ∷ v) where
  behind_name : (name : Word) → bytes_eq t name ≡ true → word table w ≡ Some us
      → word table (name ++ 61 ∷ v) ≡ Some us
  behind_name name is e =
      ap (λ (n : Word). word table (n ++ 61 ∷ v)) (sym ((bytes_eq-Decides t name).0 is))
      ∙ (ap (word table) (sym cut) ∙ e)

  pub include_named : bytes_eq t (codes "--include") ≡ true → word table w ≡ Some us → Include v ∷ [] ≡ filters_in us
  include_named is e = ap (λ (o : Uses). filters_in (unwrap_or o us)) (behind_name (codes "--include") is e)

  pub exclude_named : bytes_eq t (codes "--exclude") ≡ true → word table w ≡ Some us → Exclude v ∷ [] ≡ filters_in us
  exclude_named is e = ap (λ (o : Uses). filters_in (unwrap_or o us)) (behind_name (codes "--exclude") is e)

  pub exclude_from_named : bytes_eq t (codes "--exclude-from") ≡ true → word table w ≡ Some us
      → ExcludeFrom v ∷ [] ≡ filters_in us
  exclude_from_named is e = ap (λ (o : Uses). filters_in (unwrap_or o us)) (behind_name (codes "--exclude-from") is e)
