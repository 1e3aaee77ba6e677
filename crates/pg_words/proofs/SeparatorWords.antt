-- The text between groups of lines that words name.
use Rattle.std.proofs.Common.{◌≡◌, ◌∙◌, ap, refl, sym, true, false, not, Bool, List, [], ◌∷◌, ◌++◌, Option, Some, None}
use Rattle.std.proofs.Common.{cond, codes, map, ◌&&◌}
use Rattle.std.specs.Prelude.{unwrap_or}
use Rattle.std.specs.Str.{bytes_eq}
use Rattle.std.proofs.lemmas.Slice.Eq.{bytes_eq-Decides}
use Rattle.clap.specs.Lexer.{long_of}
use Rattle.clap.proofs.CutLemmas.{Lacks}
use Rattle.pg_words.specs.Joined.{long, word}
use Rattle.pg_words.specs.Line.{Word, Use, Given, Operand, Uses, by_name, separator_after, separator_by, table}
use Rattle.pg_words.proofs.Passes.{IsPass}
use Rattle.pg_words.proofs.SilentWords.{IsHeeded, named_alone, named_at, refused_as, word_silent}

after_both : (us vs : List Use) (before : Option Word)
    → separator_after (us ++ vs) before ≡ separator_after vs (separator_after us before)
after_both [] vs before = refl
after_both (Given o v ∷ us) vs before = after_both us vs (separator_by o.name v before)
after_both (Operand v ∷ us) vs before = after_both us vs before

operands_silent : (ws : List Word) (before : Option Word) → separator_after (map Operand ws) before ≡ before
operands_silent [] before = refl
operands_silent (w ∷ ws) before = operands_silent ws before

pub separator_passes : IsPass (Option Word) separator_after
separator_passes = record { both = after_both; operands = operands_silent; nothing = λ before. refl }

abbrev is_silent : Word → Bool
is_silent name = not (bytes_eq name (codes "group-separator")) && not (bytes_eq name (codes "no-group-separator"))

silent_is : (name v : Word) (before : Option Word) → is_silent name ≡ true → separator_by name v before ≡ before
silent_is name v before e =
    go (bytes_eq name (codes "group-separator")) (bytes_eq name (codes "no-group-separator")) e
  where
    go : (a b : Bool) → (not a && not b) ≡ true
        → cond {A = Option Word} a (Some v) (cond {A = Option Word} b None before) ≡ before
    go true b e = cc
    go false true e = cc
    go false false e = refl

heeded : IsHeeded (Option Word) separator_after separator_by is_silent
heeded = record {
  pass = separator_passes;
  given = λ o v before. refl;
  silent = silent_is;
  told = refl;
}

-- a word without `=` that isn't --no-group-separator
pub none_named : (w : Word) (us : List Use) (before : Option Word) → Lacks 61 w
    → bytes_eq w (codes "--no-group-separator") ≡ false → word table w ≡ Some us
    → before ≡ separator_after us before
none_named w us before lacks other e = sym (word_silent heeded w us before silent e)
  where
    silent : (p : Word × Option Word) → long_of w ≡ Some p → long (by_name table p.0) p.1 ≡ Some us
        → is_silent p.0 ≡ true
    silent p is asks =
        let parts = named_alone w p lacks is in
        let n : Word = parts.0 in
        let looks : w ≡ 45 ∷ 45 ∷ n = parts.1 in
        let pair : p ≡ (n, None) = parts.2 in
        let same : bytes_eq n (codes "no-group-separator") ≡ false =
        ap (λ (l : Word). bytes_eq l (codes "--no-group-separator")) (sym looks) ∙ other in
        ap (λ (q : Word × Option Word). is_silent q.0) pair
        ∙ (ap (λ (b : Bool). not (bytes_eq n (codes "group-separator")) && not b) same
        ∙ go n (bytes_eq n (codes "group-separator")) refl
        (ap (λ (q : Word × Option Word). long (by_name table q.0) q.1) (sym pair) ∙ asks))
      where
        go : (n : Word) (b : Bool) → bytes_eq n (codes "group-separator") ≡ b → long (by_name table n) None ≡ Some us
            → (not b && true) ≡ true
        go n true is asks = absurd (refused_as n (codes "group-separator") None us is asks refl)
        go n false is asks = refl

-- a word with another text than --group-separator before its first `=`
pub other_named : (w t v : Word) (us : List Use) (before : Option Word) → w ≡ t ++ 61 ∷ v → Lacks 61 t
    → bytes_eq t (codes "--group-separator") ≡ false → word table w ≡ Some us → before ≡ separator_after us before
other_named w t v us before cut lacks other e = sym (word_silent heeded w us before silent e)
  where
    silent : (p : Word × Option Word) → long_of w ≡ Some p → long (by_name table p.0) p.1 ≡ Some us
        → is_silent p.0 ≡ true
    silent p is asks =
        let parts = named_at t v p lacks (ap long_of (sym cut) ∙ is) in
        let n : Word = parts.0 in
        let looks : t ≡ 45 ∷ 45 ∷ n = parts.1 in
        let pair : p ≡ (n, Some v) = parts.2 in
        let same : bytes_eq n (codes "group-separator") ≡ false =
        ap (λ (l : Word). bytes_eq l (codes "--group-separator")) (sym looks) ∙ other in
        ap (λ (q : Word × Option Word). is_silent q.0) pair
        ∙ (ap (λ (b : Bool). not b && not (bytes_eq n (codes "no-group-separator"))) same
        ∙ go n (bytes_eq n (codes "no-group-separator")) refl
        (ap (λ (q : Word × Option Word). long (by_name table q.0) q.1) (sym pair) ∙ asks))
      where
        go : (n : Word) (b : Bool) → bytes_eq n (codes "no-group-separator") ≡ b
            → long (by_name table n) (Some v) ≡ Some us → not b ≡ true
        go n true is asks = absurd (refused_as n (codes "no-group-separator") (Some v) us is asks refl)
        go n false is asks = refl

-- --no-group-separator
pub none_said : (w : Word) (us : List Use) (before : Option Word) → bytes_eq w (codes "--no-group-separator") ≡ true
    → word table w ≡ Some us → None ≡ separator_after us before
none_said w us before is e =
    ap (λ (o : Uses). separator_after (unwrap_or o us) before)
    (ap (word table) (sym ((bytes_eq-Decides w (codes "--no-group-separator")).0 is)) ∙ e)

-- --group-separator with a text
pub text_said : (w t v : Word) (us : List Use) (before : Option Word) → w ≡ t ++ 61 ∷ v
    → bytes_eq t (codes "--group-separator") ≡ true → word table w ≡ Some us → Some v ≡ separator_after us before
text_said w t v us before cut is e =
    ap (λ (o : Uses). separator_after (unwrap_or o us) before)
    (ap (λ (n : Word). word table (n ++ 61 ∷ v)) (sym ((bytes_eq-Decides t (codes "--group-separator")).0 is))
    ∙ (ap (word table) (sym cut) ∙ e))
