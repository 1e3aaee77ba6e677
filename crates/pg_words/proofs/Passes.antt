-- A pass over the joined words before the mark, which keeps what their uses said so far.
use Rattle.std.proofs.Common.{◌≡◌, ◌∙◌, ap, sym, true, false, ℕ, Bool, List, [], ◌∷◌, ◌++◌, Option, Some, None, cond}
use Rattle.std.proofs.Common.{◌+◌, ◌<◌, ◌≤◌, add-one, drop, drop-cons, find, get_or, length, map, refl, String, Global}
use Rattle.std.proofs.Common.{not, option_and_then, option_map}
use Rattle.std.specs.List.{before_first, list_all}
use Rattle.std.specs.Prelude.{unwrap_or}
use Rattle.std.specs.String.{string_bytes}
use Rattle.std.proofs.lemmas.List.{drop_all}
use Rattle.std.proofs.lemmas.List.Sums.{take_while-cons}
use Rattle.clap.proofs.WalkLemmas.{both}
use Rattle.pg_words.specs.Joined.{asked, word}
use Rattle.pg_words.specs.Line.{Word, Opt, Operand, Use, Uses, is_mark, table, then_uses}

pub some_is : (us vs : List Use) → Some us ≡ Some vs → us ≡ vs
some_is us vs e = ap (λ (o : Uses). unwrap_or o us) e

-- an option that is found passes the test that all of them pass
pub found_passes : (p q : Opt → Bool) (os : List Opt) (o : Opt) → list_all p os ≡ true → find q os ≡ Some o
    → p o ≡ true
found_passes p q [] o all e = cc
found_passes p q (x ∷ os) o all e = go (q x) (both (p x) (list_all p os) all) e (found_passes p q os o)
  where
    go : (b : Bool) → (p x ≡ true) × (list_all p os ≡ true) → cond b (Some x) (find q os) ≡ Some o
        → (list_all p os ≡ true → find q os ≡ Some o → p o ≡ true) → p o ≡ true
    go true each e later = ap p (sym (ap (λ (r : Option Opt). unwrap_or r o) e)) ∙ each.0
    go false each e later = later each.1 e

-- what is said after these uses, by what was said before them; operands say nothing
pub record IsPass (A : Type 0) (after : List Use → A → A) : Type 0 where
  pub both : (us vs : List Use) (before : A) → after (us ++ vs) before ≡ after vs (after us before)
  pub operands : (ws : List Word) (before : A) → after (map Operand ws) before ≡ before
  pub nothing : (before : A) → after [] before ≡ before

module _ {A : Type 0} (after : List Use → A → A) where
  -- what is said after what words come to, by what was said before it
  abbrev said_by : Uses → A → Option A
  said_by U so_far = option_map (λ us. after us so_far) U

  -- what is said after words without the mark, one by one
  abbrev said_behind : List (String Global) → A → Option A
  said_behind [] so_far = Some so_far
  said_behind (d ∷ words) so_far =
      option_and_then (λ us. said_behind words (after us so_far)) (word table (string_bytes d))

  -- from index i on, the words before the mark say after what is said so far what all words say after `start`
  pub record Goes (start : A) (words before : List (String Global)) (i : ℕ) (so_far : A) : Type 0 where
    pub says : (us : List Use) → asked table (map string_bytes words) ≡ Some us
        → said_behind (drop i before) so_far ≡ Some (after us start)

abbrev marks : String Global → Bool
marks d = is_mark (string_bytes d)

module _ {A : Type 0} {after : List Use → A → A} (pass : IsPass A after) where
  said_next : (U V : Uses) (later : A → Option A) (so_far : A) → ((more : A) → later more ≡ said_by after V more)
      → option_and_then (λ us. later (after us so_far)) U ≡ said_by after (then_uses U V) so_far
  said_next None V later so_far is = refl
  said_next (Some us) None later so_far is = is (after us so_far)
  said_next (Some us) (Some vs) later so_far is = is (after us so_far) ∙ ap Some (sym (pass.both us vs so_far))

  -- operands behind the mark say nothing
  to_mark : (b : Bool) (before : List (String Global)) (U : Uses) (ws : List Word) (so_far : A)
      → said_behind after before so_far ≡ said_by after U so_far
      → said_behind after (cond (not b) before []) so_far ≡ said_by after (cond b (Some (map Operand ws)) U) so_far
  to_mark true before U ws so_far is = ap Some (sym (pass.operands ws so_far))
  to_mark false before U ws so_far is = is

  -- all words say what those before the mark say
  before_mark : (words : List (String Global)) (so_far : A)
      → said_behind after (before_first marks words) so_far
      ≡ said_by after (asked table (map string_bytes words)) so_far
  unfolding asked
  before_mark [] so_far = ap Some (sym (pass.nothing so_far))
  before_mark (d ∷ words) so_far =
      rw (take_while-cons (λ w. not (marks w)) d words)
      (to_mark (marks d) _ _ (map string_bytes words) so_far
      (said_next (word table (string_bytes d)) _ _ so_far (before_mark words)))

  pub begins : {start : A} {words before : List (String Global)} → before ≡ before_first marks words
      → Goes after start words before 0 start
  begins {start} {words} is = record {
    says = λ us all. rw is (before_mark words start ∙ ap (λ (U : Uses). said_by after U start) all);
  }

  pub one_more : {start so_far more : A} {words before : List (String Global)} {i : ℕ} {d : String Global} {w : Word}
      → Goes after start words before i so_far → i < length before → d ≡ get_or before i d → w ≡ string_bytes d
      → ((us : List Use) → word table w ≡ Some us → more ≡ after us so_far) → Goes after start words before (i + 1) more
  one_more {start} {so_far} {more} {words} {before} {i} {d} {w} goes within item text says = record {
    says = λ us all. go (word table w) refl (after us start) (rw (here, ← text) at (goes.says us all));
  }
    where
      here : drop i before ≡ d ∷ drop (i + 1) before
      here = rw (add-one, drop-cons before i d within, ← item) refl

      go : (U : Uses) → word table w ≡ U → (said : A)
          → option_and_then (λ us. said_behind after (drop (i + 1) before) (after us so_far)) U ≡ Some said
          → said_behind after (drop (i + 1) before) more ≡ Some said
      go None is said e = cc
      go (Some us) is said e = rw (says us is) e

  pub all_said : {start so_far : A} {words before : List (String Global)} {i : ℕ}
      → Goes after start words before i so_far → length before ≤ i
      → (us : List Use) → asked table (map string_bytes words) ≡ Some us → so_far ≡ after us start
  all_said {before = before} {i = i} goes past us all =
      let e = rw (drop_all i before past) at (goes.says us all) in
      cc
