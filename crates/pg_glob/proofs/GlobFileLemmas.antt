-- Lines of a file of globs. For `without_blanks`, `push_line` and `push_lines`.
use Rattle.std.proofs.Common.{◌≡◌, ◌∙◌, ℕ, ◌==◌, Bool, true, false, cond, List, [], ◌∷◌, ◌++◌, refl, sym, ap}
use Rattle.std.proofs.Common.{append_assoc}
use Rattle.std.proofs.lemmas.List.{append-nil}
use Rattle.std.specs.List.{flat_map, onto_first}
use Rattle.pg_bytes.specs.Lines.{lines}
use Rattle.pg_glob.specs.Filters.{Rule}
use Rattle.pg_glob.specs.GlobFiles.{is_blank, kept, without_blanks, rule_in, rules_in}

-- a blank at the end doesn't count
pub blank_end : (t : List ℕ) (x : ℕ) → is_blank x ≡ true → without_blanks (t ++ x ∷ []) ≡ without_blanks t
blank_end [] x e = ap (λ (b : Bool). cond b [] (x ∷ [])) e
blank_end (y ∷ t) x e = ap (kept y) (blank_end t x e)

kept_before : (y : ℕ) (t : List ℕ) (x : ℕ) → kept y (t ++ x ∷ []) ≡ y ∷ (t ++ x ∷ [])
kept_before y [] x = refl
kept_before y (z ∷ t) x = refl

-- and nothing before another byte is lost
pub other_end : (t : List ℕ) (x : ℕ) → is_blank x ≡ false → without_blanks (t ++ x ∷ []) ≡ t ++ x ∷ []
other_end [] x e = ap (λ (b : Bool). cond b [] (x ∷ [])) e
other_end (y ∷ t) x e = ap (kept y) (other_end t x e) ∙ kept_before y t x

-- The rules of a file, as they are read.

-- those of its lines, where these bytes stand before the first of them
abbrev pub rules_behind : List ℕ → List ℕ → List Rule
rules_behind line [] = rule_in (without_blanks line)
rules_behind line (x ∷ t) =
    cond (x == 10) (rule_in (without_blanks line) ++ rules_behind [] t) (rules_behind (line ++ x ∷ []) t)

-- bytes before the first of some lines
abbrev front_of : List ℕ → List (List ℕ) → List (List ℕ)
front_of line [] = line ∷ []
front_of line (l ∷ ls) = (line ++ l) ∷ ls

abbrev of_lines : List (List ℕ) → List Rule
of_lines ls = flat_map (λ line. rule_in (without_blanks line)) ls

of_front : (ls : List (List ℕ)) → of_lines (front_of [] ls) ≡ of_lines ls
of_front [] = refl
of_front (l ∷ ls) = refl

front-onto : (line : List ℕ) (x : ℕ) (ls : List (List ℕ))
    → front_of (line ++ x ∷ []) ls ≡ front_of line (onto_first x ls)
front-onto line x [] = refl
front-onto line x (l ∷ ls) = ap (λ xs. xs ∷ ls) (append_assoc line (x ∷ []) l)

behind_next : (ends : Bool) (line : List ℕ) (x : ℕ) (t : List ℕ)
    → rules_behind [] t ≡ of_lines (front_of [] (lines 10 t))
    → rules_behind (line ++ x ∷ []) t ≡ of_lines (front_of (line ++ x ∷ []) (lines 10 t))
    → cond ends (rule_in (without_blanks line) ++ rules_behind [] t) (rules_behind (line ++ x ∷ []) t)
    ≡ of_lines (front_of line (cond ends ([] ∷ lines 10 t) (onto_first x (lines 10 t))))
behind_next true line x t anew on =
    ap (λ rs. rule_in (without_blanks line) ++ rs) (anew ∙ of_front (lines 10 t))
    ∙ ap (λ xs. rule_in (without_blanks xs) ++ of_lines (lines 10 t)) (sym (append-nil line))
behind_next false line x t anew on = on ∙ ap of_lines (front-onto line x (lines 10 t))

behind_lines : (line text : List ℕ) → rules_behind line text ≡ of_lines (front_of line (lines 10 text))
behind_lines line [] = sym (append-nil (rule_in (without_blanks line)))
behind_lines line (x ∷ t) =
    behind_next (x == 10) line x t (behind_lines [] t) (behind_lines (line ++ x ∷ []) t)

-- before the first line stands nothing
pub rules_from : (text : List ℕ) → rules_behind [] text ≡ rules_in text
rules_from text = behind_lines [] text ∙ of_front (lines 10 text)

-- Of all these rules the first ones were added, and these are to come.
pub record HasAdded (all before after later : List Rule) : Type 0 where
  pub front : List Rule
  pub added : after ≡ before ++ front
  pub whole : front ++ later ≡ all

pub none_added : {all later : List Rule} (before : List Rule) → later ≡ all → HasAdded all before before later
none_added before e = record { front = []; added = sym (append-nil before); whole = e }
