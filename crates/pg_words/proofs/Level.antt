-- What a parse comes to: whether it is refused, and its rows.
use Rattle.std.proofs.Common.{◌≡◌, ◌∙◌, ap, ap₂, refl, sym, subst, true, false, not, ℕ, Bool, List, [], ◌∷◌, Some, None}
use Rattle.std.proofs.Common.{codes, cond, fold, ◌&&◌, ◌||◌, ◌≤◌, All, IsUtf8}
use Rattle.std.specs.List.{list_any}
use Rattle.clap.specs.Kinds.{Kinds, or_else}
use Rattle.clap.specs.Walk.{Held, Row, Text, Walk, arg_by_id, has_row, nothing_held, settled, with_default, finished}
use Rattle.clap.specs.Walk.{walk, walk_from}
use Rattle.clap.specs.Simple.{App, Shape, names_of, built, matches_of}
use Rattle.clap.specs.Faults.{default_fault, defaults_fault, check_fault, fault_of, level_fault, settle_fault}
use Rattle.clap.specs.Faults.{walk_fault}
use Rattle.clap.specs.Takes.{is_given}
use Rattle.clap.proofs.FaultLemmas.{leaf_fault}
use Rattle.pg_words.specs.App.{app_with}
use Rattle.pg_words.proofs.Rules.{frule, oprule, rules, shape_with, built_is, by_short, by_long, by_index}
use Rattle.pg_words.proofs.Walks.{Ends, applied, at, has_fault, words_come, HasId, calm_at, settled_at, faults_first}
use Rattle.pg_words.specs.Line.{Value, Nothing, AnyText, Number, Opt, Uses, by_letter, by_name}
use Rattle.pg_words.specs.Joined.{asked, complete}

same_cond : (b : Bool) (x : Kinds) → x ≡ [] → cond b [] x ≡ []
same_cond true x e = refl
same_cond false x e = e

always : (b : Bool) (x : Kinds) → cond (b || true) [] x ≡ []
always true x = refl
always false x = refl

flag_default : (o : Opt) (v : Value) (rows : List Row) → default_fault rows (frule (record o { value = v })) ≡ []
flag_default o Nothing rows = same_cond (has_row o.name rows || false) [] refl
flag_default o AnyText rows = always (has_row o.name rows) _
flag_default o (Number low high) rows = always (has_row o.name rows) _

no_default_faults : (os : List Opt) (rows : List Row) → defaults_fault rows (rules os) ≡ []
unfolding defaults_fault
no_default_faults [] rows = ap (λ (k : Kinds). or_else k []) (always (has_row (codes "operands") rows) _)
no_default_faults (o ∷ os) rows = ap₂ or_else (flag_default o o.value rows)
    (no_default_faults os (with_default rows (frule o)))

none_required : (os : List Opt) (rows : List Row) → list_any (λ a. a.required && not (is_given a.id rows)) (rules os)
    ≡ false
none_required [] rows = refl
none_required (o ∷ os) rows = none_required os rows

no_check_faults : (os : List Opt) (rows : List Row) → check_fault (shape_with (rules os)) rows false ≡ []
no_check_faults os rows = rw (none_required os rows) refl

no_subs : (os : List Opt) → (built (app_with os)).subs ≡ []
no_subs os = refl

all_built : (os : List Opt) → built (app_with os) ≡ record { top = shape_with (rules os); subs = [] }
all_built os = ap (λ (s : Shape). record { top = s; subs = [] }) (built_is os)

-- how a parse ends
abbrev pub Reads : Uses → Kinds → List Row → List Opt → Type 0
Reads None fault rows os = has_fault fault ≡ true
Reads (Some us) fault rows os = (fault ≡ []) × (rows ≡ fold with_default (applied us []) (rules os))

-- a fault of the walk or behind it is one of the whole parse
fails_first : (a b rest : Kinds) → has_fault (or_else a b) ≡ true → has_fault (or_else a (or_else b rest)) ≡ true
fails_first [] b rest e = faults_first b rest e
fails_first (k ∷ ks) b rest e = refl

module _ (os : List Opt) (id_is : arg_by_id (rules os) (codes "operands") ≡ Some oprule)
    (letters_are_ascii : (x : ℕ) → 128 ≤ x → by_letter os x ≡ None)
    (letter_id : (x : ℕ) → HasId (rules os) (by_letter os x))
    (name_id : (name : Text) → HasId (rules os) (by_name os name)) where
  level : (ws : List Text) (U : Uses)
      → Ends (rules os) U (walk_fault (shape_with (rules os)) [] (walk_from nothing_held) ws)
      (walk (rules os) [] nothing_held ws) []
      → Reads U (level_fault (shape_with (rules os)) [] nothing_held ws false [])
      (finished (rules os) (walk (rules os) [] nothing_held ws).held) os
  level ws None h =
      let end = (walk (rules os) [] nothing_held ws).held in
      fails_first (walk_fault (shape_with (rules os)) [] (walk_from nothing_held) ws) (settle_fault (rules os) true end)
      (or_else (defaults_fault (settled (rules os) end).rows (rules os))
      (check_fault (shape_with (rules os)) (finished (rules os) end) false)) h
  level ws (Some us) h =
      let calm = calm_at os (rules os) id_is (by_index os) (by_long os)
      (by_short os) letters_are_ascii letter_id name_id h.1 h.2 in
      let settle = settled_at os (rules os) id_is (by_index os) (by_long os)
      (by_short os) letters_are_ascii letter_id name_id h.1 h.2 in (
        ap₂ or_else h.0 (rw (
          h.5,
          calm,
          no_default_faults os
              (settled (rules os) (at h.1 h.2 h.3 h.4).held).rows,
          no_check_faults os
              (finished (rules os) (at h.1 h.2 h.3 h.4).held),
        ) refl),
        ap (λ (w : Walk). finished (rules os) w.held) h.5
            ∙ ap (λ (x : Held). fold with_default x.rows (rules os)) settle
            ∙ ap (λ (r : List Row). fold with_default r (rules os)) h.6,
      )

  pub reads : (ws : List Text) → All IsUtf8 ws → complete os ws ≡ true
      → Reads (asked os ws) (fault_of (app_with os) ws) (matches_of (app_with os) ws) os
  reads ws utf8 whole =
      let here = level ws (asked os ws) (words_come os (rules os) id_is (by_index os) (by_long os)
      (by_short os) letters_are_ascii letter_id name_id ws [] None false utf8 whole) in
      subst (λ (k : Kinds). Reads (asked os ws) k (matches_of (app_with os) ws) os)
      (sym (leaf_fault (built (app_with os)) nothing_held ws (no_subs os)))
      (subst (λ (a : App). Reads (asked os ws) (level_fault a.top [] nothing_held ws false [])
      (finished a.top.rules (walk a.top.rules (names_of a) nothing_held ws).held) os)
      (sym (all_built os)) here)
