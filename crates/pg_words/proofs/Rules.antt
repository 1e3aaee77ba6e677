-- The rules of the built command.
use Rattle.std.proofs.Common.{◌≡◌, ◌∙◌, ap, refl, true, false, ℕ, Bool, List, [], ◌∷◌, ◌++◌, map, Some, None}
use Rattle.std.proofs.Common.{option_map, codes, find, cond}
use Rattle.clap.specs.Walk.{Rule, Text, arg_by_id, arg_by_index, arg_by_long, arg_by_short}
use Rattle.clap.specs.Simple.{Shape, new_shape, filled, filled_from, with_index, built}
use Rattle.clap.specs.Faults.{is_simple_and_free}
use Rattle.pg_words.specs.App.{our_app, option_rule, operands_rule, app_with}
use Rattle.pg_words.specs.Line.{Opt, by_letter, by_name, table}
use Rattle.std.proofs.Math.Bool.{or-false}

abbrev pub frule : Opt → Rule
frule o = filled (option_rule o)

abbrev pub oprule : Rule
oprule = with_index 1 (filled operands_rule)

abbrev pub rules : List Opt → List Rule
rules os = map frule os ++ oprule ∷ []

abbrev pub shape_with : List Rule → Shape
shape_with c = record (new_shape (codes "pargrep")) {
  rules = c;
  no_binary_name = true;
  disable_help_flag = true;
  disable_help_subcommand = true;
  args_override_self = true;
  is_built = true;
}

filled_is : (os : List Opt) → filled_from 1 (map option_rule os ++ operands_rule ∷ []) ≡ rules os
filled_is [] = refl
filled_is (o ∷ os) = ap (λ (rest : List Rule). frule o ∷ rest) (filled_is os)

pub built_is : (os : List Opt) → (built (app_with os)).top ≡ shape_with (rules os)
built_is os = ap shape_with (filled_is os)

pub ours_is_simple : is_simple_and_free our_app ≡ true
ours_is_simple = refl

pub find_rule : (p : Rule → Bool) (q : Opt → Bool) → ((o : Opt) → p (frule o) ≡ q o) → p oprule ≡ false
    → (os : List Opt) → find p (rules os) ≡ option_map frule (find q os)
find_rule p q same none [] = ap (λ (b : Bool). cond b (Some oprule) None) none
find_rule p q same none (o ∷ os) =
    ap (λ (b : Bool). cond b (Some (frule o)) (find p (rules os))) (same o) ∙ go (find_rule p q same none os) (q o)
  where
    go : find p (rules os) ≡ option_map frule (find q os)
        → (b : Bool) → cond b (Some (frule o)) (find p (rules os)) ≡ option_map frule (cond b (Some o) (find q os))
    go later true = refl
    go later false = later

pub by_short : (os : List Opt) (x : ℕ) → arg_by_short (rules os) x ≡ option_map frule (by_letter os x)
by_short os x = find_rule _ _ (λ o. or-false _) refl os

pub by_long : (os : List Opt) (name : Text) → arg_by_long (rules os) name ≡ option_map frule (by_name os name)
by_long os name = find_rule _ _ (λ o. refl) refl os

-- no option has an index
pub by_index : (os : List Opt) → arg_by_index (rules os) 1 ≡ Some oprule
by_index [] = refl
by_index (o ∷ os) = by_index os

pub ours_by_id : arg_by_id (rules table) (codes "operands") ≡ Some oprule
ours_by_id = refl
