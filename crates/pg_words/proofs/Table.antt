-- The rows of the code's table, by letter and by name.
use Rattle.std.proofs.Common.{◌≡◌, ◌∙◌, ap, refl, sym, true, false, ℕ, Bool, List, [], ◌∷◌, map, Option, Some, None}
use Rattle.std.proofs.Common.{◌++◌, not, ap₂, ◌+◌, ◌<◌, drop, drop-cons, add-one, get_or, length}
use Rattle.std.proofs.Common.{append-nil, append_assoc, is_some, option_map, true≢false, ◌≤◌}
use Rattle.std.proofs.lemmas.List.{drop_all}
use Rattle.clap.proofs.WalkLemmas.{both, list_any-map}
use Rattle.clap.proofs.SimpleLemmas.{is_false}
use Rattle.std.specs.Str.{bytes_eq}
use Rattle.std.specs.Borrow.{Bor}
use Rattle.clap.specs.Words.{App, AddsAliases, AddsArg, AddsInTurn, Rule, app_of, rule_of, with_rule}
use Rattle.clap.specs.declared.builder.arg.Arg.{Arg}
use Rattle.clap.specs.declared.builder.command.Command.{Command}
use Rattle.std.specs.List.{list_all}
use Rattle.pg_words.specs.App.{app_of_rules, named_rule, rule_for, has_begun_name, has_name}
use Rattle.pg_words.specs.App.{has_value_behind, opts_of, value_of}
use Rattle.pg_words.specs.Joined.{takes_value}
use Rattle.pg_words.specs.Line.{Word, Opt, by_name}
use Rattle.pg_words.specs.Spelled.{begins, names_begun, only_one}
use Rattle.pg_words.specs.declared.command.OptionRow.{OptionRow}
use Rattle.pg_words.specs.declared.command.OptionValue.{OptionValue}
use Rattle.pg_words.specs.declared.command.OptionValue.TheVariants as behind
use Rattle.pg_words.specs.declared.command.Names.{Names}
use Rattle.pg_words.specs.declared.command.Names.TheVariants as names
use Rattle.std.proofs.Math.Bool.{and-false}

abbrev row : Names → Bor Word → OptionValue → OptionRow
row n name b = record { 0 = n; 1 = name; 2 = b }

same_value : (letter : Option ℕ) (name : Word) (others : List Word) (b : OptionValue)
    → has_value_behind b ≡ takes_value (Some (record {
      letter = letter;
      name = name;
      others = others;
      value =
          value_of b;
    }))
same_value letter name others behind.Nothing = refl
same_value letter name others (behind.Text text) = refl
same_value letter name others (behind.Number low high) = refl
same_value letter name others behind.Itself = refl

name_found_by : (n : Names) (own : Bor Word) (b : OptionValue) (rows : List OptionRow) (name : Word)
    → has_name (row n own b) name ≡ true
    → has_value_behind b ≡ takes_value (by_name (opts_of (row n own b ∷ rows)) name)
name_found_by (names.Letter letter others) own b rows name e =
    rw (← list_any-map (λ (other : Word). bytes_eq other name) (λ other. other.now) others.now, e)
    (same_value (Some letter) own.now (map (λ other. other.now) others.now) b)
name_found_by (names.Long others) own b rows name e =
    rw (← list_any-map (λ (other : Word). bytes_eq other name) (λ other. other.now) others.now, e)
    (same_value None own.now (map (λ other. other.now) others.now) b)
name_found_by names.Place own b rows name e = cc

name_passed_by : (n : Names) (own : Bor Word) (b : OptionValue) (rows : List OptionRow) (name : Word)
    → has_name (row n own b) name ≡ false
    → by_name (opts_of (row n own b ∷ rows)) name ≡ by_name (opts_of rows) name
name_passed_by (names.Letter letter others) own b rows name e =
    rw (← list_any-map (λ (other : Word). bytes_eq other name) (λ other. other.now) others.now, e) refl
name_passed_by (names.Long others) own b rows name e =
    rw (← list_any-map (λ (other : Word). bytes_eq other name) (λ other. other.now) others.now, e) refl
name_passed_by names.Place own b rows name e = refl

pub name_found : (r : OptionRow) (rows : List OptionRow) (name : Word) → has_name r name ≡ true
    → has_value_behind r.2 ≡ takes_value (by_name (opts_of (r ∷ rows)) name)
name_found r rows name e = name_found_by r.0 r.1 r.2 rows name e

pub name_passed : (r : OptionRow) (rows : List OptionRow) (name : Word) → has_name r name ≡ false
    → by_name (opts_of (r ∷ rows)) name ≡ by_name (opts_of rows) name
name_passed r rows name e = name_passed_by r.0 r.1 r.2 rows name e

name_some_by : (n : Names) (own : Bor Word) (b : OptionValue) (rows : List OptionRow) (name : Word)
    → has_name (row n own b) name ≡ true → is_some (by_name (opts_of (row n own b ∷ rows)) name) ≡ true
name_some_by (names.Letter letter others) own b rows name e =
    rw (← list_any-map (λ (other : Word). bytes_eq other name) (λ other. other.now) others.now, e) refl
name_some_by (names.Long others) own b rows name e =
    rw (← list_any-map (λ (other : Word). bytes_eq other name) (λ other. other.now) others.now, e) refl
name_some_by names.Place own b rows name e = cc

-- ---- names that are cut short

begun_by : (n : Names) (own : Bor Word) (b : OptionValue) (rows : List OptionRow) (start : Word)
    → has_begun_name (row n own b) start ≡ true
    → names_begun (opts_of (row n own b ∷ rows)) start ≡ own.now ∷ names_begun (opts_of rows) start
begun_by (names.Letter letter others) own b rows start e =
    rw (← list_any-map (λ (other : Word). begins other start) (λ other. other.now) others.now, e) refl
begun_by (names.Long others) own b rows start e =
    rw (← list_any-map (λ (other : Word). begins other start) (λ other. other.now) others.now, e) refl
begun_by names.Place own b rows start e = absurd (true≢false (sym e ∙ and-false _))

not_begun_by : (n : Names) (own : Bor Word) (b : OptionValue) (rows : List OptionRow) (start : Word)
    → has_begun_name (row n own b) start ≡ false
    → names_begun (opts_of (row n own b ∷ rows)) start ≡ names_begun (opts_of rows) start
not_begun_by (names.Letter letter others) own b rows start e =
    rw (← list_any-map (λ (other : Word). begins other start) (λ other. other.now) others.now, e) refl
not_begun_by (names.Long others) own b rows start e =
    rw (← list_any-map (λ (other : Word). begins other start) (λ other. other.now) others.now, e) refl
not_begun_by names.Place own b rows start e = refl

-- the name that was found so far
abbrev pub so_far : Option (Bor Word) → List Word
so_far None = []
so_far (Some name) = name.now ∷ []

pub only_so_far : (only : Option (Bor Word)) → option_map (λ name. name.now) only ≡ only_one (so_far only)
only_so_far None = refl
only_so_far (Some name) = refl

-- ---- the arguments of rows

map_pairs : (others : List (Bor Word)) → map (λ (alias : Bor Word × Bool). alias.0.now) (map (λ n. (n, false)) others)
    ≡ map (λ other. other.now) others
map_pairs [] = refl
map_pairs (other ∷ others) = ap (λ (l : List Word). other.now ∷ l) (map_pairs others)

texts_of : (long arg : Arg) (others : Bor (List (Bor Word))) → long.aliases.items ≡ []
    → arg.aliases.items ≡ long.aliases.items ++ map (λ n. (n, false)) others.now
    → map (λ alias. alias.0.now) arg.aliases.items ≡ map (λ other. other.now) others.now
texts_of long arg others none adds =
    ap (map (λ (alias : Bor Word × Bool). alias.0.now)) (adds ∙ ap (λ l. l ++ map (λ n. (n, false)) others.now) none)
    ∙ map_pairs others.now

pub long_rule : (named long arg : Arg) (r : OptionRow) (others : Bor (List (Bor Word)))
    → r.0 ≡ names.Long others → rule_of named ≡ named_rule r.2 r.1.now → named.aliases.items ≡ []
    → long ≡ record named { long = Some r.1 } → AddsAliases long arg (map (λ n. (n, false)) others.now)
    → rule_of arg ≡ rule_for r
long_rule named long arg r others is rule none long_is adds =
    let aliases : long.aliases.items ≡ [] = ap (λ (a : Arg). a.aliases.items) long_is ∙ none in
    let base : rule_of long ≡ record (named_rule r.2 r.1.now) { long = Some r.1.now } =
    ap rule_of long_is ∙ ap (λ (x : Rule). record x { long = Some r.1.now }) rule in
    ap rule_of adds.0 ∙ (ap₂ (λ (x : Rule) (l : List Word). record x { aliases = l }) base
    (texts_of long arg others aliases adds.1) ∙ sym (rw is refl))

pub letter_rule : (named long short arg : Arg) (r : OptionRow) (letter : ℕ) (others : Bor (List (Bor Word)))
    → r.0 ≡ names.Letter letter others → rule_of named ≡ named_rule r.2 r.1.now → named.aliases.items ≡ []
    → long ≡ record named { long = Some r.1 } → short ≡ record long { short = Some letter }
    → AddsAliases short arg (map (λ n. (n, false)) others.now) → rule_of arg ≡ rule_for r
letter_rule named long short arg r letter others is rule none long_is short_is adds =
    let aliases : short.aliases.items ≡ [] =
    ap (λ (a : Arg). a.aliases.items) short_is ∙ (ap (λ (a : Arg). a.aliases.items) long_is ∙ none) in
    let base : rule_of short ≡ record (named_rule r.2 r.1.now) { long = Some r.1.now; short = Some letter } =
    ap rule_of short_is ∙ (ap (λ (a : Arg). record (rule_of a) { short = Some letter }) long_is
    ∙ ap (λ (x : Rule). record x { long = Some r.1.now; short = Some letter }) rule) in
    ap rule_of adds.0 ∙ (ap₂ (λ (x : Rule) (l : List Word). record x { aliases = l }) base
    (texts_of short arg others aliases adds.1) ∙ sym (rw is refl))

-- a command with each of the arguments added
pub all_added : (args : List Arg) (old new : Command) → AddsInTurn AddsArg old args new
    → list_all (λ arg. not arg.global) args ≡ true → (rules : List Rule) → app_of old ≡ app_of_rules rules
    → app_of new ≡ app_of_rules (rules ++ map rule_of args)
all_added [] old new same local rules is = ap app_of (sym same) ∙ (is ∙ ap app_of_rules (sym (append-nil rules)))
all_added (arg ∷ args) old new adds local rules is =
    let parts = both (not arg.global) (list_all (λ arg. not arg.global) args) local in
    let one : app_of adds.0 ≡ app_of_rules (rules ++ rule_of arg ∷ []) =
    adds.1.shape (is_false arg.global parts.0) ∙ ap (λ (a : App). with_rule a (rule_of arg)) is in
    all_added args adds.0 new adds.2 parts.1 (rules ++ rule_of arg ∷ []) one
    ∙ ap app_of_rules (append_assoc rules (rule_of arg ∷ []) (map rule_of args))

-- ---- the loops over rows

pub next_row : {X : Type 0} (rows : List X) (i : ℕ) (d : X) → i < length rows
    → drop i rows ≡ get_or rows i d ∷ drop (i + 1) rows
next_row rows i d within = rw (add-one, drop-cons rows i d) refl

pub name_here : (rows : List OptionRow) (i : ℕ) (d : OptionRow) (name : Word) (called valued : Bool) → i < length rows
    → called ≡ has_name (get_or rows i d) name → called ≡ true → valued ≡ has_value_behind (get_or rows i d).2
    → takes_value (by_name (opts_of (drop i rows)) name) ≡ takes_value (by_name (opts_of rows) name)
    → valued ≡ takes_value (by_name (opts_of rows) name)
name_here rows i d name called valued within is called_so value before =
    value ∙ (name_found (get_or rows i d) (drop (i + 1) rows) name (sym is ∙ called_so)
    ∙ (ap (λ (l : List OptionRow). takes_value (by_name (opts_of l) name)) (sym (next_row rows i d within)) ∙ before))

pub called_here : (rows : List OptionRow) (i : ℕ) (d : OptionRow) (name : Word) (called : Bool) → i < length rows
    → called ≡ has_name (get_or rows i d) name → called ≡ true
    → is_some (by_name (opts_of (drop i rows)) name) ≡ is_some (by_name (opts_of rows) name)
    → true ≡ is_some (by_name (opts_of rows) name)
called_here rows i d name called within is called_so before =
    let r = get_or rows i d in
    sym (name_some_by r.0 r.1 r.2 (drop (i + 1) rows) name (sym is ∙ called_so))
    ∙ (ap (λ (l : List OptionRow). is_some (by_name (opts_of l) name)) (sym (next_row rows i d within)) ∙ before)

pub called_next : (rows : List OptionRow) (i : ℕ) (d : OptionRow) (name : Word) (called : Bool) → i < length rows
    → called ≡ has_name (get_or rows i d) name → called ≡ false
    → is_some (by_name (opts_of (drop i rows)) name) ≡ is_some (by_name (opts_of rows) name)
    → is_some (by_name (opts_of (drop (i + 1) rows)) name) ≡ is_some (by_name (opts_of rows) name)
called_next rows i d name called within is no_name before =
    ap (λ (o : Option Opt). is_some o)
    (sym (name_passed (get_or rows i d) (drop (i + 1) rows) name (sym is ∙ no_name)))
    ∙ (ap (λ (l : List OptionRow). is_some (by_name (opts_of l) name)) (sym (next_row rows i d within)) ∙ before)

module _ (rows : List OptionRow) (i : ℕ) (d : OptionRow) (start : Word) (begun : Bool) (within : i < length rows)
    (is : begun ≡ has_begun_name (get_or rows i d) start) where
  abbrev pub left : List Word
  left = names_begun (opts_of (drop (i + 1) rows)) start

  abbrev pub all : List Word
  all = names_begun (opts_of rows) start

  one_more : begun ≡ true → names_begun (opts_of (drop i rows)) start ≡ (get_or rows i d).1.now ∷ left
  one_more e =
      let r = get_or rows i d in
      ap (λ (l : List OptionRow). names_begun (opts_of l) start) (next_row rows i d within)
      ∙ begun_by r.0 r.1 r.2 (drop (i + 1) rows) start (sym is ∙ e)

  none_more : begun ≡ false → names_begun (opts_of (drop i rows)) start ≡ left
  none_more e =
      let r = get_or rows i d in
      ap (λ (l : List OptionRow). names_begun (opts_of l) start) (next_row rows i d within)
      ∙ not_begun_by r.0 r.1 r.2 (drop (i + 1) rows) start (sym is ∙ e)

  -- a second name
  pub begun_again : (only : Option (Bor Word)) → begun ≡ true → is_some only ≡ true
      → so_far only ++ names_begun (opts_of (drop i rows)) start ≡ all → None ≡ only_one all
  begun_again None e some before = cc
  begun_again (Some name) e some before =
      ap only_one (ap (λ (l : List Word). name.now ∷ l) (sym (one_more e)) ∙ before)

  pub begun_next : (only : Option (Bor Word)) → begun ≡ true → is_some only ≡ false
      → so_far only ++ names_begun (opts_of (drop i rows)) start ≡ all
      → so_far (Some (get_or rows i d).1) ++ left ≡ all
  begun_next None e none before = sym (one_more e) ∙ before
  begun_next (Some name) e none before = cc

  pub not_begun_next : (only : Option (Bor Word)) → begun ≡ false
      → so_far only ++ names_begun (opts_of (drop i rows)) start ≡ all → so_far only ++ left ≡ all
  not_begun_next only e before = ap (λ (l : List Word). so_far only ++ l) (sym (none_more e)) ∙ before

pub all_rows_seen : (rows : List OptionRow) (i : ℕ) (start : Word) (only : Option (Bor Word)) → length rows ≤ i
    → so_far only ++ names_begun (opts_of (drop i rows)) start ≡ names_begun (opts_of rows) start
    → option_map (λ name. name.now) only ≡ only_one (names_begun (opts_of rows) start)
all_rows_seen rows i start only past before =
    only_so_far only
    ∙ ap only_one (sym (append-nil (so_far only))
    ∙ (ap (λ (l : List OptionRow). so_far only ++ names_begun (opts_of l) start) (sym (drop_all i rows past))
    ∙ before))

pub name_next : (rows : List OptionRow) (i : ℕ) (d : OptionRow) (name : Word) (called : Bool) → i < length rows
    → called ≡ has_name (get_or rows i d) name → called ≡ false
    → takes_value (by_name (opts_of (drop i rows)) name) ≡ takes_value (by_name (opts_of rows) name)
    → takes_value (by_name (opts_of (drop (i + 1) rows)) name) ≡ takes_value (by_name (opts_of rows) name)
name_next rows i d name called within is no_name before =
    ap takes_value (sym (name_passed (get_or rows i d) (drop (i + 1) rows) name (sym is ∙ no_name)))
    ∙ (ap (λ (l : List OptionRow). takes_value (by_name (opts_of l) name)) (sym (next_row rows i d within)) ∙ before)
