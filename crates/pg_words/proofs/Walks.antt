-- The walk of `clap` over words that hold the values of their options.
use Rattle.std.proofs.Common.{◌≡◌, ◌∙◌, ap, ap₂, refl, sym, true, false, not, ℕ, Bool, List, [], ◌∷◌, ◌++◌, map, Option}
use Rattle.std.proofs.Common.{Some, None, option_map, is_some, option_and_then, ◌≤◌, codes, cond, fold, ◌&&◌, ◌<◌}
use Rattle.std.proofs.Common.{◌⊎◌, inl, inr, arith, nat_lt, drop, length, ltb-true, ltb-false, eqb-true, ◌==◌, All, suc}
use Rattle.std.proofs.Common.{subst}
use Rattle.std.specs.Prelude.{encode_utf8, slice_get, slice_index, encode_utf8_all, unwrap_or}
use Rattle.std.specs.Str.{chars, IsUtf8}
use Rattle.std.proofs.lemmas.Str.{encode_ascii, chars_from_encodes, chars_past_char, IsUtf8-drop}
use Rattle.std.proofs.lemmas.Str.{IsCharBoundary-after_ascii}
use Rattle.std.specs.Option.{option_map_or}
use Rattle.std.specs.Str.{bytes_eq}
use Rattle.clap.specs.Lexer.{long_of, short_of, short_of_rest}
use Rattle.clap.specs.Kinds.{Kinds, or_else}
use Rattle.clap.specs.Walk.{Held, Row, Rule, Text, Walk, Waiting, Outcome, idle, positional, done, plain, after_flag}
use Rattle.clap.specs.Walk.{after_step, bundle_met, plain_word, short_or_plain, positional_held, to_positional, value}
use Rattle.clap.specs.Walk.{long_met, long_or_other, arg_by_id, arg_by_index, arg_by_long, arg_by_short, has_row}
use Rattle.clap.specs.Walk.{settled, used, walked, attached_value, waits as waits_for, option_met, reacted, short_met}
use Rattle.clap.specs.Faults.{bundle_fault, flag_word_fault, flags_fault, long_fault, option_fault, short_fault}
use Rattle.clap.specs.Faults.{positional_fault, react_fault, step_fault, repeat_fault, settle_fault, turn_fault}
use Rattle.clap.specs.Faults.{use_fault, walk_fault}
use Rattle.clap.specs.declared.error.kind.ErrorKind.TheVariants as kind
use Rattle.std.proofs.lemmas.List.Sums.{fold-append}
use Rattle.clap.proofs.WalkLemmas.{both}
use Rattle.clap.proofs.SimpleLemmas.{is_false}
use Rattle.pg_words.proofs.Rules.{frule, oprule, shape_with}
use Rattle.pg_words.proofs.Waiting.{word_waits}
use Rattle.pg_words.specs.Line.{is_mark, Value, Nothing, AnyText, Number, Opt, Use, Given, Operand, Uses, by_letter}
use Rattle.pg_words.specs.Line.{by_name, has_value, fits_value, then_uses, valued}
use Rattle.pg_words.specs.Joined.{takes_value, word, long_word, short_word, long, letters, asked, waits, complete}
use Rattle.pg_words.specs.Joined.{long_waits, letter, letters_wait, long_or_short_waits, short_waits}
use Rattle.std.proofs.Math.Bool.{or-false}

no_repeat : (id : Text) (rows : List Row) → repeat_fault true id rows ≡ []
no_repeat id rows = go (has_row id rows)
  where
    go : (b : Bool) → cond (b && false) (kind.ArgumentConflict ∷ []) [] ≡ []
    go true = refl
    go false = refl

abbrev value_fault : Opt → Text → Kinds
value_fault o v = cond (fits_value o.value v) [] (kind.ValueValidation ∷ [])

-- a use of an option with a value
value_use : (o : Opt) (v : Value) (t : Text) (rows : List Row) → has_value (record o { value = v }) ≡ true
    → use_fault true (frule (record o { value = v })) (t ∷ []) rows ≡ value_fault (record o { value = v }) t
value_use o Nothing t rows e = cc
value_use o AnyText t rows e = refl
value_use o (Number low high) t rows e = rw (no_repeat o.name rows) (go (fits_value (Number low high) t))
  where
    go : (b : Bool) → or_else (cond b [] (kind.ValueValidation ∷ [])) [] ≡ cond b [] (kind.ValueValidation ∷ [])
    go true = refl
    go false = refl

-- a use of a flag
flag_use : (o : Opt) (v : Value) (rows : List Row) → has_value (record o { value = v }) ≡ false
    → use_fault true (frule (record o { value = v })) [] rows ≡ []
flag_use o Nothing rows e = rw (no_repeat o.name rows) refl
flag_use o AnyText rows e = cc
flag_use o (Number low high) rows e = cc

abbrev pub used_once : Use → List Row → List Row
used_once (Given o v) rows = used (frule o) (cond (has_value o) (v ∷ []) []) rows
used_once (Operand v) rows = used oprule (v ∷ []) rows

-- the rows after the uses
abbrev pub applied : List Use → List Row → List Row
applied us rows = fold (λ r u. used_once u r) rows us

abbrev pub rows_at : List Row → Option Text → List Row
rows_at rows None = rows
rows_at rows (Some v) = used oprule (v ∷ []) rows

abbrev pub held_at : List Row → Option Text → Held
held_at rows p = record { rows = rows; pending = option_map (λ v. (codes "operands", v ∷ [])) p; skip = 0 }

abbrev pub waiting_at : Bool → Waiting
waiting_at true = positional
waiting_at false = idle

abbrev pub at : List Row → Option Text → Bool → Bool → Walk
at rows p b t = record { held = held_at rows p; waiting = waiting_at b; position = 1; is_trailing = t; stopped = None }

abbrev pub has_fault : Kinds → Bool
has_fault [] = false
has_fault (k ∷ ks) = true

-- what a word comes to
abbrev pub Comes : Uses → Kinds → Walk → List Row → Type 0
Comes None fault after R = has_fault fault ≡ true
Comes (Some us) fault after R = (fault ≡ []) × (rows : List Row) × (p : Option Text) × (b : Bool)
    × (after ≡ at rows p b false) × (rows_at rows p ≡ applied us R)

-- what the letters of a bundle come to
abbrev pub Bundles : Outcome → Uses → Kinds → Held × Outcome → List Row → Type 0
Bundles e None fault met R = has_fault fault ≡ true
Bundles e (Some us) fault met R = (fault ≡ []) × (rows : List Row) × (p : Option Text) × (met ≡ (held_at rows p, e))
    × (rows_at rows p ≡ applied us R)

-- ---- characters

pub lt_or_le : (x : ℕ) → (x < 128) ⊎ (128 ≤ x)
lt_or_le x = go (nat_lt x 128) refl
  where
    go : (b : Bool) → nat_lt x 128 ≡ b → (x < 128) ⊎ (128 ≤ x)
    go true e = inl (ltb-true _ _ e)
    go false e = inr (ltb-false _ _ e)

first_ascii : (x : ℕ) (rest : Text) → IsUtf8 (x ∷ rest) → x < 128 → slice_get (chars (x ∷ rest)) 0 ≡ Some x
first_ascii x rest utf8 low = ap (λ (l : List ℕ). slice_get l 0)
    (chars_past_char (x ∷ rest) rest x utf8 (ap (λ (l : List ℕ). l ++ rest) (sym (encode_ascii x low))))

rest_ascii : (x : ℕ) (rest : Text) → x < 128 → drop (length (encode_utf8 x)) (x ∷ rest) ≡ rest
rest_ascii x rest low = ap (λ (l : List ℕ). drop (length l) (x ∷ rest)) (encode_ascii x low)

utf8_rest : (x : ℕ) (rest : Text) → IsUtf8 (x ∷ rest) → x < 128 → IsUtf8 rest
utf8_rest x rest utf8 low = IsUtf8-drop (x ∷ rest) 1 utf8
    (IsCharBoundary-after_ascii (x ∷ rest) 0 utf8 (omega arith) low)

first_high : (x : ℕ) (rest : Text) → IsUtf8 (x ∷ rest) → 128 ≤ x → (y : ℕ) × (128 ≤ y)
    × (slice_get (chars (x ∷ rest)) 0 ≡ Some y)
first_high x rest utf8 high = go utf8.0 (chars_from_encodes utf8.0 (x ∷ rest) utf8 utf8.1.1) utf8.1.1
  where
    go : (cs : List ℕ) → cs ≡ chars (x ∷ rest) → encode_utf8_all cs ≡ x ∷ rest → (y : ℕ) × (128 ≤ y)
        × (slice_get (chars (x ∷ rest)) 0 ≡ Some y)
    go [] e spell = cc
    go (y ∷ cs) e spell = (y, high_first (lt_or_le y), ap (λ (l : List ℕ). slice_get l 0) (sym e))
      where
        high_first : (y < 128) ⊎ (128 ≤ y) → 128 ≤ y
        high_first (inr h) = h
        high_first (inl low) =
            let same : y ≡ x = ap (λ (l : List ℕ). slice_index l 0)
            (ap (λ (l : List ℕ). l ++ encode_utf8_all cs) (sym (encode_ascii y low)) ∙ spell) in
            omega (arith, same)

-- a fault in the words, or behind the last of them
abbrev pub Fails : List Rule → Kinds → Walk → Type 0
Fails c fault after = has_fault (or_else fault (settle_fault c true after.held)) ≡ true

-- the option of this name is its rule's
abbrev pub HasId : List Rule → Option Opt → Type 0
HasId c None = Unit {0}
HasId c (Some o) = arg_by_id c o.name ≡ Some (frule o)

abbrev letter_waits : Option Opt → Text → Bool → Bool
letter_waits f rest next = cond (takes_value f) (not (is_some (attached_value rest))) next

-- what words come to
abbrev pub Ends : List Rule → Uses → Kinds → Walk → List Row → Type 0
Ends c None fault after R = Fails c fault after
Ends c (Some us) fault after R = (fault ≡ []) × (rows : List Row) × (p : Option Text) × (b t : Bool)
    × (after ≡ at rows p b t) × (rows_at rows p ≡ applied us R)

-- a first fault stays
pub faults_first : (a b : Kinds) → has_fault a ≡ true → has_fault (or_else a b) ≡ true
faults_first [] b e = cc
faults_first (k ∷ ks) b e = refl

-- `-abc` has letters
pub short_has : (w flags : Text) → short_of w ≡ Some flags → (y : ℕ) × (ys : Text) × (flags ≡ y ∷ ys)
    × (w ≡ 45 ∷ y ∷ ys)
short_has [] flags e = cc
short_has (d ∷ w) flags e = go w (d == 45) refl e
  where
    go : (w : Text) (b : Bool) → (d == 45) ≡ b → option_and_then short_of_rest (cond b (Some w) None) ≡ Some flags
        → (y : ℕ) × (ys : Text) × (flags ≡ y ∷ ys) × (d ∷ w ≡ 45 ∷ y ∷ ys)
    go w false is e = cc
    go [] true is e = cc
    go (x ∷ rest) true is e = inner (x == 45) e
      where
        inner : (b : Bool) → cond b None (Some (x ∷ rest)) ≡ Some flags → (y : ℕ) × (ys : Text) × (flags ≡ y ∷ ys)
            × (d ∷ x ∷ rest ≡ 45 ∷ y ∷ ys)
        inner true e = cc
        inner false e = (
          x,
          rest,
          ap (λ (o : Option Text). unwrap_or o flags) (sym e),
          ap (λ (n : ℕ). n ∷ x ∷ rest)
              (eqb-true d 45 is),
        )

module _ (os : List Opt) (c : List Rule) (id_is : arg_by_id c (codes "operands") ≡ Some oprule)
    (index_is : arg_by_index c 1 ≡ Some oprule)
    (long_is : (name : Text) → arg_by_long c name ≡ option_map frule (by_name os name))
    (short_is : (x : ℕ) → arg_by_short c x ≡ option_map frule (by_letter os x))
    (letters_are_ascii : (x : ℕ) → 128 ≤ x → by_letter os x ≡ None)
    (letter_id : (x : ℕ) → HasId c (by_letter os x)) (name_id : (name : Text) → HasId c (by_name os name)) where
  pub settled_at : (rows : List Row) (p : Option Text) → settled c (held_at rows p) ≡ held_at (rows_at rows p) None
  settled_at rows None = refl
  settled_at rows (Some v) = rw id_is refl

  pub calm_at : (rows : List Row) (p : Option Text) → settle_fault c true (held_at rows p) ≡ []
  calm_at rows None = refl
  calm_at rows (Some v) = rw id_is refl

  -- a use that a word makes at once
  react_at : (a : Rule) (vs : List Text) (rows : List Row) (p : Option Text) (k : Kinds)
      → use_fault true a vs (rows_at rows p) ≡ k
      → react_fault c true a vs (held_at rows p) ≡ k
  react_at a vs rows p k e = ap₂ or_else (calm_at rows p)
      (ap (λ (h : Held). use_fault true a vs h.rows) (settled_at rows p)) ∙ e

  abbrev long_faults : Option Rule → Option Text → List Row → Option Text → Bool → Text → Kinds
  long_faults found v rows p b w = or_else (long_fault c true found v (held_at rows p))
      (step_fault (shape_with c) 1 (after_flag c (waiting_at b) w (long_met c found v (held_at rows p)).0
      (long_met c found v (held_at rows p)).1).0
      (after_flag c (waiting_at b) w (long_met c found v (held_at rows p)).0 (long_met c found v (held_at rows p)).1).1)

  abbrev long_walks : Option Rule → Option Text → List Row → Option Text → Bool → Text → Walk
  long_walks found v rows p b w = after_step c w (at rows p b false)
      (after_flag c (waiting_at b) w (long_met c found v (held_at rows p)).0 (long_met c found v (held_at rows p)).1).0
      (after_flag c (waiting_at b) w (long_met c found v (held_at rows p)).0 (long_met c found v (held_at rows p)).1).1

  valued_comes : (o : Opt) (t : Text) (R : List Row) (fault : Kinds) (after : Walk) → has_value o ≡ true → fault
      ≡ value_fault o t
      → after ≡ at (used (frule o) (t ∷ []) R) None false false → Comes (valued o t) fault after R
  valued_comes o t R fault after has e is = go (fits_value o.value t) e
    where
      go : (b : Bool) → fault ≡ cond b [] (kind.ValueValidation ∷ [])
          → Comes (cond b (Some (Given o t ∷ [])) None) fault after R
      go true e = (e, used (frule o) (t ∷ []) R, None, false, is, rw has refl)
      go false e = rw e refl

  -- ---- operands

  positional_free : (rows : List Row) (p : Option Text) → positional_fault c true oprule (held_at rows p) ≡ []
  positional_free rows None = refl
  positional_free rows (Some v) = rw id_is refl

  positional_at : (rows : List Row) (p : Option Text) (w : Text) → positional_held c oprule w (held_at rows p)
      ≡ held_at (rows_at rows p) (Some w)
  positional_at rows None w = refl
  positional_at rows (Some v) w = rw id_is refl

  operand_fault : (rows : List Row) (p : Option Text) → step_fault (shape_with c) 1 (held_at rows p) value ≡ []
  operand_fault rows p = rw index_is (positional_free rows p)

  operand_walk : (rows : List Row) (p : Option Text) (b t : Bool) (w : Text)
      → after_step c w (at rows p b t) (held_at rows p) value ≡ at (rows_at rows p) (Some w) true t
  operand_walk rows p b t w = ap (λ (o : Option Rule). to_positional c o w (at rows p b t) (held_at rows p)) index_is
      ∙ (ap₂ (λ (h : Held) (trailing : Bool). record {
        held = h;
        waiting = positional;
        position = 1;
        is_trailing =
            trailing;
        stopped = None;
      })
      (positional_at rows p w) (or-false t))

  mark_turn : (rows : List Row) (p : Option Text) (b : Bool) (w : Text) → bytes_eq w (45 ∷ 45 ∷ []) ≡ true
      → turn_fault (shape_with c) [] (at rows p b false) w ≡ []
  mark_turn rows p true w mark = rw mark refl
  mark_turn rows p false w mark = rw mark refl

  mark_walk : (rows : List Row) (p : Option Text) (b : Bool) (w : Text) → bytes_eq w (45 ∷ 45 ∷ []) ≡ true
      → walked c [] (at rows p b false) w ≡ at rows p b true
  unfolding walked
  mark_walk rows p true w mark = rw mark refl
  mark_walk rows p false w mark = rw mark refl

  -- behind `--`
  trails : (ws : List Text) (rows : List Row) (p : Option Text) (b : Bool)
      → Ends c (Some (map Operand ws)) (walk_fault (shape_with c) [] (at rows p b true) ws)
      (fold (walked c []) (at rows p b true) ws) (rows_at rows p)
  unfolding walk_fault walked
  trails [] rows p b = (refl, rows, p, b, true, refl, refl)
  trails (w ∷ ws) rows p b =
      let later = trails ws (rows_at rows p) (Some w) true in
      let now : walked c [] (at rows p b true) w ≡ at (rows_at rows p) (Some w) true true =
      operand_walk rows p b true w in
      rw (now, operand_fault rows p) later

  value_long : (o : Opt) (v : Value) (t : Option Text) (rows : List Row) (p : Option Text) (b : Bool) (w : Text)
      → long_waits (Some (record o { value = v })) t ≡ false
      → Comes (long (Some (record o { value = v })) t)
      (long_faults (Some (frule (record o { value = v }))) t rows p b w)
      (long_walks (Some (frule (record o { value = v }))) t rows p b w) (rows_at rows p)
  value_long o Nothing None rows p b w e = (
    ap (λ k. or_else k []) (react_at (frule (record o { value = Nothing })) [] rows p []
        (flag_use o Nothing (rows_at rows p) refl)),
    used (frule (record o { value = Nothing })) [] (rows_at rows p),
    None,
    false,
    ap (λ (h : Held). at (used (frule (record o { value = Nothing })) [] h.rows) None false false) (settled_at rows p),
    refl,
  )
  value_long o Nothing (Some t) rows p b w e = refl
  value_long o AnyText None rows p b w e = cc
  value_long o AnyText (Some t) rows p b w e = valued_comes (record o { value = AnyText }) t (rows_at rows p) _ _ refl
      (ap (λ k. or_else k []) (react_at (frule (record o { value = AnyText })) (t ∷ []) rows p _
      (value_use o AnyText t (rows_at rows p) refl)))
      (ap (λ (h : Held). at (used (frule (record o { value = AnyText })) (t ∷ []) h.rows) None false false)
      (settled_at rows p))
  value_long o (Number low high) None rows p b w e = cc
  value_long o (Number low high) (Some t) rows p b w e =
      valued_comes (record o { value = Number low high }) t (rows_at rows p) _ _ refl
      (ap (λ k. or_else k []) (react_at (frule (record o { value = Number low high })) (t ∷ []) rows p _
      (value_use o (Number low high) t (rows_at rows p) refl))
      ∙ go (fits_value (Number low high) t))
      (ap (λ (h : Held). at (used (frule (record o { value = Number low high })) (t ∷ []) h.rows) None false false)
      (settled_at rows p))
    where
      go : (b : Bool) → or_else (cond b [] (kind.ValueValidation ∷ [])) [] ≡ cond b [] (kind.ValueValidation ∷ [])
      go true = refl
      go false = refl

  found_long : (found : Option Opt) (t : Option Text) (rows : List Row) (p : Option Text) (b : Bool) (w : Text)
      → long_waits found t ≡ false
      → Comes (long found t) (long_faults (option_map frule found) t rows p b w)
      (long_walks (option_map frule found) t rows p b w) (rows_at rows p)
  found_long None t rows p b w e = refl
  found_long (Some o) t rows p b w e = value_long o o.value t rows p b w e

  pub long_comes : (name : Text) (t : Option Text) (rows : List Row) (p : Option Text) (b : Bool) (w : Text)
      → long_waits (by_name os name) t ≡ false
      → Comes (long (by_name os name) t) (long_faults (arg_by_long c name) t rows p b w)
      (long_walks (arg_by_long c name) t rows p b w) (rows_at rows p)
  long_comes name t rows p b w e = rw (long_is name) (found_long (by_name os name) t rows p b w e)

  -- ---- bundles

  valued_bundles : (o : Opt) (t : Text) (R : List Row) (fault : Kinds) (met : Held × Outcome) → has_value o ≡ true
      → fault ≡ value_fault o t
      → met ≡ (held_at (used (frule o) (t ∷ []) R) None, done) → Bundles done (valued o t) fault met R
  valued_bundles o t R fault met has e is = go (fits_value o.value t) e
    where
      go : (b : Bool) → fault ≡ cond b [] (kind.ValueValidation ∷ [])
          → Bundles done (cond b (Some (Given o t ∷ [])) None) fault met R
      go true e = (e, used (frule o) (t ∷ []) R, None, is, rw has refl)
      go false e = rw e refl

  Rests : Text → Type 0
  unfolding bundle_met flags_fault
  Rests rest = (rows : List Row) (p : Option Text)
      → Bundles done (letters os rest) (flags_fault c true (length rest) rest 0 (held_at rows p))
      (bundle_met c (length rest) rest 0 done (held_at rows p)) (rows_at rows p)

  attached_bundles : (o : Opt) (q : Option Text) (rows : List Row) (p : Option Text) → has_value o ≡ true
      → not (is_some q) ≡ false
      → ((t : Text) → use_fault true (frule o) (t ∷ []) (rows_at rows p) ≡ value_fault o t)
      → Bundles done (option_and_then (valued o) q) (option_fault c true (frule o) q (held_at rows p))
      (option_met c (frule o) q (held_at rows p)) (rows_at rows p)
  attached_bundles o None rows p has e uses = cc
  attached_bundles o (Some t) rows p has e uses = valued_bundles o t (rows_at rows p) _ _ has
      (react_at (frule o) (t ∷ []) rows p _ (uses t))
      (ap (λ (h : Held). (held_at (used (frule o) (t ∷ []) h.rows) None, done)) (settled_at rows p))

  -- a flag, and then the rest
  flag_bundles : (o : Opt) (U : Uses) (rows : List Row) (p : Option Text) (fault : Held → Kinds)
      (met : Held → Held × Outcome) → has_value o ≡ false
      → use_fault true (frule o) [] (rows_at rows p) ≡ []
      → Bundles done U (fault (held_at (used (frule o) [] (rows_at rows p)) None))
      (met (held_at (used (frule o) [] (rows_at rows p)) None)) (used (frule o) [] (rows_at rows p))
      → Bundles done (then_uses (Some (Given o [] ∷ [])) U)
      (or_else (react_fault c true (frule o) [] (held_at rows p)) (fault (reacted c (frule o) [] (held_at rows p))))
      (met (reacted c (frule o) [] (held_at rows p))) (rows_at rows p)
  flag_bundles o U rows p fault met has used_ok later =
      let same : reacted c (frule o) [] (held_at rows p) ≡ held_at (used (frule o) [] (rows_at rows p)) None =
      ap (λ (h : Held). held_at (used (frule o) [] h.rows) None) (settled_at rows p) in
      rw (react_at (frule o) [] rows p [] used_ok, same) (go U later)
    where
      go : (U : Uses) → Bundles done U (fault (held_at (used (frule o) [] (rows_at rows p)) None))
          (met (held_at (used (frule o) [] (rows_at rows p)) None)) (used (frule o) [] (rows_at rows p))
          → Bundles done (then_uses (Some (Given o [] ∷ [])) U)
          (fault (held_at (used (frule o) [] (rows_at rows p)) None))
          (met (held_at (used (frule o) [] (rows_at rows p)) None)) (rows_at rows p)
      go None later = later
      go (Some us) later = (
        later.0,
        later.1,
        later.2,
        later.3,
        later.4
            ∙ ap (λ (v : Bool). applied us (used (frule o) (cond v ([] ∷ []) []) (rows_at rows p))) (sym has),
      )

  value_short : (o : Opt) (v : Value) (rest : Text) (rows : List Row) (p : Option Text)
      → (letters_wait os rest ≡ false → Rests rest)
      → letter_waits (Some (record o { value = v })) rest (letters_wait os rest) ≡ false
      → Bundles done (letter (Some (record o { value = v })) rest (letters os rest))
      (short_fault c true (Some (frule (record o { value = v }))) rest (held_at rows p)
      (flags_fault c true (length rest) rest 0))
      (short_met c (Some (frule (record o { value = v }))) rest (held_at rows p)
      (bundle_met c (length rest) rest 0 done)) (rows_at rows p)
  unfolding Rests
  value_short o Nothing rest rows p later e =
      flag_bundles (record o { value = Nothing }) (letters os rest) rows p (flags_fault c true (length rest) rest 0)
      (bundle_met c (length rest) rest 0 done) refl
      (flag_use o Nothing (rows_at rows p) refl) (later e
      (used (frule (record o { value = Nothing })) [] (rows_at rows p)) None)
  value_short o AnyText rest rows p later e = attached_bundles (record o { value = AnyText })
      (attached_value rest) rows p refl e (λ t. value_use o AnyText t (rows_at rows p) refl)
  value_short o (Number low high) rest rows p later e =
      attached_bundles (record o { value = Number low high }) (attached_value rest) rows p refl e
      (λ t. value_use o (Number low high) t (rows_at rows p) refl)

  found_short : (found : Option Opt) (rest : Text) (rows : List Row) (p : Option Text)
      → (letters_wait os rest ≡ false → Rests rest) → letter_waits found rest (letters_wait os rest) ≡ false
      → Bundles done (letter found rest (letters os rest))
      (short_fault c true (option_map frule found) rest (held_at rows p) (flags_fault c true (length rest) rest 0))
      (short_met c (option_map frule found) rest (held_at rows p) (bundle_met c (length rest) rest 0 done))
      (rows_at rows p)
  found_short None rest rows p later e = refl
  found_short (Some o) rest rows p later e = value_short o o.value rest rows p later e

  letters_come : (x : ℕ) (rest : Text) (so_far : Outcome) (rows : List Row) (p : Option Text) → IsUtf8 (x ∷ rest)
      → (x < 128 → letters_wait os rest ≡ false → Rests rest) → letters_wait os (x ∷ rest) ≡ false
      → Bundles done (letters os (x ∷ rest)) (flags_fault c true (length (x ∷ rest)) (x ∷ rest) 0 (held_at rows p))
      (bundle_met c (length (x ∷ rest)) (x ∷ rest) 0 so_far (held_at rows p)) (rows_at rows p)
  unfolding flags_fault bundle_met
  letters_come x rest so_far rows p utf8 later e = go (lt_or_le x)
    where
      go : (x < 128) ⊎ (128 ≤ x) → Bundles done (letters os (x ∷ rest))
          (flags_fault c true (length (x ∷ rest)) (x ∷ rest) 0 (held_at rows p))
          (bundle_met c (length (x ∷ rest)) (x ∷ rest) 0 so_far (held_at rows p)) (rows_at rows p)
      go (inl low) = rw (first_ascii x rest utf8 low, rest_ascii x rest low, short_is x)
          (found_short (by_letter os x) rest rows p (later low) e)
      go (inr high) =
          let first = first_high x rest utf8 high in
          rw (letters_are_ascii x high, first.2, short_is first.0, letters_are_ascii first.0 first.1) refl

  rests : (rest : Text) → IsUtf8 rest → letters_wait os rest ≡ false → Rests rest
  unfolding Rests flags_fault bundle_met
  rests [] utf8 e = λ rows p. (refl, rows, p, refl, refl)
  rests (x ∷ rest) utf8 e = λ rows p. letters_come x rest done rows p utf8
      (λ low. rests rest (utf8_rest x rest utf8 low)) e

  pub bundles : (x : ℕ) (rest : Text) (rows : List Row) (p : Option Text) → IsUtf8 (x ∷ rest)
      → letters_wait os (x ∷ rest) ≡ false
      → Bundles done (letters os (x ∷ rest)) (flags_fault c true (length (x ∷ rest)) (x ∷ rest) 0 (held_at rows p))
      (bundle_met c (length (x ∷ rest)) (x ∷ rest) 0 plain (held_at rows p)) (rows_at rows p)
  bundles x rest rows p utf8 e = letters_come x rest plain rows p utf8 (λ low. rests rest (utf8_rest x rest utf8 low)) e

  -- ---- a word

  abbrev word_faults : Option (Text × Option Text) → List Row → Option Text → Bool → Text → Kinds
  word_faults q rows p b w = or_else (flag_word_fault c true q w (held_at rows p))
      (step_fault (shape_with c) 1 (long_or_other c (waiting_at b) w q (held_at rows p)).0
      (long_or_other c (waiting_at b) w q (held_at rows p)).1)

  abbrev word_walks : Option (Text × Option Text) → List Row → Option Text → Bool → Text → Walk
  word_walks q rows p b w = after_step c w (at rows p b false) (long_or_other c (waiting_at b) w q (held_at rows p)).0
      (long_or_other c (waiting_at b) w q (held_at rows p)).1

  operand_comes : (rows : List Row) (p : Option Text) (b : Bool) (w : Text)
      → Comes (Some (Operand w ∷ [])) (step_fault (shape_with c) 1 (plain_word c (waiting_at b) w (held_at rows p)).0
      (plain_word c (waiting_at b) w (held_at rows p)).1)
      (after_step c w (at rows p b false) (plain_word c (waiting_at b) w (held_at rows p)).0
      (plain_word c (waiting_at b) w (held_at rows p)).1) (rows_at rows p)
  operand_comes rows p true w = (
    operand_fault rows p,
    rows_at rows p,
    Some w,
    true,
    operand_walk rows p true false w,
    refl,
  )
  operand_comes rows p false w = (
    operand_fault rows p,
    rows_at rows p,
    Some w,
    true,
    operand_walk rows p false false w,
    refl,
  )

  bundle_comes : (U : Uses) (fault : Kinds) (met : Held × Outcome) (rows : List Row) (p : Option Text) (b : Bool)
      (w : Text) → Bundles done U fault met (rows_at rows p)
      → Comes U (or_else fault (step_fault (shape_with c) 1 (after_flag c (waiting_at b) w met.0 met.1).0
      (after_flag c (waiting_at b) w met.0 met.1).1))
      (after_step c w (at rows p b false) (after_flag c (waiting_at b) w met.0 met.1).0
      (after_flag c (waiting_at b) w met.0 met.1).1) (rows_at rows p)
  bundle_comes None fault met rows p b w h = faults_first fault _ h
  bundle_comes (Some us) fault met rows p b w h = rw (h.0, h.3) (refl, h.1, h.2, false, refl, h.4)

  short_comes : (q : Option Text) (rows : List Row) (p : Option Text) (b : Bool) (w : Text) → short_of w ≡ q → IsUtf8 w
      → short_waits os q ≡ false
      → Comes (short_word os q w) (or_else (option_map_or (λ flags. bundle_fault c true flags (held_at rows p)) q [])
      (step_fault (shape_with c) 1 (short_or_plain c (waiting_at b) w q (held_at rows p)).0
      (short_or_plain c (waiting_at b) w q (held_at rows p)).1))
      (after_step c w (at rows p b false) (short_or_plain c (waiting_at b) w q (held_at rows p)).0
      (short_or_plain c (waiting_at b) w q (held_at rows p)).1) (rows_at rows p)
  short_comes None rows p b w is utf8 e = operand_comes rows p b w
  short_comes (Some flags) rows p b w is utf8 e = go (short_has w flags is)
    where
      go : (x : ℕ) × (rest : Text) × (flags ≡ x ∷ rest) × (w ≡ 45 ∷ x ∷ rest)
          → Comes (letters os flags) (or_else (bundle_fault c true flags (held_at rows p))
          (step_fault (shape_with c) 1 (short_or_plain c (waiting_at b) w (Some flags) (held_at rows p)).0
          (short_or_plain c (waiting_at b) w (Some flags) (held_at rows p)).1))
          (after_step c w (at rows p b false) (short_or_plain c (waiting_at b) w (Some flags) (held_at rows p)).0
          (short_or_plain c (waiting_at b) w (Some flags) (held_at rows p)).1) (rows_at rows p)
      go parts = bundle_comes (letters os flags) _ _ rows p b w (subst (λ (fs : Text). Bundles done (letters os fs)
          (flags_fault c true (length fs) fs 0 (held_at rows p)) (bundle_met c (length fs) fs 0 plain (held_at rows p))
          (rows_at rows p)) (sym parts.2)
          (bundles parts.0 parts.1 rows p
          (utf8_rest 45 (parts.0 ∷ parts.1) (subst IsUtf8 parts.3 utf8) (omega arith))
          (subst (λ (fs : Text). letters_wait os fs ≡ false) parts.2 e)))

  long_or_short_comes : (q : Option (Text × Option Text)) (rows : List Row) (p : Option Text) (b : Bool) (w : Text)
      → IsUtf8 w → long_or_short_waits os q w ≡ false
      → Comes (long_word os q w) (word_faults q rows p b w) (word_walks q rows p b w) (rows_at rows p)
  long_or_short_comes (Some n) rows p b w utf8 e = long_comes n.0 n.1 rows p b w e
  long_or_short_comes None rows p b w utf8 e = short_comes (short_of w) rows p b w refl utf8 e

  word_comes : (rows : List Row) (p : Option Text) (b : Bool) (w : Text) → IsUtf8 w → bytes_eq w (45 ∷ 45 ∷ []) ≡ false
      → waits os w ≡ false
      → Comes (word os w) (turn_fault (shape_with c) [] (at rows p b false) w) (walked c [] (at rows p b false) w)
      (rows_at rows p)
  unfolding walked
  word_comes rows p true w utf8 mark e = rw mark (long_or_short_comes (long_of w) rows p true w utf8 e)
  word_comes rows p false w utf8 mark e = rw mark (long_or_short_comes (long_of w) rows p false w utf8 e)

  -- ---- a last word that waits for its value

  vain_use : (o : Opt) (v : Value) (rows : List Row) → has_value (record o { value = v }) ≡ true
      → has_fault (use_fault true (frule (record o { value = v })) [] rows) ≡ true
  vain_use o Nothing rows e = cc
  vain_use o AnyText rows e = refl
  vain_use o (Number low high) rows e = refl

  value_in_vain : (o : Opt) (v : Value) (rows : List Row) (p : Option Text) (b : Bool) (w : Text)
      → HasId c (Some (record o { value = v })) → has_value (record o { value = v }) ≡ true
      → Fails c (long_faults (Some (frule (record o { value = v }))) None rows p b w)
      (long_walks (Some (frule (record o { value = v }))) None rows p b w)
  value_in_vain o Nothing rows p b w id e = cc
  value_in_vain o AnyText rows p b w id e = rw (calm_at rows p, id) refl
  value_in_vain o (Number low high) rows p b w id e = rw (calm_at rows p, id) refl

  long_in_vain : (found : Option Opt) (t : Option Text) (rows : List Row) (p : Option Text) (b : Bool) (w : Text)
      → HasId c found → long_waits found t ≡ true
      → Fails c (long_faults (option_map frule found) t rows p b w) (long_walks (option_map frule found) t rows p b w)
  long_in_vain None None rows p b w id e = cc
  long_in_vain None (Some t) rows p b w id e = cc
  long_in_vain (Some o) (Some t) rows p b w id e = cc
  long_in_vain (Some o) None rows p b w id e = value_in_vain o o.value rows p b w id e

  -- the letters of a bundle that ends with such an option
  abbrev Vain : Kinds → Held × Outcome → Type 0
  Vain fault met = (has_fault fault ≡ true) ⊎ ((fault ≡ []) × (o : Opt) × (rows : List Row)
      × (met ≡ (record { rows = rows; pending = Some (o.name, []); skip = 0 }, waits_for o.name))
      × (has_value o ≡ true) × HasId c (Some o))

  VainRests : Text → Type 0
  unfolding bundle_met flags_fault
  VainRests rest = (rows : List Row) (p : Option Text)
      → Vain (flags_fault c true (length rest) rest 0 (held_at rows p))
      (bundle_met c (length rest) rest 0 done (held_at rows p))

  attached_in_vain : (o : Opt) (q : Option Text) (rows : List Row) (p : Option Text) → has_value o ≡ true
      → HasId c (Some o) → not (is_some q) ≡ true
      → Vain (option_fault c true (frule o) q (held_at rows p)) (option_met c (frule o) q (held_at rows p))
  attached_in_vain o (Some t) rows p has id e = cc
  attached_in_vain o None rows p has id e = inr (
    calm_at rows p,
    o,
    rows_at rows p,
    ap (λ (h : Held). (record h { pending = Some (o.name, []) }, waits_for o.name)) (settled_at rows p),
    has,
    id,
  )

  flag_in_vain : (o : Opt) (rows : List Row) (p : Option Text) (fault : Held → Kinds) (met : Held → Held × Outcome)
      → use_fault true (frule o) [] (rows_at rows p) ≡ []
      → Vain (fault (held_at (used (frule o) [] (rows_at rows p)) None))
      (met (held_at (used (frule o) [] (rows_at rows p)) None))
      → Vain (or_else (react_fault c true (frule o) [] (held_at rows p))
      (fault (reacted c (frule o) [] (held_at rows p))))
      (met (reacted c (frule o) [] (held_at rows p)))
  flag_in_vain o rows p fault met used_ok later =
      let same : reacted c (frule o) [] (held_at rows p) ≡ held_at (used (frule o) [] (rows_at rows p)) None =
      ap (λ (h : Held). held_at (used (frule o) [] h.rows) None) (settled_at rows p) in
      rw (react_at (frule o) [] rows p [] used_ok, same) later

  short_in_vain : (o : Opt) (v : Value) (rest : Text) (rows : List Row) (p : Option Text)
      → (letters_wait os rest ≡ true → VainRests rest) → HasId c (Some (record o { value = v }))
      → letter_waits (Some (record o { value = v })) rest (letters_wait os rest) ≡ true
      → Vain (short_fault c true (Some (frule (record o { value = v }))) rest (held_at rows p)
      (flags_fault c true (length rest) rest 0))
      (short_met c (Some (frule (record o { value = v }))) rest (held_at rows p)
      (bundle_met c (length rest) rest 0 done))
  unfolding VainRests
  short_in_vain o Nothing rest rows p later id e =
      flag_in_vain (record o { value = Nothing }) rows p (flags_fault c true (length rest) rest 0)
      (bundle_met c (length rest) rest 0 done)
      (flag_use o Nothing (rows_at rows p) refl) (later e
      (used (frule (record o { value = Nothing })) [] (rows_at rows p)) None)
  short_in_vain o AnyText rest rows p later id e =
      attached_in_vain (record o { value = AnyText }) (attached_value rest) rows p refl id e
  short_in_vain o (Number low high) rest rows p later id e =
      attached_in_vain (record o { value = Number low high }) (attached_value rest) rows p refl id e

  letter_in_vain : (found : Option Opt) (rest : Text) (rows : List Row) (p : Option Text)
      → (letters_wait os rest ≡ true → VainRests rest) → HasId c found → letter_waits found rest (letters_wait os rest)
      ≡ true
      → Vain (short_fault c true (option_map frule found) rest (held_at rows p)
      (flags_fault c true (length rest) rest 0))
      (short_met c (option_map frule found) rest (held_at rows p) (bundle_met c (length rest) rest 0 done))
  letter_in_vain None rest rows p later id e = inl refl
  letter_in_vain (Some o) rest rows p later id e = short_in_vain o o.value rest rows p later id e

  letters_in_vain : (x : ℕ) (rest : Text) (so_far : Outcome) (rows : List Row) (p : Option Text) → IsUtf8 (x ∷ rest)
      → (x < 128 → letters_wait os rest ≡ true → VainRests rest) → letters_wait os (x ∷ rest) ≡ true
      → Vain (flags_fault c true (length (x ∷ rest)) (x ∷ rest) 0 (held_at rows p))
      (bundle_met c (length (x ∷ rest)) (x ∷ rest) 0 so_far (held_at rows p))
  unfolding flags_fault bundle_met
  letters_in_vain x rest so_far rows p utf8 later e = go (lt_or_le x)
    where
      go : (x < 128) ⊎ (128 ≤ x) → Vain (flags_fault c true (length (x ∷ rest)) (x ∷ rest) 0 (held_at rows p))
          (bundle_met c (length (x ∷ rest)) (x ∷ rest) 0 so_far (held_at rows p))
      go (inl low) = rw (first_ascii x rest utf8 low, rest_ascii x rest low, short_is x)
          (letter_in_vain (by_letter os x) rest rows p (later low) (letter_id x) e)
      go (inr high) =
          let first = first_high x rest utf8 high in
          rw (first.2, short_is first.0, letters_are_ascii first.0 first.1) (inl refl)

  rests_in_vain : (rest : Text) → IsUtf8 rest → letters_wait os rest ≡ true → VainRests rest
  unfolding VainRests flags_fault bundle_met
  rests_in_vain [] utf8 e = cc
  rests_in_vain (x ∷ rest) utf8 e = λ rows p. letters_in_vain x rest done rows p utf8
      (λ low. rests_in_vain rest (utf8_rest x rest utf8 low)) e

  bundle_in_vain : (fault : Kinds) (met : Held × Outcome) (rows : List Row) (p : Option Text) (b : Bool) (w : Text)
      → Vain fault met
      → Fails c (or_else fault (step_fault (shape_with c) 1 (after_flag c (waiting_at b) w met.0 met.1).0
      (after_flag c (waiting_at b) w met.0 met.1).1))
      (after_step c w (at rows p b false) (after_flag c (waiting_at b) w met.0 met.1).0
      (after_flag c (waiting_at b) w met.0 met.1).1)
  bundle_in_vain fault met rows p b w (inl h) = faults_first _ _ (faults_first fault _ h)
  bundle_in_vain fault met rows p b w (inr h) = rw (h.0, h.3, h.5) (vain_use h.1 h.1.value h.2 h.4)

  short_word_in_vain : (q : Option Text) (rows : List Row) (p : Option Text) (b : Bool) (w : Text) → short_of w ≡ q
      → IsUtf8 w → short_waits os q ≡ true
      → Fails c (or_else (option_map_or (λ flags. bundle_fault c true flags (held_at rows p)) q [])
      (step_fault (shape_with c) 1 (short_or_plain c (waiting_at b) w q (held_at rows p)).0
      (short_or_plain c (waiting_at b) w q (held_at rows p)).1))
      (after_step c w (at rows p b false) (short_or_plain c (waiting_at b) w q (held_at rows p)).0
      (short_or_plain c (waiting_at b) w q (held_at rows p)).1)
  short_word_in_vain None rows p b w is utf8 e = cc
  short_word_in_vain (Some flags) rows p b w is utf8 e = go (short_has w flags is)
    where
      go : (x : ℕ) × (rest : Text) × (flags ≡ x ∷ rest) × (w ≡ 45 ∷ x ∷ rest)
          → Fails c (or_else (bundle_fault c true flags (held_at rows p))
          (step_fault (shape_with c) 1 (short_or_plain c (waiting_at b) w (Some flags) (held_at rows p)).0
          (short_or_plain c (waiting_at b) w (Some flags) (held_at rows p)).1))
          (after_step c w (at rows p b false) (short_or_plain c (waiting_at b) w (Some flags) (held_at rows p)).0
          (short_or_plain c (waiting_at b) w (Some flags) (held_at rows p)).1)
      go parts = bundle_in_vain _ _ rows p b w (subst (λ (fs : Text). Vain
          (flags_fault c true (length fs) fs 0 (held_at rows p))
          (bundle_met c (length fs) fs 0 plain (held_at rows p))) (sym parts.2)
          (letters_in_vain parts.0 parts.1 plain rows p utf8_flags
          (λ low. rests_in_vain parts.1 (utf8_rest parts.0 parts.1 utf8_flags low))
          (subst (λ (fs : Text). letters_wait os fs ≡ true) parts.2 e)))
        where
          utf8_flags : IsUtf8 (parts.0 ∷ parts.1)
          utf8_flags = utf8_rest 45 (parts.0 ∷ parts.1) (subst IsUtf8 parts.3 utf8) (omega arith)

  flag_word_in_vain : (q : Option (Text × Option Text)) (rows : List Row) (p : Option Text) (b : Bool) (w : Text)
      → IsUtf8 w
      → long_or_short_waits os q w ≡ true → Fails c (word_faults q rows p b w) (word_walks q rows p b w)
  flag_word_in_vain (Some n) rows p b w utf8 e = rw (long_is n.0)
      (long_in_vain (by_name os n.0) n.1 rows p b w (name_id n.0) e)
  flag_word_in_vain None rows p b w utf8 e = short_word_in_vain (short_of w) rows p b w refl utf8 e

  word_in_vain : (rows : List Row) (p : Option Text) (b : Bool) (w : Text) → IsUtf8 w → is_mark w ≡ false → waits os w
      ≡ true
      → Fails c (turn_fault (shape_with c) [] (at rows p b false) w) (walked c [] (at rows p b false) w)
  unfolding walked
  word_in_vain rows p true w utf8 mark e = rw mark (flag_word_in_vain (long_of w) rows p true w utf8 e)
  word_in_vain rows p false w utf8 mark e = rw mark (flag_word_in_vain (long_of w) rows p false w utf8 e)

  -- ---- all words

  then_nothing : (k : Kinds) → or_else k [] ≡ k
  then_nothing [] = refl
  then_nothing (k ∷ ks) = refl

  faults_later : (us : List Use) (U : Uses) (fault later : Kinds) (after : Walk) (R : List Row) → fault ≡ []
      → Ends c U later after (applied us R)
      → Ends c (then_uses (Some us) U) (or_else fault later) after R
  faults_later us None fault later after R none h = rw none h
  faults_later us (Some vs) fault later after R none h =
      rw none (
        h.0,
        h.1,
        h.2,
        h.3,
        h.4,
        h.5,
        h.6 ∙ sym
            (fold-append (λ (r : List Row) (u : Use). used_once u r) R us vs),
      )

  joins : (U V : Uses) (fault later : Kinds) (here after : Walk) (R : List Row) → Comes U fault here R
      → ((rows : List Row) (p : Option Text) (b : Bool) → here ≡ at rows p b false
      → Ends c V later after (rows_at rows p))
      → Ends c (then_uses U V) (or_else fault later) after R
  joins None V fault later here after R h next_words = faults_first _ _ (faults_first fault later h)
  joins (Some us) V fault later here after R h next_words =
      faults_later us V fault later after R h.0 (subst (λ (r : List Row). Ends c V later after r) h.5
      (next_words h.1 h.2 h.3 h.4))

  mark_first : (ws : List Text) (rows : List Row) (p : Option Text) (b : Bool) (w : Text) → is_mark w ≡ true
      → Ends c (asked os (w ∷ ws)) (walk_fault (shape_with c) [] (at rows p b false) (w ∷ ws))
      (fold (walked c []) (at rows p b false) (w ∷ ws)) (rows_at rows p)
  unfolding walk_fault asked
  mark_first ws rows p b w mark = rw (mark, mark_turn rows p b w mark, mark_walk rows p b w mark) (trails ws rows p b)

  word_first : (ws : List Text) (rows : List Row) (p : Option Text) (b : Bool) (w : Text) → IsUtf8 w → is_mark w
      ≡ false → waits os w ≡ false
      → ((r : List Row) (q : Option Text) (t : Bool)
      → Ends c (asked os ws) (walk_fault (shape_with c) [] (at r q t false) ws)
      (fold (walked c []) (at r q t false) ws) (rows_at r q))
      → Ends c (asked os (w ∷ ws)) (walk_fault (shape_with c) [] (at rows p b false) (w ∷ ws))
      (fold (walked c []) (at rows p b false) (w ∷ ws)) (rows_at rows p)
  unfolding walk_fault asked
  word_first ws rows p b w utf8 mark calm later = rw mark (joins (word os w) (asked os ws) _ _ _ _ (rows_at rows p)
      (word_comes rows p b w utf8 mark calm)
      (λ r q t is. subst (λ (x : Walk). Ends c (asked os ws) (walk_fault (shape_with c) [] x ws)
      (fold (walked c []) x ws) (rows_at r q)) (sym is) (later r q t)))

  last_first : (rows : List Row) (p : Option Text) (b : Bool) (w : Text) → IsUtf8 w → is_mark w ≡ false → waits os w
      ≡ true
      → Ends c (asked os (w ∷ [])) (walk_fault (shape_with c) [] (at rows p b false) (w ∷ []))
      (fold (walked c []) (at rows p b false) (w ∷ [])) (rows_at rows p)
  unfolding walk_fault asked
  last_first rows p b w utf8 mark vain = rw (
    mark,
    word_waits os w vain,
    then_nothing
        (turn_fault (shape_with c) [] (at rows p b false) w),
  )
      (word_in_vain rows p b w utf8 mark vain)

  no_words : (rows : List Row) (p : Option Text) (b : Bool)
      → Ends c (asked os []) (walk_fault (shape_with c) [] (at rows p b false) [])
      (fold (walked c []) (at rows p b false) []) (rows_at rows p)
  unfolding walk_fault asked
  no_words rows p b = (refl, rows, p, b, false, refl, refl)

  pub words_come : (ws : List Text) (rows : List Row) (p : Option Text) (b : Bool) → All IsUtf8 ws → complete os ws
      ≡ true
      → Ends c (asked os ws) (walk_fault (shape_with c) [] (at rows p b false) ws)
      (fold (walked c []) (at rows p b false) ws) (rows_at rows p)
  unfolding complete
  words_come [] rows p b utf8 whole = no_words rows p b
  words_come (w ∷ []) rows p b utf8 whole = go (is_mark w) refl (waits os w) refl
    where
      go : (m : Bool) → is_mark w ≡ m → (v : Bool) → waits os w ≡ v
          → Ends c (asked os (w ∷ [])) (walk_fault (shape_with c) [] (at rows p b false) (w ∷ []))
          (fold (walked c []) (at rows p b false) (w ∷ [])) (rows_at rows p)
      go true mark v is = mark_first [] rows p b w mark
      go false mark true is = last_first rows p b w (utf8 0 w (omega arith)) mark is
      go false mark false is = word_first [] rows p b w (utf8 0 w (omega arith)) mark is no_words
  words_come (w ∷ x ∷ ws) rows p b utf8 whole = go (is_mark w) refl (words_come (x ∷ ws))
    where
      go : (m : Bool) → is_mark w ≡ m
          → ((r : List Row) (q : Option Text) (t : Bool) → All IsUtf8 (x ∷ ws) → complete os (x ∷ ws) ≡ true
          → Ends c (asked os (x ∷ ws)) (walk_fault (shape_with c) [] (at r q t false) (x ∷ ws))
          (fold (walked c []) (at r q t false) (x ∷ ws)) (rows_at r q))
          → Ends c (asked os (w ∷ x ∷ ws)) (walk_fault (shape_with c) [] (at rows p b false) (w ∷ x ∷ ws))
          (fold (walked c []) (at rows p b false) (w ∷ x ∷ ws)) (rows_at rows p)
      go true mark later = mark_first (x ∷ ws) rows p b w mark
      go false mark later =
          let parts = both (not (waits os w)) (complete os (x ∷ ws)) (rw mark at whole) in
          word_first (x ∷ ws) rows p b w (utf8 0 w (omega arith)) mark (is_false (waits os w) parts.0)
          (λ r q t. later r q t (λ k d lt. utf8 (suc k) d (omega arith)) parts.1)
