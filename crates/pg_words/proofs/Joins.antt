-- The joined words ask for what the words ask for.
use Rattle.std.proofs.Common.{◌≡◌, ◌∙◌, ap, refl, sym, subst, true, false, true≢false, not, ℕ, Bool, List, [], ◌∷◌}
use Rattle.std.proofs.Common.{◌++◌, map}
use Rattle.std.proofs.Common.{Option, Some, None, option_and_then, option_map, is_some, cond, ◌==◌, eqb-true}
use Rattle.std.proofs.Common.{append_assoc}
use Rattle.std.proofs.Common.{arith, zero, suc}
use Rattle.clap.proofs.CutLemmas.{Lacks}
use Rattle.clap.proofs.LexerLemmas.{name_and_value-at, name_and_value-without}
use Rattle.std.specs.List.{after_first}
use Rattle.std.specs.Option.{option_map_or}
use Rattle.clap.specs.Lexer.{long_of, long_of_rest, short_of, name_and_value, has_byte}
use Rattle.clap.specs.Walk.{attached_value}
use Rattle.pg_words.specs.Line.{Word, Opt, Use, Given, Operand, Uses, by_letter, by_name, followed, has_value}
use Rattle.pg_words.specs.Line.{is_mark}
use Rattle.pg_words.specs.Line.{Read, read_letter, read_letters, read_long, read_long_word, read_rest, read_short_word}
use Rattle.pg_words.specs.Line.{read_value, read_word, then_uses, uses_from, valued, with_use}
use Rattle.pg_words.specs.Joined.{asked, behind_text, complete, Free, joined_from, joined_letters, joined_long}
use Rattle.pg_words.specs.Joined.{joined_short}
use Rattle.pg_words.specs.Joined.{joined_word, letter, letters, letters_wait, long, long_or_short_waits, long_waits}
use Rattle.pg_words.specs.Joined.{long_word}
use Rattle.pg_words.specs.Joined.{short_waits, short_word, takes_value, ValueOf, waits, word}
use Rattle.pg_words.proofs.Waiting.{word_waits}
use Rattle.std.proofs.lemmas.Bool.{or_parts}

-- a word's uses, where this value follows it
abbrev pub closed : Read → Word → Uses
closed None v = None
closed (Some p) v = closed_by p.0 p.1
  where
    closed_by : List Use → Option Opt → Uses
    closed_by us None = Some us
    closed_by us (Some o) = then_uses (Some us) (valued o v)

nothing_first : (U : Uses) → then_uses (Some []) U ≡ U
nothing_first None = refl
nothing_first (Some us) = refl

value_is : (o : Opt) (t v : Word) → closed (read_value o t) v ≡ valued o t
value_is o t v = go (valued o t)
  where
    go : (U : Uses) → closed (option_map (λ us. (us, None)) U) v ≡ U
    go None = refl
    go (Some us) = refl

first_stays : (u : Use) (r : Read) (v : Word) → then_uses (Some (u ∷ [])) (closed r v) ≡ closed (with_use u r) v
first_stays u None v = refl
first_stays u (Some p) v = go p.0 p.1
  where
    more : (us : List Use) (U : Uses) → then_uses (Some (u ∷ [])) (then_uses (Some us) U) ≡ then_uses (Some (u ∷ us)) U
    more us None = refl
    more us (Some vs) = refl

    go : (us : List Use) (w : Option Opt) → then_uses (Some (u ∷ [])) (closed (Some (us, w)) v)
        ≡ closed (with_use u (Some (us, w))) v
    go us None = refl
    go us (Some o) = more us (valued o v)

module _ (os : List Opt) (v : Word) where
  valued_letter : (o : Opt) (rest : Word) → option_and_then (valued o) (attached_value (behind_text rest (61 ∷ v)))
      ≡ closed (read_rest o rest) v
  valued_letter o [] = sym (nothing_first (valued o v))
  valued_letter o (y ∷ ys) = sym (value_is o (y ∷ ys) v)

  abbrev joined_at : Option Opt → Word → Word
  joined_at f rest = cond (takes_value f) (behind_text rest (61 ∷ v)) (joined_letters os rest (61 ∷ v))

  one_letter : (f : Option Opt) (rest : Word) → letters os (joined_letters os rest (61 ∷ v))
      ≡ closed (read_letters os rest) v
      → letter f (joined_at f rest) (letters os (joined_at f rest))
      ≡ closed (read_letter f rest (read_letters os rest)) v
  one_letter None rest later = refl
  one_letter (Some o) rest later = go (has_value o)
    where
      go : (b : Bool) → cond b (option_and_then (valued o)
          (attached_value (cond b (behind_text rest (61 ∷ v)) (joined_letters os rest (61 ∷ v)))))
          (then_uses (Some (Given o [] ∷ [])) (letters os
          (cond b (behind_text rest (61 ∷ v)) (joined_letters os rest (61 ∷ v)))))
          ≡ closed (cond b (read_rest o rest) (with_use (Given o []) (read_letters os rest))) v
      go true = valued_letter o rest
      go false = ap (then_uses (Some (Given o [] ∷ []))) later ∙ first_stays (Given o []) (read_letters os rest) v

  pub letters_join : (flags : Word) → letters os (joined_letters os flags (61 ∷ v)) ≡ closed (read_letters os flags) v
  letters_join [] = refl
  letters_join (x ∷ rest) = one_letter (by_letter os x) rest (letters_join rest)

  -- no letter waits any more
  letters_calm : (flags : Word) → letters_wait os (joined_letters os flags (61 ∷ v)) ≡ false
  letters_calm [] = refl
  letters_calm (x ∷ rest) = go (takes_value (by_letter os x)) (letters_calm rest)
    where
      attached : (t : Word) → not (is_some (attached_value (behind_text t (61 ∷ v)))) ≡ false
      attached [] = refl
      attached (y ∷ ys) = refl

      go : (b : Bool) → letters_wait os (joined_letters os rest (61 ∷ v)) ≡ false
          → cond b (not (is_some (attached_value (cond b (behind_text rest (61 ∷ v))
          (joined_letters os rest (61 ∷ v))))))
          (letters_wait os (cond b (behind_text rest (61 ∷ v)) (joined_letters os rest (61 ∷ v)))) ≡ false
      go true later = attached rest
      go false later = later

-- ---- long names

pub lacks : (t : Word) → has_byte 61 t ≡ false → Lacks 61 t
lacks [] none i lt = absurd (omega arith)
lacks (x ∷ t) none zero lt = λ e. true≢false (sym (ap (λ (n : ℕ). n == 61) e)
    ∙ (or_parts (x == 61) (has_byte 61 t) none).0)
lacks (x ∷ t) none (suc i) lt = lacks t (or_parts (x == 61) (has_byte 61 t) none).1 i (omega arith)

-- a name without `=`, and a value behind `=`
name_more : (t v : Word) → has_byte 61 t ≡ false → name_and_value (t ++ 61 ∷ v) ≡ ((name_and_value t).0, Some v)
name_more t v none = name_and_value-at t v (lacks t none)
    ∙ ap (λ (p : Word × Option Word). (p.0, Some v)) (sym (name_and_value-without t (lacks t none)))

-- what a word looks like
data Looks : Word → Type 0 where
  long_text : (x : ℕ) (t : Word) → Looks (45 ∷ 45 ∷ x ∷ t)
  letters_text : (x : ℕ) (t : Word) → (x == 45) ≡ false → Looks (45 ∷ x ∷ t)
  plain_text : (w : Word) → long_of w ≡ None → short_of w ≡ None → Looks w

looks : (w : Word) → is_mark w ≡ false → Looks w
looks [] mark = plain_text [] refl refl
looks (d ∷ w) mark = go w (d == 45) refl mark
  where
    go : (w : Word) (b : Bool) → (d == 45) ≡ b → is_mark (d ∷ w) ≡ false → Looks (d ∷ w)
    go w false is mark = plain_text (d ∷ w) (rw is refl) (rw is refl)
    go [] true is mark = plain_text (d ∷ []) (rw is refl) (rw is refl)
    go (x ∷ t) true is mark = subst (λ (n : ℕ). Looks (n ∷ x ∷ t)) (sym (eqb-true d 45 is)) (second (x == 45) refl)
      where
        marked : (t : Word) → (x == 45) ≡ true → is_mark (d ∷ x ∷ t) ≡ false → Looks (45 ∷ 45 ∷ t)
        marked [] e mark = absurd (true≢false (sym (rw (is, e) refl) ∙ mark))
        marked (y ∷ t) e mark = long_text y t

        second : (b : Bool) → (x == 45) ≡ b → Looks (45 ∷ x ∷ t)
        second true e = subst (λ (n : ℕ). Looks (45 ∷ n ∷ t)) (sym (eqb-true x 45 e)) (marked t e mark)
        second false e = letters_text x t e

-- what holds of a word and its joined form
abbrev pub Joined : List Opt → Word → Word → Type 0
Joined os w v = (word os (joined_word os w v) ≡ closed (read_word os w) v) × (is_mark (joined_word os w v) ≡ false)
    × (waits os (joined_word os w v) ≡ false)

same_long : (f : Option Opt) (q : Option Word) (v : Word) → long_waits f q ≡ false → long f q ≡ closed (read_long f q) v
same_long None q v e = refl
same_long (Some o) None v e = go (has_value o) e
  where
    go : (b : Bool) → b ≡ false → cond b None (Some (Given o [] ∷ []))
        ≡ closed (cond b (Some ([], Some o)) (Some (Given o [] ∷ [], None))) v
    go true e = cc
    go false e = refl
same_long (Some o) (Some t) v e = go (has_value o)
  where
    go : (b : Bool) → cond b (valued o t) None ≡ closed (cond b (read_value o t) None) v
    go true = sym (value_is o t v)
    go false = refl

waiting_long : (f : Option Opt) (v : Word) → long_waits f None ≡ true → long f (Some v) ≡ closed (read_long f None) v
waiting_long None v e = cc
waiting_long (Some o) v e = go (has_value o) e
  where
    go : (b : Bool) → b ≡ true → cond b (valued o v) None
        ≡ closed (cond b (Some ([], Some o)) (Some (Given o [] ∷ [], None))) v
    go true e = sym (nothing_first (valued o v))
    go false e = cc

module _ (os : List Opt) where
  abbrev name_in : Word → Word
  name_in t = (name_and_value t).0

  abbrev value_in : Word → Option Word
  value_in t = (name_and_value t).1

  waiting_joined : (x : ℕ) (t v : Word) → has_byte 61 (x ∷ t) ≡ false → value_in (x ∷ t) ≡ None
      → long_waits (by_name os (name_in (x ∷ t))) (value_in (x ∷ t)) ≡ true → Joined os (45 ∷ 45 ∷ x ∷ t) v
  waiting_joined x t v none no_value e =
      let whole : long (by_name os (name_in (x ∷ t ++ 61 ∷ v))) (value_in (x ∷ t ++ 61 ∷ v))
      ≡ closed (read_long (by_name os (name_in (x ∷ t))) (value_in (x ∷ t))) v =
      ap (λ (p : Word × Option Word). long (by_name os p.0) p.1) (name_more (x ∷ t) v none)
      ∙ (waiting_long (by_name os (name_in (x ∷ t))) v
      (ap (long_waits (by_name os (name_in (x ∷ t)))) (sym no_value) ∙ e)
      ∙ ap (λ (q : Option Word). closed (read_long (by_name os (name_in (x ∷ t))) q) v) (sym no_value)) in
      let calm : long_waits (by_name os (name_in (x ∷ t ++ 61 ∷ v))) (value_in (x ∷ t ++ 61 ∷ v)) ≡ false =
      ap (λ (p : Word × Option Word). long_waits (by_name os p.0) p.1) (name_more (x ∷ t) v none) in
      rw e (whole, refl, calm)

  long_joined : (x : ℕ) (t v : Word) → Joined os (45 ∷ 45 ∷ x ∷ t) v
  long_joined x t v = waits_or_not (long_waits (by_name os (name_in (x ∷ t))) (value_in (x ∷ t))) refl
      (has_byte 61 (x ∷ t)) refl
    where
      waits_or_not : (w : Bool) → long_waits (by_name os (name_in (x ∷ t))) (value_in (x ∷ t)) ≡ w → (b : Bool)
          → has_byte 61 (x ∷ t) ≡ b → Joined os (45 ∷ 45 ∷ x ∷ t) v
      waits_or_not false e b is = rw e (same_long (by_name os (name_in (x ∷ t))) (value_in (x ∷ t)) v e, refl, e)
      waits_or_not true e false is = waiting_joined x t v is
          (ap (λ (b : Bool). cond b (Some (after_first (λ y. y == 61) (x ∷ t))) None) is) e
      waits_or_not true e true is = absurd (true≢false
          (sym e ∙ ap (λ (b : Bool). long_waits (by_name os (name_in (x ∷ t)))
          (cond b (Some (after_first (λ y. y == 61) (x ∷ t))) None)) is))

  letters_word : (x : ℕ) (t : Word) → (x == 45) ≡ false → word os (45 ∷ x ∷ t) ≡ letters os (x ∷ t)
  letters_word x t e = ap (λ (b : Bool). long_word os (option_and_then long_of_rest (cond b (Some t) None))
      (45 ∷ x ∷ t)) e
      ∙ ap (λ (b : Bool). short_word os (cond b None (Some (x ∷ t))) (45 ∷ x ∷ t)) e

  letters_read : (x : ℕ) (t : Word) → (x == 45) ≡ false → read_word os (45 ∷ x ∷ t) ≡ read_letters os (x ∷ t)
  letters_read x t e = ap (λ (b : Bool). read_long_word os (option_and_then long_of_rest (cond b (Some t) None))
      (45 ∷ x ∷ t)) e
      ∙ ap (λ (b : Bool). read_short_word os (cond b None (Some (x ∷ t))) (45 ∷ x ∷ t)) e

  letters_text_is : (x : ℕ) (t v : Word) → (x == 45) ≡ false → joined_word os (45 ∷ x ∷ t) v ≡ 45
      ∷ joined_letters os (x ∷ t) (61 ∷ v)
  letters_text_is x t v e = ap (λ (b : Bool). joined_long os (option_and_then long_of_rest (cond b (Some t) None))
      (45 ∷ x ∷ t) (61 ∷ v)) e
      ∙ ap (λ (b : Bool). joined_short os (cond b None (Some (x ∷ t))) (45 ∷ x ∷ t) (61 ∷ v)) e

  no_mark : (x : ℕ) (t : Word) → (x == 45) ≡ false → is_mark (45 ∷ x ∷ t) ≡ false
  no_mark x t e = rw e refl

  letters_waits : (x : ℕ) (t : Word) → (x == 45) ≡ false → waits os (45 ∷ x ∷ t) ≡ letters_wait os (x ∷ t)
  letters_waits x t e = ap (λ (b : Bool). long_or_short_waits os (option_and_then long_of_rest (cond b (Some t) None))
      (45 ∷ x ∷ t)) e
      ∙ ap (λ (b : Bool). short_waits os (cond b None (Some (x ∷ t)))) e

  letters_joined : (x : ℕ) (t v : Word) → (x == 45) ≡ false → Joined os (45 ∷ x ∷ t) v
  letters_joined x t v e =
      let text = letters_text_is x t v e in
      let rest : Word = joined_at os v (by_letter os x) t in (
        ap (word os) text ∙ (letters_word x rest e
            ∙ (letters_join os v (x ∷ t) ∙ ap (λ (r : Read). closed r v) (sym (letters_read x t e)))),
        ap is_mark text ∙ no_mark x rest e,
        ap (waits os) text ∙ (letters_waits x rest e ∙ letters_calm os v (x ∷ t)),
      )

  plain_joined : (w v : Word) → is_mark w ≡ false → long_of w ≡ None → short_of w ≡ None → Joined os w v
  plain_joined w v mark no_long no_short = rw (no_long, no_short)
      (rw (no_long, no_short) refl, mark, rw (no_long, no_short) refl)

  pub word_joins : (w v : Word) → is_mark w ≡ false → Joined os w v
  word_joins w v mark = go w (looks w mark) mark
    where
      go : (w : Word) → Looks w → is_mark w ≡ false → Joined os w v
      go _ (long_text x t) mark = long_joined x t v
      go _ (letters_text x t e) mark = letters_joined x t v e
      go _ (plain_text w no_long no_short) mark = plain_joined w v mark no_long no_short

  -- ---- whether a word waits

  abbrev MayWait : Bool → Read → Type 0
  MayWait b None = Unit {0}
  MayWait b (Some p) = is_some p.1 ≡ b

  value_calm : (o : Opt) (t : Word) → MayWait false (read_value o t)
  value_calm o t = go (valued o t)
    where
      go : (U : Uses) → MayWait false (option_map (λ us. (us, None)) U)
      go None = tt
      go (Some us) = refl

  rest_may : (o : Opt) (rest : Word) → MayWait (not (is_some (attached_value rest))) (read_rest o rest)
  rest_may o [] = refl
  rest_may o (y ∷ ys) = subst (λ b. MayWait b (read_value o (y ∷ ys))) (attached (y == 61)) (value_calm o (y ∷ ys))
    where
      attached : (b : Bool) → false ≡ not (is_some
          (option_map_or (λ v. Some v) (cond b (Some ys) None) (Some (y ∷ ys))))
      attached true = refl
      attached false = refl

  use_may : (b : Bool) (u : Use) (r : Read) → MayWait b r → MayWait b (with_use u r)
  use_may b u None h = tt
  use_may b u (Some p) h = h

  letter_may : (f : Option Opt) (rest : Word) → MayWait (letters_wait os rest) (read_letters os rest)
      → MayWait (cond (takes_value f) (not (is_some (attached_value rest))) (letters_wait os rest))
      (read_letter f rest (read_letters os rest))
  letter_may None rest later = tt
  letter_may (Some o) rest later = go (has_value o)
    where
      go : (b : Bool) → MayWait (cond b (not (is_some (attached_value rest))) (letters_wait os rest))
          (cond b (read_rest o rest) (with_use (Given o []) (read_letters os rest)))
      go true = rest_may o rest
      go false = use_may (letters_wait os rest) (Given o []) (read_letters os rest) later

  letters_may : (flags : Word) → MayWait (letters_wait os flags) (read_letters os flags)
  letters_may [] = refl
  letters_may (x ∷ rest) = letter_may (by_letter os x) rest (letters_may rest)

  long_may : (f : Option Opt) (v : Option Word) → MayWait (long_waits f v) (read_long f v)
  long_may None v = tt
  long_may (Some o) None = go (has_value o)
    where
      go : (b : Bool) → MayWait b (cond b (Some ([], Some o)) (Some (Given o [] ∷ [], None)))
      go true = refl
      go false = refl
  long_may (Some o) (Some v) = go (has_value o)
    where
      go : (b : Bool) → MayWait false (cond b (read_value o v) None)
      go true = value_calm o v
      go false = tt

  short_may : (q : Option Word) (w : Word) → MayWait (short_waits os q) (read_short_word os q w)
  short_may (Some flags) w = letters_may flags
  short_may None w = refl

  long_or_short_may : (q : Option (Word × Option Word)) (w : Word)
      → MayWait (long_or_short_waits os q w) (read_long_word os q w)
  long_or_short_may (Some p) w = long_may (by_name os p.0) p.1
  long_or_short_may None w = short_may (short_of w) w

  word_may : (w : Word) (b : Bool) → waits os w ≡ b → MayWait b (read_word os w)
  word_may w b is = subst (λ x. MayWait x (read_word os w)) is (long_or_short_may (long_of w) w)

  -- ---- all words

  not_waiting : (r : Read) (v : Word) (next : Option Opt → Uses) → MayWait false r → followed r next
      ≡ then_uses (closed r v) (next None)
  not_waiting None v next h = refl
  not_waiting (Some p) v next h = go p.0 p.1 h
    where
      go : (us : List Use) (w : Option Opt) → is_some w ≡ false → followed (Some (us, w)) next
          ≡ then_uses (closed (Some (us, w)) v) (next None)
      go us None e = refl
      go us (Some o) e = cc

  more_uses : (us : List Use) (U V : Uses) → then_uses (Some us) (then_uses U V) ≡ then_uses (then_uses (Some us) U) V
  more_uses us None V = refl
  more_uses us (Some vs) None = refl
  more_uses us (Some vs) (Some ws) = ap (λ (l : List Use). Some l) (sym (append_assoc us vs ws))

  waiting_uses : (r : Read) (v : Word) (V : Uses) (next : Option Opt → Uses) → MayWait true r
      → ((o : Opt) → next (Some o) ≡ then_uses (valued o v) V)
      → followed r next ≡ then_uses (closed r v) V
  waiting_uses None v V next h is = refl
  waiting_uses (Some p) v V next h is = go p.0 p.1 h
    where
      go : (us : List Use) (w : Option Opt) → is_some w ≡ true → followed (Some (us, w)) next
          ≡ then_uses (closed (Some (us, w)) v) V
      go us None e = cc
      go us (Some o) e = ap (then_uses (Some us)) (is o) ∙ more_uses us (valued o v) V

  last_refused : (r : Read) → MayWait true r → followed r (uses_from os []) ≡ None
  unfolding uses_from
  last_refused None h = refl
  last_refused (Some p) h = go p.0 p.1 h
    where
      go : (us : List Use) (w : Option Opt) → is_some w ≡ true → followed (Some (us, w)) (uses_from os []) ≡ None
      go us None e = cc
      go us (Some o) e = refl

  -- a word in front, that does not wait
  first_word : (w v : Word) (ws : List Word) (mark : is_mark w ≡ false) → asked os (joined_word os w v ∷ ws)
      ≡ then_uses (closed (read_word os w) v) (asked os ws)
  unfolding asked
  first_word w v ws mark =
      let j = word_joins w v mark in
      ap (λ (b : Bool). cond b (Some (map Operand ws)) (then_uses (word os (joined_word os w v)) (asked os ws))) j.1
      ∙ ap (λ (U : Uses). then_uses U (asked os ws)) j.0

  last_word : (w : Word) → is_mark w ≡ false → waits os w ≡ true → asked os (w ∷ [])
      ≡ followed (read_word os w) (uses_from os [])
  unfolding asked
  last_word w mark e = rw (mark, word_waits os w e) (sym (last_refused (read_word os w) (word_may w true e)))

  WordsJoin : List Word → Type 0
  WordsJoin ws = (asked os (joined_from os Free ws) ≡ uses_from os ws None)
      × ((w : Word) → is_mark w ≡ false → waits os w ≡ true → asked os (joined_from os (ValueOf w) ws)
      ≡ followed (read_word os w) (uses_from os ws))

  all_join : (ws : List Word) → WordsJoin ws
  unfolding asked joined_from uses_from WordsJoin
  all_join [] = (refl, last_word)
  all_join (v ∷ ws) = go (all_join ws)
    where
      go : WordsJoin ws → WordsJoin (v ∷ ws)
      go later = (
        free (is_mark v) refl (waits os v) refl,
        λ w mark e. first_word w v (joined_from os Free ws) mark ∙ ap (then_uses (closed (read_word os w) v)) later.0
            ∙ sym (waiting_uses (read_word os w) v (uses_from os ws None) (uses_from os (v ∷ ws)) (word_may w true e)
            (λ o. refl)),
      )
        where
          free : (m : Bool) → is_mark v ≡ m → (d : Bool) → waits os v ≡ d
              → asked os (cond m (v ∷ ws) (cond d (joined_from os (ValueOf v) ws)
              (joined_word os v [] ∷ joined_from os Free ws)))
              ≡ cond m (Some (map Operand ws)) (followed (read_word os v) (uses_from os ws))
          free true mark d e = ap (λ (b : Bool). cond b (Some (map Operand ws))
              (then_uses (word os v) (asked os ws))) mark
          free false mark true e = later.1 v mark e
          free false mark false e = first_word v [] (joined_from os Free ws) mark
              ∙ ap (then_uses (closed (read_word os v) [])) later.0
              ∙ sym (not_waiting (read_word os v) [] (uses_from os ws) (word_may v false e))

  -- the joined words ask for what the words ask for
  pub words_join : (ws : List Word) → asked os (joined_from os Free ws) ≡ uses_from os ws None
  unfolding WordsJoin
  words_join ws = (all_join ws).0

  -- ---- no joined word waits but the last

  mark_complete : (w : Word) (ws : List Word) → is_mark w ≡ true → complete os (w ∷ ws) ≡ true
  unfolding complete
  mark_complete w [] mark = refl
  mark_complete w (x ∷ ws) mark = rw mark refl

  word_complete : (w : Word) (ws : List Word) → waits os w ≡ false → complete os ws ≡ true → complete os (w ∷ ws) ≡ true
  unfolding complete
  word_complete w [] calm later = refl
  word_complete w (x ∷ ws) calm later = rw (calm, later) (go (is_mark w))
    where
      go : (m : Bool) → cond m true true ≡ true
      go true = refl
      go false = refl

  last_complete : (w : Word) → complete os (w ∷ []) ≡ true
  unfolding complete
  last_complete w = refl

  AreComplete : List Word → Type 0
  AreComplete ws = (complete os (joined_from os Free ws) ≡ true)
      × ((w : Word) → is_mark w ≡ false → complete os (joined_from os (ValueOf w) ws) ≡ true)

  none_complete : complete os [] ≡ true
  unfolding complete
  none_complete = refl

  all_complete : (ws : List Word) → AreComplete ws
  unfolding joined_from AreComplete
  all_complete [] = (none_complete, λ w mark. last_complete w)
  all_complete (v ∷ ws) = go (all_complete ws)
    where
      go : AreComplete ws → AreComplete (v ∷ ws)
      go later = (
        free (is_mark v) refl (waits os v),
        λ w mark. word_complete (joined_word os w v) (joined_from os Free ws) (word_joins w v mark).2 later.0,
      )
        where
          free : (m : Bool) → is_mark v ≡ m → (d : Bool)
              → complete os (cond m (v ∷ ws) (cond d (joined_from os (ValueOf v) ws)
              (joined_word os v [] ∷ joined_from os Free ws))) ≡ true
          free true mark d = mark_complete v ws mark
          free false mark true = later.1 v mark
          free false mark false = word_complete (joined_word os v []) (joined_from os Free ws)
              (word_joins v [] mark).2 later.0

  pub joined_complete : (ws : List Word) → complete os (joined_from os Free ws) ≡ true
  unfolding AreComplete
  joined_complete ws = (all_complete ws).0
