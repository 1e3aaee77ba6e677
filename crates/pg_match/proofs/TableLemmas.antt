-- How a table grows.
use Rattle.std.proofs.Common.{◌≡◌, ◌≢◌, ℕ, zero, suc, ◌+◌, ◌-◌, ◌*◌, ◌<◌, ◌≤◌, inl, inr, List, [], ◌∷◌, ◌++◌, length}
use Rattle.std.proofs.Common.{get_or, set, Option, Some, None, refl, sym, ap, ◌∙◌, subst, arith, length-append}
use Rattle.std.proofs.Common.{length-set, get_or-set_same, get_or-set_other}
use Rattle.std.specs.Prelude.{slice_get}
use Rattle.std.proofs.Math.Seq.{get_or-append_seam}
use Rattle.std.proofs.lemmas.Bool.{cases_eq}
use Rattle.std.proofs.lemmas.List.{get_or_append_left}
use Rattle.std.proofs.lemmas.List.Elements.{All-weaker, All-push, All-same}
use Rattle.std.proofs.lemmas.Option.{slice_get_within, slice_get-get_or, get_or_from_slice_get}
use Rattle.pg_pattern.specs.Matches.{Chain}
use Rattle.pg_pattern.specs.Patterns.{IsProper, Pattern, Empty, Set, Begin, End, Cat, Alt, Rep}
use Rattle.pg_match.specs.Sizes.{size_of}
use Rattle.pg_match.specs.Automata.{target_below, IsTidy}
use Rattle.pg_match.specs.Tables.{Optional, Loop, AfterCopies, Implements, KeepsStates, NoAccept, KeepsWritten, Pushed}
use Rattle.pg_match.specs.Tables.{Added}
use Rattle.pg_match.specs.Tables.{AddedCopies, AddedOptional}
use Rattle.pg_match.specs.declared.state.State.{State}
use Rattle.pg_match.specs.declared.state.State.TheVariants.{Fail, Accept, Jump, Read, AtBegin, AtEnd, Split}

pub plain_trans : (a b c : List State) → NoAccept a b → NoAccept b c → NoAccept a c
plain_trans a b c f g q h = f q (g q h)

pub keeps_trans : (a b c : List State) → KeepsStates a b → KeepsStates b c → KeepsStates a c
keeps_trans a b c f g q s h = g q s (f q s h)

pub written : (a b : List State) → KeepsStates a b → KeepsWritten a b
written a b f q s other h = f q s h

pub chain_kept : (R Q : ℕ → ℕ → Type 0) → ((e x : ℕ) → R e x → Q e x) → (c e x : ℕ) → Chain R c e x → Chain Q c e x
chain_kept R Q f zero e x h = h
chain_kept R Q f (suc c) e x h = (h.0, f e h.0 h.1, chain_kept R Q f c h.0 x h.2)

module _ (a b : List State) (keeps : KeepsWritten a b) where
  pub optional_kept : (R Q : ℕ → ℕ → Type 0) → ((e x : ℕ) → R e x → Q e x) → (c e x : ℕ) → Optional a R c e x
      → Optional b Q c e x
  optional_kept R Q f zero e x h = h
  optional_kept R Q f (suc c) e x h =
      (h.0, h.1, keeps e (Split h.0 x) (λ w. cc) h.2, f h.0 h.1 h.3, optional_kept R Q f c h.1 x h.4)

  loop_kept : (R Q : ℕ → ℕ → Type 0) → ((e x : ℕ) → R e x → Q e x) → (e x : ℕ) → Loop a R e x → Loop b Q e x
  loop_kept R Q f e x h = (h.0, keeps e (Split h.0 x) (λ w. cc) h.1, f h.0 e h.2)

  rest_kept : (R Q : ℕ → ℕ → Type 0) → ((e x : ℕ) → R e x → Q e x) → (m : ℕ) (n : Option ℕ) (e x : ℕ)
      → AfterCopies a R m n e x → AfterCopies b Q m n e x
  rest_kept R Q f m None e x h = loop_kept R Q f e x h
  rest_kept R Q f m (Some n) e x h = optional_kept R Q f (n - m) e x h

  pub implements_kept : (r : Pattern) (e x : ℕ) → Implements a r e x → Implements b r e x
  implements_kept Empty e x h = keeps e (Jump x) (λ w. cc) h
  implements_kept (Set s) e x h = (h.0, h.1, keeps e (Read h.0 x) (λ w. cc) h.2)
  implements_kept Begin e x h = keeps e (AtBegin x) (λ w. cc) h
  implements_kept End e x h = keeps e (AtEnd x) (λ w. cc) h
  implements_kept (Cat r s) e x h = (h.0, implements_kept r e h.0 h.1, implements_kept s h.0 x h.2)
  implements_kept (Alt r s) e x h =
      (h.0, h.1, keeps e (Split h.0 h.1) (λ w. cc) h.2, implements_kept r h.0 x h.3, implements_kept s h.1 x h.4)
  implements_kept (Rep r m n) e x h = (
    h.0,
    chain_kept (Implements a r) (Implements b r) (implements_kept r) m e h.0 h.1,
    rest_kept (Implements a r) (Implements b r) (implements_kept r) m n h.0 x h.2,
  )

below_more : (m n : ℕ) → m ≤ n → (s : State) → target_below m s → target_below n s
below_more m n le Fail h = tt
below_more m n le Accept h = tt
below_more m n le (Jump x) h = omega arith
below_more m n le (Read s x) h = omega arith
below_more m n le (AtBegin x) h = omega arith
below_more m n le (AtEnd x) h = omega arith
below_more m n le (Split x y) h = (omega (arith, h.0), omega (arith, h.1))

-- what a pushed state leaves
pub pushed_length : (old new : List State) (s : State) (e : ℕ) → Pushed old new s e → length new ≡ length old + 1
pushed_length old new s e p = ap length p.items ∙ length-append old (s ∷ [])

pub pushed_keeps : (old new : List State) (s : State) (e : ℕ) → Pushed old new s e → KeepsStates old new
pushed_keeps old new s e p q w h =
    let within : q < length old = slice_get_within old q w h in
    let in' : q < length (old ++ s ∷ []) = omega (arith, length-append old (s ∷ [])) in
    rw (p.items)
    (slice_get-get_or (old ++ s ∷ []) q w in'
    ∙ ap Some (get_or_append_left old (s ∷ []) w q within ∙ get_or_from_slice_get old q w w h))

pub pushed_is : (old new : List State) (s : State) (e : ℕ) → Pushed old new s e → slice_get new e ≡ Some s
pushed_is old new s e p =
    let in' : length old < length (old ++ s ∷ []) = omega (arith, length-append old (s ∷ [])) in
    rw (p.items, p.place) (slice_get-get_or (old ++ s ∷ []) (length old) s in'
    ∙ ap Some (get_or-append_seam old s [] s))

pub pushed_tidy : (old new : List State) (s : State) (e : ℕ) → Pushed old new s e → IsTidy old
    → target_below (length new) s → IsTidy new
pushed_tidy old new s e p tidy below =
    let len = pushed_length old new s e p in
    let le : length old ≤ length new = omega (arith, len) in
    All-same (target_below (length new)) new (old ++ s ∷ []) p.items
    (All-push (target_below (length new)) old s
    (All-weaker (target_below (length old)) (target_below (length new))
    (below_more (length old) (length new) le) old tidy) below)

pub pushed_plain : (old new : List State) (s : State) (e : ℕ) → Pushed old new s e → s ≢ Accept → NoAccept old new
pushed_plain old new s e p other q h =
    let len = pushed_length old new s e p in
    let within : q < length new = slice_get_within new q Accept h in
    elim (cases_eq q (length old)) [
      | inl same ↦
          let e1 : Some s ≡ Some Accept = sym (pushed_is old new s e p) ∙ ap (slice_get new) (p.place ∙ sym same) ∙ h in
          absurd (other (cc))
      | inr apart ↦
          let q_in : q < length old = omega (arith, len) in
          let e1 : get_or new q Accept ≡ Accept = get_or_from_slice_get new q Accept Accept h in
          let e2 : get_or new q Accept ≡ get_or old q Accept = ap (λ t. get_or t q Accept) p.items
          ∙ get_or_append_left old (s ∷ []) Accept q q_in in
          slice_get-get_or old q Accept q_in ∙ ap Some (sym e2 ∙ e1)
    ]

-- a pattern of one state
pub one_added : (old new : List State) (s : State) (r : Pattern) (e x : ℕ) → Pushed old new s e → IsTidy old
    → target_below (length old) s → (slice_get new e ≡ Some s → Implements new r e x) → size_of r ≡ 1 → s ≢ Accept
    → Added old new r e x
one_added old new s r e x p tidy below is one other =
    let len = pushed_length old new s e p in
    let le : length old ≤ length new = omega (arith, len) in
    record {
      implements = is (pushed_is old new s e p);
      keeps = pushed_keeps old new s e p;
      plain = pushed_plain old new s e p other;
      tidy = pushed_tidy old new s e p tidy (below_more (length old) (length new) le s below);
      inside = omega (arith, len, p.place);
      size = omega (arith, len, one);
    }

-- the state s is written over
pub set_is : (t : List State) (s : ℕ) (w : State) → s < length t → slice_get (set t s w) s ≡ Some w
set_is t s w h =
    let in' : s < length (set t s w) = omega (arith, length-set t s w) in
    slice_get-get_or (set t s w) s w in' ∙ ap Some (get_or-set_same t s w w h)

pub set_other : (t : List State) (s q : ℕ) (w v : State) → q ≢ s → slice_get t q ≡ Some v
    → slice_get (set t s w) q ≡ Some v
set_other t s q w v other h =
    let within : q < length t = slice_get_within t q v h in
    let in' : q < length (set t s w) = omega (arith, length-set t s w) in
    slice_get-get_or (set t s w) q v in' ∙ ap Some (get_or-set_other t s q w v other ∙ get_or_from_slice_get t q v v h)

pub set_written : (t : List State) (s : ℕ) (w : State) → slice_get t s ≡ Some Fail → KeepsWritten t (set t s w)
set_written t s w was q v not_fail h =
    set_other t s q w v (λ same. let e : Some v ≡ Some Fail = sym h ∙ ap (slice_get t) same ∙ was in not_fail (cc)) h

pub set_plain : (t : List State) (s : ℕ) (w : State) → s < length t → w ≢ Accept → NoAccept t (set t s w)
set_plain t s w s_in other q h =
    let within : q < length (set t s w) = slice_get_within (set t s w) q Accept h in
    elim (cases_eq q s) [
      | inl same ↦
          let e1 : Some w ≡ Some Accept = sym (set_is t s w s_in) ∙ ap (slice_get (set t s w)) (sym same) ∙ h in
          absurd (other (cc))
      | inr apart ↦
          let q_in : q < length t = omega (arith, length-set t s w) in
          let e1 : get_or (set t s w) q Accept ≡ Accept = get_or_from_slice_get (set t s w) q Accept Accept h in
          slice_get-get_or t q Accept q_in ∙ ap Some (sym (get_or-set_other t s q w Accept apart) ∙ e1)
    ]

grown : (old new : List State) (r : Pattern) (e x : ℕ) → Added old new r e x → KeepsWritten old new
grown old new r e x a = written old new a.keeps

pub copy_added : (t u v : List State) (r : Pattern) (c e k x : ℕ) → AddedCopies t u r c k x → Added u v r e k
    → AddedCopies t v r (c + 1) e x
copy_added t u v r c e k x copies one =
    let n : c + 1 ≡ suc c = omega arith in
    let w = grown u v r e k one in
    rw n record {
      implements = (
        k,
        one.implements,
        chain_kept (Implements u r) (Implements v r)
            (implements_kept u v w r) c k x copies.implements,
      );
      keeps = keeps_trans t u v copies.keeps one.keeps;
      plain = plain_trans t u v copies.plain one.plain;
      tidy = one.tidy;
      inside = one.inside;
      size = omega (arith, copies.size, one.size);
    }

pub option_added : (t u v w : List State) (r : Pattern) (c e f k x : ℕ) → AddedOptional t u r c k x → Added u v r f k
    → Pushed v w (Split f x) e → x < length t → AddedOptional t w r (c + 1) e x
option_added t u v w r c e f k x before one push x_in =
    let n : c + 1 ≡ suc c = omega arith in
    let len = pushed_length v w (Split f x) e push in
    let keeps = pushed_keeps v w (Split f x) e push in
    let keeps2 = keeps_trans u v w one.keeps keeps in
    let below : target_below (length w) (Split f x) =
    (omega (arith, len, one.inside), omega (arith, len, x_in, before.size, one.size)) in
    rw n record {
      implements = (
        f,
        k,
        pushed_is v w (Split f x) e push,
        implements_kept v w (written v w keeps) r f k one.implements,
        optional_kept u w (written u w keeps2) (Implements u r) (Implements w r)
            (implements_kept u w (written u w keeps2) r) c k x before.implements,
      );
      keeps = keeps_trans t u w before.keeps keeps2;
      plain = plain_trans t u w before.plain
          (plain_trans u v w one.plain (pushed_plain v w (Split f x) e push (λ z. cc)));
      tidy = pushed_tidy v w (Split f x) e push one.tidy below;
      inside = omega (arith, len, push.place);
      size = omega (arith, len, before.size, one.size);
    }

-- a proper tree of size 0 takes no states: from each state it goes on there
module _ (t : List State) where
  rounds_of_nothing : (R : ℕ → ℕ → Type 0) → ((x : ℕ) → R x x) → (c x : ℕ) → Chain R c x x
  rounds_of_nothing R f zero x = refl
  rounds_of_nothing R f (suc c) x = (x, f x, rounds_of_nothing R f c x)

  pub nothing : (r : Pattern) → IsProper r → size_of r ≡ 0 → (x : ℕ) → Implements t r x x
  nothing Empty proper e x = absurd (omega arith)
  nothing (Set s) proper e x = absurd (omega arith)
  nothing Begin proper e x = absurd (omega arith)
  nothing End proper e x = absurd (omega arith)
  nothing (Cat a b) proper e x = (x, nothing a proper.0 (omega arith) x, nothing b proper.1 (omega arith) x)
  nothing (Alt a b) proper e x = absurd (omega arith)
  nothing (Rep r m None) proper e x = absurd (omega arith)
  nothing (Rep r zero (Some n)) proper e x =
      let z : n - 0 ≡ 0 = omega arith in
      (x, refl, subst (λ c. Optional t (Implements t r) c x x) (sym z) refl)
  nothing (Rep r (suc m) (Some n)) proper e x =
      let z : n - suc m ≡ 0 = omega arith in
      let some : 1 ≤ n = omega (arith, proper.1) in
      let s : size_of r ≡ 0 = no_product n (size_of r) some (omega arith) in (
        x,
        rounds_of_nothing (Implements t r) (nothing r proper.0 s) (suc m) x,
        subst (λ c. Optional t (Implements t r) c x x) (sym z) refl,
      )
    where
      no_product : (n s : ℕ) → 1 ≤ n → n * s ≡ 0 → s ≡ 0
      no_product zero s h e = absurd (omega arith)
      no_product (suc n) s h e = omega arith

-- a copy that added no state stands for all that are left
pub rest_added : (t u v : List State) (r : Pattern) (c n e k x : ℕ) → IsProper r → c < n → AddedCopies t u r c k x
    → Added u v r e k
    → length v ≡ length u → AddedCopies t v r n e x
rest_added t u v r c n e k x proper less copies one same =
    let s : size_of r ≡ 0 = omega (arith, one.size) in
    let all = copy_added t u v r c e k x copies one in
    more (n - (c + 1)) n (omega arith) s all
  where
    none : (n s : ℕ) → s ≡ 0 → n * s ≡ 0
    none n s z = rw z (omega arith)

    longer : (d : ℕ) → Chain (Implements v r) (c + 1) e x → size_of r ≡ 0 → Chain (Implements v r) (d + (c + 1)) e x
    longer zero h s = let z : zero + (c + 1) ≡ c + 1 = omega arith in rw z h
    longer (suc d) h s =
        let z : suc d + (c + 1) ≡ suc (d + (c + 1)) = omega arith in
        rw z (e, nothing v r proper s e, longer d h s)

    more : (d n : ℕ) → n ≡ d + (c + 1) → size_of r ≡ 0 → AddedCopies t v r (c + 1) e x → AddedCopies t v r n e x
    more d n is s all = record {
      implements = rw is (longer d all.implements s);
      keeps = all.keeps;
      plain = all.plain;
      tidy = all.tidy;
      inside = all.inside;
      size = omega (arith, all.size, none n (size_of r) s, none (c + 1) (size_of r) s);
    }
