-- How the states of a tree are made from its end to its begin.
use Rattle.std.proofs.Common.{◌≡◌, ◌≢◌, ℕ, suc, ◌+◌, ◌-◌, ◌*◌, ◌<◌, ◌≤◌, List, length, set, Option, Some, None, refl}
use Rattle.std.proofs.Common.{sym, ap, ◌∙◌, subst, arith, length-set}
use Rattle.std.specs.Prelude.{slice_get, All, Result, IfOk}
use Rattle.std.proofs.lemmas.List.Elements.{All-set}
use Rattle.std.proofs.lemmas.Option.{slice_get_within}
use Rattle.std.proofs.lemmas.Result.{IfOk-weaker}
use Rattle.pg_pattern.specs.Matches.{Chain}
use Rattle.pg_pattern.specs.Patterns.{IsProper, Pattern, Cat, Alt, Rep}
use Rattle.pg_match.specs.Sizes.{size_of}
use Rattle.pg_match.specs.Automata.{target_below, IsTidy}
use Rattle.pg_match.specs.Tables.{Optional, Implements, KeepsStates, NoAccept, KeepsWritten, Pushed, Added, AddedCopies}
use Rattle.pg_match.specs.Tables.{AddedOptional}
use Rattle.pg_match.specs.Gaps.{IsHole, IsGap, IsFilled, Finished, LeadsByHole, HasGap, Narrowed}
use Rattle.pg_match.specs.declared.build.Gap.{Gap}
use Rattle.pg_match.specs.declared.build.Hole.{Hole}
use Rattle.pg_match.specs.declared.state.State.{State}
use Rattle.pg_match.specs.declared.state.State.TheVariants.{Fail, Accept, Split}
use Rattle.pg_match.proofs.TableLemmas.{plain_trans, keeps_trans, written, chain_kept, optional_kept, implements_kept}
use Rattle.pg_match.proofs.TableLemmas.{set_is, set_other, set_written, set_plain, pushed_length, pushed_keeps}
use Rattle.pg_match.proofs.TableLemmas.{pushed_is, pushed_tidy, pushed_plain, one_added, nothing}

-- each table that has a part in the gap, from the state e on, has the whole, which goes on at the state x
abbrev pub Completes : List State → Gap → Pattern → Pattern → ℕ → Type 0
Completes t g part whole x =
    (new : List State) (e w : ℕ) → KeepsWritten t new → Implements new part e g.next → LeadsByHole new g.hole e w
    → Implements new whole w x

written_trans : (a b c : List State) → KeepsWritten a b → KeepsWritten b c → KeepsWritten a c
written_trans a b c f g q s other h = g q s other (f q s other h)

pub hole_any : (n : ℕ) (t : List State) (h : Option Hole) → IsHole n t h → IsHole 0 t h
hole_any n t None x = tt
hole_any n t (Some h) x = (omega arith, x.1, x.2, x.3)

pub gap_any : (n : ℕ) (t : List State) (g : Gap) → IsGap n t g → IsGap 0 t g
gap_any n t g x = record { tidy = x.tidy; next_in = x.next_in; hole_in = hole_any n t g.hole x.hole_in }

pub hole_kept : (n : ℕ) (t u : List State) (h : Option Hole) → KeepsStates t u → length t ≤ length u → IsHole n t h
    → IsHole n u h
hole_kept n t u None keeps le hole = tt
hole_kept n t u (Some h) keeps le hole = (
  hole.0,
  keeps h.place Fail hole.1,
  omega (arith, hole.2),
  omega (arith, hole.3),
)

-- what filling a hole leaves
module _ (old new : List State) where
  filled_length : (h : Option Hole) (e w : ℕ) → IsFilled old new h e w → length new ≡ length old
  filled_length None e w f = ap length f.0
  filled_length (Some h) e w f = ap length f.0 ∙ length-set old h.place (Split e h.second)

  filled_written : (n : ℕ) (h : Option Hole) (e w : ℕ) → IsHole n old h → IsFilled old new h e w → KeepsWritten old new
  filled_written n None e w hole f = rw (f.0) (λ q s other g. g)
  filled_written n (Some h) e w hole f = rw (f.0) (set_written old h.place (Split e h.second) hole.1)

  filled_plain : (n : ℕ) (h : Option Hole) (e w : ℕ) → IsHole n old h → IsFilled old new h e w → NoAccept old new
  filled_plain n None e w hole f = rw (f.0) (λ q g. g)
  filled_plain n (Some h) e w hole f =
      rw (f.0) (set_plain old h.place (Split e h.second) (slice_get_within old h.place Fail hole.1) (λ z. cc))

  filled_tidy : (n : ℕ) (h : Option Hole) (e w : ℕ) → IsHole n old h → e < length old → IsTidy old
      → IsFilled old new h e w → IsTidy new
  filled_tidy n None e w hole e_in tidy f = rw (f.0) tidy
  filled_tidy n (Some h) e w hole e_in tidy f =
      let same = length-set old h.place (Split e h.second) in
      let below : target_below (length old) (Split e h.second) = (e_in, hole.2) in
      rw (f.0)
      (subst (λ n. All (target_below n) (set old h.place (Split e h.second))) (sym same)
      (All-set (target_below (length old)) old h.place (Split e h.second) below tidy))

  filled_leads : (n : ℕ) (h : Option Hole) (e w : ℕ) → IsHole n old h → IsFilled old new h e w → LeadsByHole new h e w
  filled_leads n None e w hole f = f.1
  filled_leads n (Some h) e w hole f =
      (f.1, rw (f.0) (set_is old h.place (Split e h.second) (slice_get_within old h.place Fail hole.1)))

  filled_inside : (n : ℕ) (h : Option Hole) (e w : ℕ) → IsHole n old h → e < length old → IsFilled old new h e w
      → w < length new
  filled_inside n None e w hole e_in f = let len = filled_length None e w f in omega (arith, len, f.1)
  filled_inside n (Some h) e w hole e_in f = let len = filled_length (Some h) e w f in omega (arith, len, f.1, hole.3)

  filled_keeps : (first : List State) (h : Option Hole) (e w : ℕ) → IsHole (length first) old h → IsFilled old new h e w
      → KeepsStates first old → KeepsStates first new
  filled_keeps first None e w hole f keeps = rw (f.0) keeps
  filled_keeps first (Some h) e w hole f keeps = rw (f.0) (λ q s g.
      let q_in : q < length first = slice_get_within first q s g in
      let other : q ≢ h.place = omega (arith, hole.0) in
      set_other old h.place q (Split e h.second) s other (keeps q s g))

  -- a state behind the table that had the hole stays as it is
  filled_other : (n : ℕ) (t : List State) (h : Option Hole) (e w q : ℕ) (s : State) → IsHole n t h → length t ≤ q
      → IsFilled old new h e w → slice_get old q ≡ Some s → slice_get new q ≡ Some s
  filled_other n t None e w q s hole behind f is = rw (f.0) is
  filled_other n t (Some h) e w q s hole behind f is =
      let place_in : h.place < length t = slice_get_within t h.place Fail hole.1 in
      let other : q ≢ h.place = omega arith in
      rw (f.0) (set_other old h.place q (Split e h.second) s other is)

leads_kept : (t u : List State) (h : Option Hole) (e w v : ℕ) → KeepsWritten t u → LeadsByHole t h e w → v ≡ w
    → LeadsByHole u h e v
leads_kept t u None e w v keeps l same = same ∙ l
leads_kept t u (Some h) e w v keeps l same = (same ∙ l.0, keeps h.place (Split e h.second) (λ z. cc) l.1)

-- the table grew
record Grew (t u : List State) : Type 0 where
  keeps : KeepsStates t u
  plain : NoAccept t u
  tidy : IsTidy u
  longer : length t ≤ length u

grew_trans : (t u v : List State) → Grew t u → Grew u v → Grew t v
grew_trans t u v a b = record {
  keeps = keeps_trans t u v a.keeps b.keeps;
  plain = plain_trans t u v a.plain b.plain;
  tidy = b.tidy;
  longer = omega (arith, a.longer, b.longer);
}

grew_pushed : (t u : List State) (e : ℕ) → IsTidy t → Pushed t u Fail e → Grew t u
grew_pushed t u e tidy p =
    let len = pushed_length t u Fail e p in
    record {
      keeps = pushed_keeps t u Fail e p;
      plain = pushed_plain t u Fail e p (λ z. cc);
      tidy = pushed_tidy t u Fail e p tidy tt;
      longer = omega (arith, len);
    }

grew_added : (t u : List State) (r : Pattern) (e x : ℕ) → Added t u r e x → Grew t u
grew_added t u r e x a = record { keeps = a.keeps; plain = a.plain; tidy = a.tidy; longer = omega (arith, a.size) }

grew_copies : (t u : List State) (r : Pattern) (c e x : ℕ) → AddedCopies t u r c e x → Grew t u
grew_copies t u r c e x a = record { keeps = a.keeps; plain = a.plain; tidy = a.tidy; longer = omega (arith, a.size) }

grew_optional : (t u : List State) (r : Pattern) (c e x : ℕ) → AddedOptional t u r c e x → Grew t u
grew_optional t u r c e x a = record { keeps = a.keeps; plain = a.plain; tidy = a.tidy; longer = omega (arith, a.size) }

-- the gap's end moves
has_moved : (first t u : List State) (g : Gap) (k : ℕ) → HasGap first t g → Grew t u → k < length u
    → HasGap first u (record { hole = g.hole; next = k })
has_moved first t u g k has grew k_in = record {
  keeps = keeps_trans first t u has.keeps grew.keeps;
  plain = plain_trans first t u has.plain grew.plain;
  longer = omega (arith, has.longer, grew.longer);
  gap_in = record {
    tidy = grew.tidy;
    next_in = k_in;
    hole_in = hole_kept (length first) t u g.hole grew.keeps grew.longer has.gap_in.hole_in;
  };
}

pub has_cat : (first t u : List State) (g : Gap) (b : Pattern) (k : ℕ) → HasGap first t g → Added t u b k g.next
    → HasGap first u (record { hole = g.hole; next = k })
has_cat first t u g b k has one = has_moved first t u g k has (grew_added t u b k g.next one) one.inside

pub completes_cat : (t u : List State) (g : Gap) (a b whole : Pattern) (k x : ℕ) → Completes t g (Cat a b) whole x
    → Added t u b k g.next
    → Completes u (record { hole = g.hole; next = k }) a whole x
completes_cat t u g a b whole k x c one new e w keeps part leads =
    let all = written_trans t u new (written t u one.keeps) keeps in
    c new e w all (k, part, implements_kept u new keeps b k g.next one.implements) leads

-- the gap is narrowed once more
pub completes_narrowed : (t u : List State) (g h : Gap) (whole some part : Pattern) (x : ℕ) → Completes t g some whole x
    → Narrowed t u g h some part → Completes u h part whole x
completes_narrowed t u g h whole some part x c n new e w keeps is leads =
    let more = n.completes new e w keeps is leads in
    c new more.0 w (written_trans t u new n.written keeps) more.1 more.2

-- the gap gets what it lacks
pub finished : (first t u v : List State) (g : Gap) (whole part : Pattern) (e w x : ℕ) → HasGap first t g
    → Completes t g part whole x
    → Added t u part e g.next → IsFilled u v g.hole e w → length t + size_of part ≡ length first + size_of whole
    → Added first v whole w x
finished first t u v g whole part e w x has c one filled size =
    let grew = grew_added t u part e g.next one in
    let hole = hole_kept (length first) t u g.hole grew.keeps grew.longer has.gap_in.hole_in in
    let last = filled_written u v (length first) g.hole e w hole filled in
    let len = filled_length u v g.hole e w filled in
    record {
      implements = c v e w (written_trans t u v (written t u one.keeps) last)
          (implements_kept u v last part e g.next one.implements)
          (filled_leads u v (length first) g.hole e w hole filled);
      keeps = filled_keeps u v first g.hole e w hole filled (keeps_trans first t u has.keeps one.keeps);
      plain = plain_trans first u v (plain_trans first t u has.plain one.plain)
          (filled_plain u v (length first) g.hole e w hole filled);
      tidy = filled_tidy u v (length first) g.hole e w hole one.inside one.tidy filled;
      inside = filled_inside u v (length first) g.hole e w hole one.inside filled;
      size = omega (arith, len, one.size, size);
    }

-- a pattern of size 0 gets no states
pub nothing_added : (t : List State) (r : Pattern) (x : ℕ) → IsProper r → size_of r ≡ 0 → IsTidy t → x < length t
    → Added t t r x x
nothing_added t r x proper none tidy inside = record {
  implements = nothing t r proper none x;
  keeps = λ q s h. h;
  plain = λ q h. h;
  tidy = tidy;
  inside = inside;
  size = omega (arith, none);
}

-- the gap before the first of the states that a hole at s is to lead to
abbrev pub at_hole : ℕ → ℕ → ℕ → ℕ → Gap
at_hole s m w k = record { hole = Some (record { place = s; second = m; entry = w }); next = k }

-- a table grew, and its hole was made to lead to e
module _ (t u v : List State) (g : Gap) (e w : ℕ) (is : IsGap 0 t g) (grew : Grew t u)
    (filled : IsFilled u v g.hole e w) where
  opened_written : KeepsWritten t v
  opened_written =
      let hole = hole_kept 0 t u g.hole grew.keeps grew.longer is.hole_in in
      written_trans t u v (written t u grew.keeps) (filled_written u v 0 g.hole e w hole filled)

  opened_leads : (new : List State) (v' : ℕ) → KeepsWritten v new → v' ≡ w → LeadsByHole new g.hole e v'
  opened_leads new v' keeps same =
      let hole = hole_kept 0 t u g.hole grew.keeps grew.longer is.hole_in in
      leads_kept v new g.hole e w v' keeps (filled_leads u v 0 g.hole e w hole filled) same

  opened_has : (s m k : ℕ) → e < length u → m < length u → k < length u → length t ≤ s → slice_get u s ≡ Some Fail
      → (first : List State) → HasGap first t g → HasGap first v (at_hole s m w k)
  opened_has s m k e_in m_in k_in behind fails first has =
      let n = length first in
      let hole : IsHole n u g.hole = hole_kept n t u g.hole grew.keeps grew.longer has.gap_in.hole_in in
      let len = filled_length u v g.hole e w filled in
      let fails' = filled_other u v n t g.hole e w s Fail has.gap_in.hole_in behind filled fails in
      record {
        keeps = filled_keeps u v first g.hole e w hole filled (keeps_trans first t u has.keeps grew.keeps);
        plain = plain_trans first u v (plain_trans first t u has.plain grew.plain)
            (filled_plain u v n g.hole e w hole filled);
        longer = omega (arith, has.longer, grew.longer, len);
        gap_in = record {
          tidy = filled_tidy u v n g.hole e w hole e_in grew.tidy filled;
          next_in = omega (arith, len);
          hole_in = (
            omega (arith, has.longer),
            fails',
            omega (arith, len),
            filled_inside u v n g.hole e w hole e_in filled,
          );
        };
      }

-- the hole is at a state, and its second one is known
pub narrowed_at : (t u : List State) (g : Gap) (h : Hole) (s m k : ℕ) (whole part : Pattern) → h.place ≡ s
    → h.second ≡ m
    → Narrowed t u g (at_hole s m h.entry k) whole part → Narrowed t u g (record { hole = Some h; next = k }) whole part
narrowed_at t u g h s m k whole part place second n =
    let same : record { place = s; second = m; entry = h.entry } ≡ h = rw (← place, ← second) refl in
    subst (λ (h : Hole). Narrowed t u g (record { hole = Some h; next = k }) whole part) same n

pub choice_narrowed : (t u v z : List State) (a b : Pattern) (g : Gap) (m s w : ℕ) → IsGap 0 t g → Added t u b m g.next
    → Pushed u v Fail s
    → IsFilled v z g.hole s w → Narrowed t z g (at_hole s m w g.next) (Alt a b) a
choice_narrowed t u v z a b g m s w is one push filled =
    let len = pushed_length u v Fail s push in
    let push' = grew_pushed u v s one.tidy push in
    let grew = grew_trans t u v (grew_added t u b m g.next one) push' in
    let length' = filled_length v z g.hole s w filled in
    record {
      has = opened_has t v z g s w is grew filled s m g.next (omega (arith, len, push.place))
          (omega (arith, len, one.inside))
          (omega (arith, is.next_in, grew.longer)) (omega (arith, push.place, one.size)) (pushed_is u v Fail s push);
      written = opened_written t v z g s w is grew filled;
      completes = λ new e w' keeps part leads.
          let hole = hole_kept 0 t v g.hole grew.keeps grew.longer is.hole_in in
          let over = written_trans u v new (written u v push'.keeps)
          (written_trans v z new (filled_written v z 0 g.hole s w hole filled) keeps) in (
            s,
            (e, m, leads.1, part, implements_kept u new over b m g.next one.implements),
            opened_leads t v z g s w is grew filled new w' keeps (leads.0),
          );
      size = omega (arith, len, length', one.size);
    }

pub loop_narrowed : (t u v z : List State) (r : Pattern) (n : ℕ) (g : Gap) (s k w : ℕ) → IsGap 0 t g → Pushed t u Fail s
    → AddedCopies u v r n k s → IsFilled v z g.hole k w → Narrowed t z g (at_hole s g.next w s) (Rep r n None) r
loop_narrowed t u v z r n g s k w is push some filled =
    let len = pushed_length t u Fail s push in
    let grew = grew_trans t u v (grew_pushed t u s is.tidy push) (grew_copies u v r n k s some) in
    let length' = filled_length v z g.hole k w filled in
    record {
      has = opened_has t v z g k w is grew filled s g.next s some.inside (omega (arith, is.next_in, grew.longer))
          (omega (arith, push.place, len, some.size)) (omega (arith, push.place))
          (some.keeps s Fail (pushed_is t u Fail s push));
      written = opened_written t v z g k w is grew filled;
      completes = λ new e w' keeps part leads.
          let hole = hole_kept 0 t v g.hole grew.keeps grew.longer is.hole_in in
          let over = written_trans v z new (filled_written v z 0 g.hole k w hole filled) keeps in
          let kept = implements_kept v new over r in (
            k,
            (s, chain_kept (Implements v r) (Implements new r) kept n k s some.implements, (e, leads.1, part)),
            opened_leads t v z g k w is grew filled new w' keeps (leads.0),
          );
      size = omega (arith, len, length', some.size);
    }

-- of some copies one stands apart, and so many are in front of it
pub shared : (n c b z : ℕ) → n + suc c ≡ b → n * z + c * z + z ≡ b * z
shared n c b z sum = rw (← sum) (omega arith)

pub hole_behind_options : (t u v y : List State) (r : Pattern) (n c : ℕ) (g : Gap) (j s k : ℕ) → IsGap 0 t g
    → AddedOptional t u r c j g.next
    → Pushed u v Fail s → AddedCopies v y r n k s → IsHole 0 y g.hole
hole_behind_options t u v y r n c g j s k is few push some =
    let a = hole_kept 0 t u g.hole few.keeps (omega (arith, few.size)) is.hole_in in
    let b = hole_kept 0 u v g.hole (pushed_keeps u v Fail s push) (omega (arith, pushed_length u v Fail s push)) a in
    hole_kept 0 v y g.hole some.keeps (omega (arith, some.size)) b

pub option_narrowed : (t u v y z : List State) (r : Pattern) (n b c : ℕ) (g : Gap) (j s k w : ℕ) → b - n ≡ suc c → n ≤ b
    → IsGap 0 t g
    → AddedOptional t u r c j g.next → Pushed u v Fail s → AddedCopies v y r n k s → IsFilled y z g.hole k w
    → Narrowed t z g (at_hole s g.next w j) (Rep r n (Some b)) r
option_narrowed t u v y z r n b c g j s k w more le is few push some filled =
    let len = pushed_length u v Fail s push in
    let push' = grew_pushed u v s few.tidy push in
    let grew1 = grew_trans t u v (grew_optional t u r c j g.next few) push' in
    let grew = grew_trans t v y grew1 (grew_copies v y r n k s some) in
    let length' = filled_length y z g.hole k w filled in
    record {
      has = opened_has t y z g k w is grew filled s g.next j some.inside (omega (arith, is.next_in, grew.longer))
          (omega (arith, few.inside, len, some.size)) (omega (arith, push.place, few.size))
          (some.keeps s Fail (pushed_is u v Fail s push));
      written = opened_written t y z g k w is grew filled;
      completes = λ new e w' keeps part leads.
          let hole = hole_kept 0 t y g.hole grew.keeps grew.longer is.hole_in in
          let over = written_trans y z new (filled_written y z 0 g.hole k w hole filled) keeps in
          let kept = implements_kept y new over r in
          let over' = written_trans u v new (written u v push'.keeps)
          (written_trans v y new (written v y some.keeps) over) in
          let kept' = implements_kept u new over' r in
          let rest : Optional new (Implements new r) (b - n) s g.next =
          rw more (
            e,
            j,
            leads.1,
            part,
            optional_kept u new over' (Implements u r)
                (Implements new r) kept' c j g.next few.implements,
          ) in (
            k,
            (s, chain_kept (Implements y r) (Implements new r) kept n k s some.implements, rest),
            opened_leads t y z g k w is grew filled new w' keeps (leads.0),
          );
      size = let all = shared n c b (size_of r) (omega arith) in omega (arith, len, length', few.size, some.size, all);
    }

pub copies_narrowed : (t u : List State) (r : Pattern) (n b c : ℕ) (g : Gap) (k : ℕ) → b ≡ suc c → b ≡ n
    → AddedCopies t u r c k g.next
    → Narrowed t u g (record { hole = g.hole; next = k }) (Rep r n (Some b)) r
copies_narrowed t u r n b c g k more same some = record {
  has = λ first has. has_moved first t u g k has (grew_copies t u r c k g.next some) some.inside;
  written = written t u some.keeps;
  completes = λ new e w keeps part leads.
      let kept = implements_kept u new keeps r in
      let none : b - n ≡ 0 = omega arith in
      let all : n ≡ suc c = omega arith in
      let chain : Chain (Implements new r) n e g.next =
      rw all (k, part, chain_kept (Implements u r) (Implements new r) kept c k g.next some.implements) in
      (e, (g.next, chain, subst (λ d. Optional new (Implements new r) d g.next g.next) (sym none) refl), leads);
  size = let all = shared 0 c b (size_of r) (omega arith) in omega (arith, some.size, all);
}

-- the gap gets one state
pub finished_leaf : {E : Type 0} (first t v : List State) (g : Gap) (whole r leaf : Pattern) (s : State) (x : ℕ)
    (o : Result ℕ E)
    → HasGap first t g → Completes t g r whole x → length t + size_of r ≡ length first + size_of whole → r ≡ leaf
    → target_below (length t) s → ((u : List State) (e : ℕ) → slice_get u e ≡ Some s → Implements u leaf e g.next)
    → size_of leaf ≡ 1
    → s ≢ Accept → IfOk o (Finished t v g.hole s) → IfOk o (λ w. Added first v whole w x)
finished_leaf first t v g whole r leaf s x o has c size same below is one other h =
    IfOk-weaker o (Finished t v g.hole s) (λ w. Added first v whole w x) (λ w f.
    let part = one_added t f.0 s leaf f.1 g.next f.2 has.gap_in.tidy below (is f.0 f.1) one other in
    finished first t f.0 v g whole r f.1 w x has c (rw same part) f.3 size) h
