-- No two announced blocks have file and number in common, and only announced blocks are taken.
use Rattle.std.proofs.Common.{◌≡◌, ℕ, ◌+◌, ◌<◌, ◌≤◌, inl, inr, Bool, true, false, ◌&&◌, cond}
use Rattle.std.proofs.Common.{eqb, Option, Some, None, List, [], ◌∷◌, ◌++◌, length, refl, sym, ap, ◌∙◌, subst, arith}
use Rattle.std.specs.List.{AllByRecursion, find}
use Rattle.std.proofs.lemmas.Bool.{ne_eqb, cases_eq, and_left, and_right, and_parts, eqb-true, or_from}
use Rattle.std.proofs.lemmas.List.{length_push}
use Rattle.pg_selection.specs.Search.{Search}
use Rattle.pg_selection.specs.Same.{same_text}
use Rattle.pg_blocks.specs.Blocks.{BlockData}
use Rattle.pg_plan.specs.declared.answers.Arrival.{Arrival}
use Rattle.pg_plan.specs.declared.answers.Arrival.TheVariants.{Taken, Double, Stranger}
use Rattle.pg_plan.specs.Plan.{Step, Opens, Announces, Ends, Misses, IsShaped, IsNextOfFile}
use Rattle.pg_plan.specs.Plan.{opened, announced, last_blocks}
use Rattle.pg_plan.specs.History.{Event, Planned, Arrived, plan_of, taken_of, taken_after, arrival_at}
use Rattle.pg_plan.specs.History.{is_block, is_taken}
use Rattle.pg_plan.proofs.ArrivalLaws.{IsBelow, all_below}

pub find_passes : {X : Type 0} (p : X → Bool) (xs : List X) (x : X) → find p xs ≡ Some x → p x ≡ true
find_passes p [] x e = cc
find_passes p (y ∷ ys) x e = go (p y) refl e (find_passes p ys x)
  where
    go : (t : Bool) → p y ≡ t → cond t (Some y) (find p ys) ≡ Some x → (find p ys ≡ Some x → p x ≡ true) → p x ≡ true
    go true h f ih = let s : y ≡ x = cc in ap p (sym s) ∙ h
    go false h f ih = ih f

find_holds : (P : BlockData → Type 0) (p : BlockData → Bool) (xs : List BlockData) (x : BlockData)
    → AllByRecursion P xs → find p xs ≡ Some x → P x
find_holds P p [] x h e = absurd (cc)
find_holds P p (y ∷ ys) x h e = go (p y) e (find_holds P p ys x h.1)
  where
    of_same : y ≡ x → P y → P x
    of_same s py = subst P s py

    go : (t : Bool) → cond t (Some y) (find p ys) ≡ Some x → (find p ys ≡ Some x → P x) → P x
    go true f ih = of_same (cc) h.0
    go false f ih = ih f

pub is_other : (f k : ℕ) (b : BlockData) → (b.file ≡ f → b.number ≡ k → ⊥) → is_block f k b ≡ false
is_other f k b h = elim (cases_eq b.file f) [
  | inl same ↦ and_right (eqb b.file f) (eqb b.number k) (ne_eqb b.number k (λ e. h same e))
  | inr other ↦ and_left (eqb b.file f) (eqb b.number k) (ne_eqb b.file f other)
]

-- blocks of which no two have file and number in common
abbrev pub AreApart : List BlockData → Type 0
AreApart [] = Unit {0}
AreApart (b ∷ bs) = AllByRecursion (λ c. c.file ≡ b.file → c.number ≡ b.number → ⊥) bs × AreApart bs

all_push : (P : BlockData → Type 0) (bs : List BlockData) (b : BlockData) → AllByRecursion P bs → P b
    → AllByRecursion P (bs ++ b ∷ [])
all_push P [] b h p = (p, tt)
all_push P (x ∷ bs) b h p = (h.0, all_push P bs b h.1 p)

apart_push : (p : List Step) (bs : List BlockData) (c : BlockData) → AreApart bs → AllByRecursion (IsBelow p) bs
    → c.file + 1 ≡ opened p → c.number ≡ length (last_blocks p) → AreApart (bs ++ c ∷ [])
apart_push p [] c h i file number = (tt, tt)
apart_push p (b ∷ bs) c h i file number = (
  all_push (λ x. x.file ≡ b.file → x.number ≡ b.number → ⊥) bs c h.0
      (λ e f. let n = i.0.1 (omega (arith, e, file)) in omega (arith, f, number)),
  apart_push p bs c h.1 i.1 file number,
)

pub announced_apart : (end : ℕ) (p : List Step) → IsShaped end p → AreApart (announced p)
announced_apart end [] h = tt
announced_apart end (Opens name ∷ p) h = announced_apart end p h.1
announced_apart end (Announces b ∷ p) h =
    apart_push p (announced p) b (announced_apart end p h.1) (all_below end p h.1) h.0.file h.0.number
announced_apart end (Ends failed ∷ p) h = announced_apart end p h.1
announced_apart end (Misses name ∷ p) h = announced_apart end p h.1

-- the file was opened, and the number is below those still to come
abbrev IsKnown : List Step → (ℕ × ℕ) → Type 0
IsKnown p key = (key.0 + 1 ≤ opened p) × (key.0 + 1 ≡ opened p → key.1 < length (last_blocks p))

still_known : (s : Step) (p : List Step) (key : ℕ × ℕ) → IsKnown p key → IsKnown (s ∷ p) key
still_known (Opens name) p key h = (omega (arith, h.0), λ e. absurd (omega (arith, h.0, e)))
still_known (Announces b) p key h =
    (h.0, λ e. let n = h.1 e in omega (arith, length_push (last_blocks p) b))
still_known (Ends failed) p key h = h
still_known (Misses name) p key h = h

all_known : (s : Step) (p : List Step) (keys : List (ℕ × ℕ)) → AllByRecursion (IsKnown p) keys
    → AllByRecursion (IsKnown (s ∷ p)) keys
all_known s p [] h = tt
all_known s p (key ∷ keys) h = (still_known s p key h.0, all_known s p keys h.1)

known_by : (end : ℕ) (p : List Step) (b x : BlockData) → IsShaped end p
    → find (is_block b.file b.number) (announced p) ≡ Some x → IsKnown p (b.file, b.number)
known_by end p b x h e =
    let below = find_holds (IsBelow p) (is_block b.file b.number) (announced p) x (all_below end p h) e in
    let t = and_parts (eqb x.file b.file) (eqb x.number b.number)
    (find_passes (is_block b.file b.number) (announced p) x e) in
    let file = eqb-true x.file b.file t.0 in
    let number = eqb-true x.number b.number t.1 in
    (omega (arith, file, below.0), λ e. let n = below.1 (omega (arith, file, e)) in omega (arith, number, n))

known_after : (end : ℕ) (p : List Step) (keys : List (ℕ × ℕ)) (b : BlockData) (same : Bool) (o : Option BlockData)
    (a : Arrival) → IsShaped end p → find (is_block b.file b.number) (announced p) ≡ o
    → cond same (arrival_at o keys b) Stranger ≡ a → AllByRecursion (IsKnown p) keys
    → AllByRecursion (IsKnown p) (taken_after a b keys)
known_after end p keys b same o Double h e is known = known
known_after end p keys b same o Stranger h e is known = known
known_after end p keys b same (Some x) Taken h e is known = (known_by end p b x h e, known)
known_after end p keys b true None Taken h e is known = absurd (cc)
known_after end p keys b false None Taken h e is known = absurd (cc)

-- the blocks that were taken were announced
keys_known : (end : ℕ) (q : Search) (events : List Event) → IsShaped end (plan_of events)
    → AllByRecursion (IsKnown (plan_of events)) (taken_of q events)
keys_known end q [] h = tt
keys_known end q (Planned s ∷ events) h =
    all_known s (plan_of events) (taken_of q events) (keys_known end q events h.1)
keys_known end q (Arrived r ∷ events) h =
    known_after end (plan_of events) (taken_of q events) r.block (same_text q.text r.query)
    (find (is_block r.block.file r.block.number) (announced (plan_of events))) _ h refl refl
    (keys_known end q events h)

other_key : (p : List Step) (key : ℕ × ℕ) (b : BlockData) → IsKnown p key → b.file + 1 ≡ opened p
    → b.number ≡ length (last_blocks p) → (eqb b.file key.0 && eqb b.number key.1) ≡ false
other_key p key b h file number =
    is_other key.0 key.1 b (λ e f. let n = h.1 (omega (arith, e, file)) in omega (arith, f, number))

none_taken : (p : List Step) (keys : List (ℕ × ℕ)) (b : BlockData) → AllByRecursion (IsKnown p) keys
    → b.file + 1 ≡ opened p → b.number ≡ length (last_blocks p) → is_taken keys b ≡ false
none_taken p [] b h file number = refl
none_taken p (key ∷ keys) b h file number =
    or_from _ _ (other_key p key b h.0 file number) (none_taken p keys b h.1 file number)

-- the next block was not taken
pub next_not_taken : (end : ℕ) (q : Search) (events : List Event) (b : BlockData) → IsShaped end (plan_of events)
    → IsNextOfFile end (plan_of events) b → is_taken (taken_of q events) b ≡ false
next_not_taken end q events b h n =
    none_taken (plan_of events) (taken_of q events) b (keys_known end q events h) n.file n.number
