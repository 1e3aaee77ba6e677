-- What is left of a walk, step by step.
use Rattle.std.proofs.Common.{ℕ, zero, suc, ◌≡◌, ◌<◌, ◌≤◌, ◌+◌, ◌-◌, ◌↔◌, Bool, List, [], ◌∷◌, ◌++◌, map}
use Rattle.std.proofs.Common.{length, take, drop, reverse, get_or, Option, Some, refl, sym, ap}
use Rattle.std.proofs.Common.{◌∙◌, subst, take_all, append_assoc, append-nil, arith}
use Rattle.std.proofs.lemmas.List.{at_drop_more, at_drop_all, map-append, reverse-append}
use Rattle.std.specs.List.{Contains}
use Rattle.std.specs.Ordering.{nat_cmp}
use Rattle.std.specs.Cmp.Lexicographic.{slice_cmp}
use Rattle.pg_walk.specs.Answers.{Path, Content, Answers}
use Rattle.pg_walk.specs.Scopes.{Scope, Sights, sights}
use Rattle.pg_walk.specs.Items.{Found}
use Rattle.pg_walk.specs.Places.{Names, child}
use Rattle.pg_walk.specs.Walks.{place_cmp, Ascending, ItemsOf, FilesOf}
use Rattle.pg_walk.specs.Descent.{InsideGives}
use Rattle.pg_walk.proofs.Joins.{Adds}
use Rattle.pg_walk.specs.Within.{FollowOperands}
use Rattle.pg_walk.specs.Left.{Spot, Operand, Entry, AreLeft, MayBeLeft, MayGive, shown, Unfolds, UnfoldsWithin}
use Rattle.pg_walk.specs.Left.{spot_of, spots_in, spot_gives, BeginsWalk, HasGiven, IsWalk}
use Rattle.pg_walk.specs.declared.walker.WaitingPath.{WaitingPath}
use Rattle.pg_walk.proofs.Steps.{some_more, some_all, SomeGive, first_none, first_more, first_all}
use Rattle.pg_walk.proofs.Steps.{FirstGive}
use Rattle.pg_walk.proofs.Exists.{some_left}
use Rattle.pg_walk.proofs.WithinLemmas.{some_within, whole_within}

-- a place with nothing below it
pub unfolds_leaf : (a : Sights) (r : Bool) (gives : Names → Found → Type 0) (o : Option Found) (spots : List Spot)
    → Adds gives [] (shown o) → Unfolds a r gives o spots spots
unfolds_leaf a r gives o spots h rest left = (h.items, rest, h.are, left, ap (λ t. t ++ rest) h.joined)

pub unfolds_as : (a : Sights) (r : Bool) (G H : Names → Found → Type 0) (o : Option Found) (old new : List Spot)
    → ((items : List Found) → Adds G [] items → Adds H [] items) → Unfolds a r G o old new → Unfolds a r H o old new
unfolds_as a r G H o old new to h rest left =
    let u = h rest left in
    let x = to u.0 (record { items = u.0; are = u.2; joined = refl }) in
    (x.items, u.1, x.are, u.3, u.4 ∙ ap (λ t. t ++ u.1) x.joined)

-- the entries of a directory, from one of them on, and then others
below_left : (a : Sights) (r : Bool) (depth : ℕ) (path : Path) (f : Content) (xs : List Path) (spots : List Spot)
    → Ascending (slice_cmp nat_cmp) xs → (n k : ℕ) → n + k ≡ length xs → (rest : List Found)
    → AreLeft a r (map (λ x. Entry (child path x) (depth + 1)) (drop k xs) ++ spots) rest → (old : List Found)
    → Adds (SomeGive a depth path f (take k xs)) [] old
    → (new : List Found) × (more : List Found) × Adds (SomeGive a depth path f xs) [] new × AreLeft a r spots more
    × (old ++ rest ≡ new ++ more)
below_left a r depth path f xs spots up zero k e rest left old h =
    let Q : List Found → List Path → Type 0 = λ t ys. Adds (SomeGive a depth path f ys) [] old in
    let all : take k xs ≡ xs = take_all k xs (omega arith) in
    let none : drop k xs ≡ [] = at_drop_all (λ ys. ys) xs k (omega arith) in
    let P : List Path → Type 0 = λ ys. AreLeft a r (map (λ x. Entry (child path x) (depth + 1)) ys ++ spots) rest in
    (old, rest, subst (Q rest) all h, subst P none left, refl)
below_left a r depth path f xs spots up (suc n) k e rest left old h =
    let at : Path → Spot = λ x. Entry (child path x) (depth + 1) in
    let one : drop k xs ≡ get_or xs k [] ∷ drop (k + 1) xs = at_drop_more (λ ys. ys) xs k [] (omega arith) in
    let P : List Path → Type 0 = λ ys. AreLeft a r (map at ys ++ spots) rest in
    let l = subst P one left in
    let next = some_more a depth path f xs k up (omega arith) [] old (old ++ l.0) h
    (record { items = l.0; are = l.2; joined = refl }) in
    let u = below_left a r depth path f xs spots up n (k + 1) (omega arith) l.1 l.3 (old ++ l.0) next in
    (u.0, u.1, u.2, u.3, ap (λ t. old ++ t) l.4 ∙ (sym (append_assoc old l.0 l.1) ∙ u.4))

-- a directory whose entries are left
pub unfolds_inside : (a : Sights) (r : Bool) (depth : ℕ) (path : Path) (f : Content) (xs : List Path)
    (o : Option Found) (spots : List Spot) → a.content path ≡ Some f → Ascending (slice_cmp nat_cmp) xs
    → ((n : Path) → Contains xs n ↔ Contains f.names n) → Adds (SomeGive a depth path f []) [] (shown o)
    → Unfolds a r (InsideGives a depth path) o spots (map (λ x. Entry (child path x) (depth + 1)) xs ++ spots)
unfolds_inside a r depth path f xs o spots e up same h rest left =
    let u = below_left a r depth path f xs spots up (length xs) 0 (omega arith) rest left (shown o) h in
    let x = some_all a depth path f xs e same [] u.0 u.2 in
    (x.items, u.1, x.are, u.3, u.4 ∙ ap (λ t. t ++ u.1) x.joined)

-- the operands from one of them on
first_left : (a : Sights) (r : Bool) (ops : List Path) (n k : ℕ) → n + k ≡ length ops → (rest : List Found)
    → AreLeft a r (map (λ path. Operand path) (drop k ops)) rest → (old : List Found)
    → ItemsOf place_cmp (FirstGive a ops r k) old → FilesOf a ops r (old ++ rest)
first_left a r ops zero k e rest left old h =
    let none : drop k ops ≡ [] = at_drop_all (λ ys. ys) ops k (omega arith) in
    let P : List Path → Type 0 = λ ys. AreLeft a r (map (λ path. Operand path) ys) rest in
    let Q : List Found → Type 0 = λ t. FilesOf a ops r t in
    let nil : rest ≡ [] = subst P none left in
    subst Q (sym (append-nil old) ∙ ap (λ t. old ++ t) (sym nil)) (first_all a ops r k old (omega arith) h)
first_left a r ops (suc n) k e rest left old h =
    let at : Path → Spot = λ path. Operand path in
    let one : drop k ops ≡ get_or ops k [] ∷ drop (k + 1) ops = at_drop_more (λ ys. ys) ops k [] (omega arith) in
    let P : List Path → Type 0 = λ ys. AreLeft a r (map at ys) rest in
    let l = subst P one left in
    let next = first_more a ops r k old (old ++ l.0) h (record { items = l.0; are = l.2; joined = refl }) in
    let Q : List Found → Type 0 = λ t. FilesOf a ops r t in
    subst Q (append_assoc old l.0 l.1 ∙ ap (λ t. old ++ t) (sym l.4))
    (first_left a r ops n (k + 1) (omega arith) l.1 l.3 (old ++ l.0) next)

-- what is left at first is what the walk gives
pub whole_left : (a : Sights) (r : Bool) (ops : List Path) (items : List Found)
    → AreLeft a r (map (λ path. Operand path) ops) items → FilesOf a ops r items
whole_left a r ops items left =
    first_left a r ops (length ops) 0 (omega arith) items left [] (first_none a ops r)

pub spots_more : {A : Type 0} (xs : List (WaitingPath A)) (x : WaitingPath A) →
    spots_in (xs ++ x ∷ []) ≡ spot_of x ∷ spots_in xs
spots_more xs x = ap reverse (map-append spot_of xs (x ∷ [])) ∙ reverse-append (map spot_of xs) (spot_of x ∷ [])

-- one more path is put in front of those that wait
pub pushed : {A X : Type 0} (at : Path → Spot) (text : X → Path) (xs : List X) (old new : List (WaitingPath A))
    (w : WaitingPath A) (x : X) (base : List Spot) (left : ℕ) → 0 < left → left ≤ length xs → new ≡ old ++ w ∷ []
    → spot_of w ≡ at (text x) → x ≡ get_or xs (left - 1) x
    → spots_in old ≡ map at (map text (drop left xs)) ++ base
    → spots_in new ≡ map at (map text (drop (left - 1) xs)) ++ base
pushed at text xs old new w x base left some within push is here before =
    let k = left - 1 in
    let next : left ≡ k + 1 = omega arith in
    ap spots_in push ∙ (spots_more old w ∙ (ap (λ t. spot_of w ∷ t) before
    ∙ (ap (λ s. s ∷ map at (map text (drop left xs)) ++ base) is
    ∙ (ap (λ j. at (text x) ∷ map at (map text (drop j xs)) ++ base) next
    ∙ (ap (λ y. at (text y) ∷ map at (map text (drop (k + 1) xs)) ++ base) here
    ∙ sym (at_drop_more (λ l. map at (map text l) ++ base) xs k x (omega arith)))))))

-- a walk that has given nothing yet
pub given_none : (tells : Type 0) (a : Answers) (ops : List Path) (s : Scope) (spots : List Spot)
    → spots ≡ map (λ path. Operand path) ops → HasGiven tells a ops s [] spots
given_none tells a ops s spots e = record {
  gives = λ t rest left.
      whole_left (sights s a) s.recursive ops rest
      (let L : List Spot → Type 0 = λ ss. AreLeft (sights s a) s.recursive ss rest in subst L e left);
  follows = λ rest left.
      whole_within s ops rest (let L : List Spot → Type 0 = λ ss. MayBeLeft s ss rest in subst L e left);
}

-- one step of it
pub given_more : (tells : Type 0) (a : Answers) (ops : List Path) (s : Scope) (items : List Found) (o : Option Found)
    (spot : Spot) (old before after : List Spot) → HasGiven tells a ops s items old → old ≡ spot ∷ before
    → (tells → Unfolds (sights s a) s.recursive (spot_gives (sights s a) s.recursive spot) o before after)
    → UnfoldsWithin s (MayGive s spot) o before after
    → HasGiven tells a ops s (items ++ shown o) after
given_more tells a ops s items o spot old before after h e unfolds within = record {
  gives = λ t rest left.
      let L : List Spot → Type 0 = λ ss. AreLeft (sights s a) s.recursive ss (shown o ++ rest) in
      let F : List Found → Type 0 = λ all. FilesOf (sights s a) ops s.recursive all in
      subst F (sym (append_assoc items (shown o) rest))
      (h.gives t (shown o ++ rest) (subst L (sym e) (unfolds t rest left)));
  follows = λ rest left.
      let L : List Spot → Type 0 = λ ss. MayBeLeft s ss (shown o ++ rest) in
      let F : List Found → Type 0 = λ all. FollowOperands s ops all in
      subst F (sym (append_assoc items (shown o) rest))
      (h.follows (shown o ++ rest) (subst L (sym e) (within rest left)));
}

-- a step that gives nothing
pub given_same : (tells : Type 0) (a : Answers) (ops : List Path) (s : Scope) (items : List Found) (spots : List Spot)
    → HasGiven tells a ops s (items ++ []) spots → HasGiven tells a ops s items spots
given_same tells a ops s items spots h =
    let H : List Found → Type 0 = λ all. HasGiven tells a ops s all spots in
    subst H (append-nil items) h

-- the first items of a walk, and all of them
pub begins_walk : (tells : Type 0) (a : Answers) (ops : List Path) (s : Scope) (items : List Found) (spots : List Spot)
    → HasGiven tells a ops s items spots → BeginsWalk tells a ops s items
begins_walk tells a ops s items spots h =
    let rest = some_left (sights s a) s.recursive spots in
    let more = some_within s spots in
    record {
      gives = λ t. (rest.0, h.gives t rest.0 rest.1);
      follows = (more.0, h.follows more.0 more.1);
    }

pub is_walk : (tells : Type 0) (a : Answers) (ops : List Path) (s : Scope) (items : List Found) (spots : List Spot)
    → HasGiven tells a ops s items spots → spots ≡ [] → IsWalk tells a ops s items
is_walk tells a ops s items spots h e =
    let F : List Found → Type 0 = λ all. FilesOf (sights s a) ops s.recursive all in
    let G : List Found → Type 0 = λ all. FollowOperands s ops all in
    let L : List Spot → Type 0 = λ ss. AreLeft (sights s a) s.recursive ss [] in
    let M : List Spot → Type 0 = λ ss. MayBeLeft s ss [] in
    record {
      gives = λ t. subst F (append-nil items) (h.gives t [] (subst L (sym e) refl));
      follows = subst G (append-nil items) (h.follows [] (subst M (sym e) refl));
    }
