-- Each step of a board keeps its rule.
use Rattle.std.proofs.Common.{◌≡◌, ◌≢◌, ℕ, zero, suc, ◌+◌, ◌-◌, ◌^◌, ◌%◌, ◌<◌, ◌≤◌, Bool, true, false, List, [], ◌∷◌}
use Rattle.std.proofs.Common.{◌++◌, length, map, flat_map, replicate, drop, take, slice_index, slice_set, set, sym}
use Rattle.std.proofs.Common.{refl, ap, ◌∙◌, subst, ⊎_elim, arith, if◌then◌else◌, ◌==◌, min, append_assoc}
use Rattle.std.proofs.Common.{length-append}
use Rattle.std.proofs.lemmas.List.{length-replicate}
use mathlib.Core.Option.{none, some, some-injective, some-ne-none}
use lib.ListN.{get_elem?}
use native.Mathlib.Decide.{dec_lt}
use mathlib.Core.Logic.{dite}
use Rattle.std.proofs.lemmas.Bool.Decides.{nat_tests}
use Rattle.atomic_table.specs.Table.{State, Me, Act, Valid, carried_after, step, keeps, stepped, Allows, Splits, Joins}
use Rattle.atomic_table.specs.Table.{Final, Seen, opening}
use Rattle.atomic_table.proofs.Lists.{at_set, at_snoc}
use Rattle.pg_board.specs.declared.draws.BoardSize.{BoardSize}
use Rattle.pg_board.specs.declared.draws.Draws.{Draws}
use Rattle.pg_board.specs.declared.draws.TokenView.{TokenView}
use Rattle.pg_board.specs.Counts.{total, times, once_below}
use Rattle.pg_board.specs.Draws.{draws, all_drawn, spent_count, IsLawful, IsDraw}
use Rattle.pg_board.specs.Board.{SeatView}
use Rattle.pg_board.specs.BoardRule.{token_view, no_seats, seats_of, first_drawn, FollowsRule, KeepsBoard, DrawsOne}
use Rattle.pg_board.proofs.CountLemmas.{total_set, total-append, total_one, total_flat, length_flat, total_le}
use Rattle.pg_board.proofs.CountLemmas.{total_empty, total_replicate, total_split, length_split, once_next, min_below}
use Rattle.pg_board.proofs.CountLemmas.{min_above}

-- sums over the seats for which a token stands
abbrev seats_in : TokenView → ℕ
seats_in v = length v.seats

abbrev times_in : ℕ → TokenView → ℕ
times_in x v = total (λ d. times x d.drawn) v.seats

abbrev count_in : TokenView → ℕ
count_in v = total (λ (d : Draws). length d.drawn) v.seats

abbrev spent_in : TokenView → ℕ
spent_in v = spent_count v.seats

-- the rule in sums over the tokens
record Sums (size : BoardSize) (word : ℕ) (views : List TokenView) : Type 0 where
  pub all_seats : total seats_in views ≡ size.seats
  pub each_once : (x : ℕ) → total (times_in x) views ≡ once_below x (min word size.limit)
  pub lengths : total count_in views ≡ min word size.limit
  pub counted : word ≡ total count_in views + total spent_in views

count_drawn : (seats : List Draws) → length (all_drawn seats) ≡ total (λ (d : Draws). length d.drawn) seats
count_drawn seats = length_flat (λ (d : Draws). d.drawn) seats

pub times_drawn : (x : ℕ) (seats : List Draws)
    → times x (all_drawn seats) ≡ total (λ (d : Draws). times x d.drawn) seats
times_drawn x seats = total_flat (λ (y : ℕ). if y == x then 1 else 0) (λ (d : Draws). d.drawn) seats

over_tokens : (f : Draws → ℕ) (views : List TokenView)
    → total f (seats_of views) ≡ total (λ (v : TokenView). total f v.seats) views
over_tokens f views = total_flat f (λ (v : TokenView). v.seats) views

sums_of : (size : BoardSize) (word : ℕ) (views : List TokenView) → FollowsRule size word views → Sums size word views
sums_of size word views h =
    let counts = count_drawn (seats_of views) ∙ over_tokens (λ (d : Draws). length d.drawn) views in
    let spent = over_tokens (λ (d : Draws). if d.spent then 1 else 0) views in
    record {
      all_seats = sym (length_flat (λ (v : TokenView). v.seats) views) ∙ h.lawful.all_seats;
      each_once = λ x. sym (times_drawn x (seats_of views) ∙ over_tokens (λ (d : Draws). times x d.drawn) views)
          ∙ h.lawful.each_once x;
      lengths = sym counts ∙ h.lengths;
      counted = let c = h.lawful.counted in omega arith;
    }

keeps_of : (size : BoardSize) (word : ℕ) (views : List TokenView) → (size.limit < 2 ^ 32) × (size.seats < 2 ^ 32)
    → ((at : ℕ) (v : TokenView) → get_elem? views at ≡ some v → v.seats ≢ [] → v.size ≡ size) → Sums size word views
    → FollowsRule size word views
keeps_of size word views fits sized s =
    let counts = count_drawn (seats_of views) ∙ over_tokens (λ (d : Draws). length d.drawn) views in
    let spent = over_tokens (λ (d : Draws). if d.spent then 1 else 0) views in
    record {
      fits = fits;
      lawful = record {
        all_seats = length_flat (λ (v : TokenView). v.seats) views ∙ s.all_seats;
        each_once = λ x. times_drawn x (seats_of views) ∙ over_tokens (λ (d : Draws). times x d.drawn) views
            ∙ s.each_once x;
        counted = let c = s.counted in omega arith;
      };
      lengths = counts ∙ s.lengths;
      sized = sized;
    }

-- a token changes, and stays of this size
sized_set : (size : BoardSize) (views : List TokenView) (id : ℕ) (w : TokenView) → (w.seats ≢ [] → w.size ≡ size)
    → ((at : ℕ) (v : TokenView) → get_elem? views at ≡ some v → v.seats ≢ [] → v.size ≡ size)
    → (at : ℕ) (v : TokenView) → get_elem? (set views id w) at ≡ some v → v.seats ≢ [] → v.size ≡ size
sized_set size views id w mine others at v e =
    ⊎_elim (λ (t : (at ≡ id) × (w ≡ v)). subst (λ (u : TokenView). u.seats ≢ [] → u.size ≡ size) t.1 mine)
    (λ (t : (at ≢ id) × (get_elem? views at ≡ some v)). others at v t.1) (at_set views id at w v e)

-- new seats are lawful
pub new_seats : (size : BoardSize) → IsLawful size 0 (replicate size.seats (draws [] false))
new_seats size =
    let new : List Draws = replicate size.seats (draws [] false) in
    let counts = count_drawn new ∙ total_replicate (λ (d : Draws). length d.drawn) size.seats (draws [] false) refl in
    let spent = total_replicate (λ (d : Draws). if d.spent then 1 else 0) size.seats (draws [] false) refl in
    record {
      all_seats = length-replicate size.seats (draws [] false);
      each_once = λ x. let a = times_drawn x new
          ∙ total_replicate (λ (d : Draws). times x d.drawn) size.seats (draws [] false) refl in let b : once_below x
          (min 0 size.limit) ≡ 0 = grind (arith, nat_tests) in omega arith;
      counted = omega arith;
    }

-- a new board: all seats in one token
pub begins : (size : BoardSize) → size.limit < 2 ^ 32 → size.seats < 2 ^ 32
    → KeepsBoard size (opening (0 ∷ []) [] (token_view size (replicate size.seats (draws [] false))))
begins size limit seats =
    let new : List Draws = replicate size.seats (draws [] false) in
    let long : length new ≡ size.seats = length-replicate size.seats (draws [] false) in
    let counts = total_replicate (λ (d : Draws). length d.drawn) size.seats (draws [] false) refl in
    let spent = total_replicate (λ (d : Draws). if d.spent then 1 else 0) size.seats (draws [] false) refl in (
      0,
      refl,
      keeps_of size 0 (token_view size new ∷ []) (limit, seats) go (record {
        all_seats = omega arith;
        each_once = λ x. let a = total_replicate (λ (d : Draws). times x d.drawn) size.seats
            (draws [] false) refl in let b : once_below x (min 0 size.limit) ≡ 0 =
            grind (arith, nat_tests) in omega arith;
        lengths = omega arith;
        counted = omega arith;
      }),
    )
  where
    go : (at : ℕ) (v : TokenView) → get_elem? (token_view size (replicate size.seats (draws [] false)) ∷ []) at ≡ some v
        → v.seats ≢ [] → v.size ≡ size
    go zero v e some_seat = sym (ap (λ (u : TokenView). u.size)
        (some-injective (token_view size (replicate size.seats (draws [] false))) v e))
    go (suc at) v e some_seat = absurd (some-ne-none v (sym e))

-- one seat's draws change, and the sums with them
changes : (size : BoardSize) (n : ℕ) (views : List TokenView) (id : ℕ) (v : TokenView) (d e : Draws)
    → FollowsRule size n views → get_elem? views id ≡ some v → v.seats ≡ d ∷ []
    → ((x : ℕ) → times x e.drawn + once_below x (min n size.limit) ≡ times x d.drawn + once_below x
    (min (n + 1) size.limit))
    → length e.drawn + min n size.limit ≡ length d.drawn + min (n + 1) size.limit
    → length e.drawn + spent_count (e ∷ []) ≡ length d.drawn + spent_count (d ∷ []) + 1
    → FollowsRule size (n + 1) (set views id (token_view v.size (e ∷ [])))
changes size n views id v d e h at one once longer count =
    let w : TokenView = token_view v.size (e ∷ []) in let s = sums_of size n views h in
    let some_seat : v.seats ≢ [] = λ z. let l : ◌≡◌ {A = ℕ} 1 0 =
    ap (length {A = Draws}) (sym one ∙ z) in absurd (omega arith) in
    let counts = total_set count_in views id v w at in let spent = total_set spent_in views id v w at in let seats =
    total_set seats_in views id v w at in
    let count_v : count_in v ≡ length d.drawn + 0 = ap (total (λ (d : Draws). length d.drawn)) one in
    let spent_v : spent_in v ≡ spent_count (d ∷ []) = ap spent_count one in
    let seats_v : seats_in v ≡ 1 = ap (length {A = Draws}) one in
    keeps_of size (n + 1) (set views id w) h.fits (sized_set size views id w (λ _. h.sized id v at some_seat) h.sized)
    (record {
      all_seats = let p = s.all_seats in omega arith;
      each_once = λ x. let a = total_set (times_in x) views id v w at in let b = s.each_once x in let c =
          once x in let t : times_in x v ≡ times x d.drawn + 0 =
          ap (total (λ (d : Draws). times x d.drawn)) one in omega arith;
      lengths = let p = s.lengths in omega arith;
      counted = let p = s.counted in omega arith;
    })

-- the number n is drawn
draws_number : (size : BoardSize) (n : ℕ) (views : List TokenView) (id : ℕ) (v : TokenView) (drawn : List ℕ)
    → FollowsRule size n views → get_elem? views id ≡ some v → v.seats ≡ draws drawn false ∷ [] → n < size.limit
    → FollowsRule size (n + 1) (set views id (token_view v.size (draws (drawn ++ n ∷ []) false ∷ [])))
draws_number size n views id v drawn h at one low =
    let m = min_below n size.limit low in let longer = length-append drawn (n ∷ []) in
    changes size n views id v (draws drawn false) (draws (drawn ++ n ∷ []) false) h at one
    (λ x. let a = total-append (λ (y : ℕ). if y == x then 1 else 0) drawn (n ∷ []) in let o =
    once_next x n in let b : once_below x (min n size.limit) ≡ once_below x n = ap (once_below x) m.0 in
    let c : once_below x (min (n + 1) size.limit) ≡ once_below x (n + 1) = ap (once_below x) m.1 in omega arith)
    (omega arith)
    (omega arith)

-- no number is left, and one seat more is spent
draws_none : (size : BoardSize) (n : ℕ) (views : List TokenView) (id : ℕ) (v : TokenView) (drawn : List ℕ)
    → FollowsRule size n views → get_elem? views id ≡ some v → v.seats ≡ draws drawn false ∷ [] → size.limit ≤ n
    → FollowsRule size (n + 1) (set views id (token_view v.size (draws drawn true ∷ [])))
draws_none size n views id v drawn h at one high =
    let m = min_above n size.limit high in
    changes size n views id v (draws drawn false) (draws drawn true) h at one
    (λ x. ap (λ (k : ℕ). times x drawn + once_below x k) (m.0 ∙ sym m.1))
    (ap (λ (k : ℕ). length drawn + k) (m.0 ∙ sym m.1)) (omega arith)

-- as many seats are spent as there are seats, at most, so the word stays small
spent_few : (seats : List Draws) → spent_count seats ≤ length seats
spent_few [] = omega arith
spent_few (d ∷ seats) = let r = spent_few seats in let b : (if d.spent then 1 else 0) ≤ 1 = one d.spent in omega arith
  where
    one : (b : Bool) → (if b then 1 else 0) ≤ 1
    one true = omega arith
    one false = omega arith

pub word_low : (size : BoardSize) (n : ℕ) (views : List TokenView) → FollowsRule size n views
    → n ≤ size.limit + size.seats
word_low size n views h = let s = sums_of size n views h in let a = s.counted in let b = s.lengths in let c =
    s.all_seats in let d = total_le spent_in seats_in (λ v. spent_few v.seats) views in omega arith

-- the seats in front of a token's and behind them
abbrev Around : List TokenView → ℕ → TokenView → Type 0
Around views id v = (front : List Draws) × (back : List Draws) × (seats_of views ≡ front ++ (v.seats ++ back))
    × ((w : TokenView) → seats_of (set views id w) ≡ front ++ (w.seats ++ back))

around : (views : List TokenView) (id : ℕ) (v : TokenView) → get_elem? views id ≡ some v → Around views id v
around [] id v e = absurd (some-ne-none v (sym e))
around (x ∷ views) zero v e = (
  [],
  seats_of views,
  ap (λ (u : TokenView). u.seats ++ seats_of views) (some-injective x v e),
  λ w. refl,
)
around (x ∷ views) (suc id) v e =
    let r = around views id v e in (
      x.seats ++ r.0,
      r.1,
      ap (λ (l : List Draws). x.seats ++ l) r.2
          ∙ sym (append_assoc x.seats r.0 (v.seats ++ r.1)),
      λ w. ap (λ (l : List Draws). x.seats ++ l) (r.3 w)
          ∙ sym (append_assoc x.seats r.0 (w.seats ++ r.1)),
    )

is_draw : (size : BoardSize) (n : ℕ) (views : List TokenView) (id : ℕ) (v : TokenView) (d e : Draws)
    → FollowsRule size n views → FollowsRule size (n + 1) (set views id (token_view v.size (e ∷ [])))
    → get_elem? views id ≡ some v
    → v.seats ≡ d ∷ [] → IsDraw size n d e
is_draw size n views id v d e h k at one =
    let r = around views id v at in
    record {
      front = r.0;
      back = r.1;
      lawful_before = subst (λ (l : List Draws). IsLawful size n l)
          (r.2 ∙ ap (λ (l : List Draws). r.0 ++ (l ++ r.1)) one) h.lawful;
      lawful_after = subst (λ (l : List Draws). IsLawful size (n + 1) l) (r.3 (token_view v.size (e ∷ []))) k.lawful;
    }

small : (n : ℕ) → n < 2 ^ 33 → (n + 1) % 2 ^ 64 ≡ n + 1
small n h = omega arith

module _ (size : BoardSize) (slots id : ℕ) (me : Me (Unit {0}) TokenView)
    (one : me.0.seats ≡ draws (first_drawn me.0.seats) false ∷ []) (s : State (Unit {0}) TokenView)
    (n : ℕ) (words : s.words ≡ n ∷ []) (h : FollowsRule size n s.views) (at : get_elem? s.views id ≡ some me.0) where
  abbrev drawn : List ℕ
  drawn = first_drawn me.0.seats

  found : slice_index s.words 0 ≡ n
  found = ap (λ (l : List ℕ). slice_index l 0) words

  after : slice_set s.words 0 ((slice_index s.words 0 + 1) % 2 ^ 64) ≡ (n + 1) ∷ []
  after = ap (λ (l : List ℕ). slice_set l 0 ((slice_index l 0 + 1) % 2 ^ 64)) words
      ∙ ap (λ (k : ℕ). k ∷ []) (small n (let a = word_low size n s.views h in let b = h.fits in omega arith))

  sized : me.0.size ≡ size
  sized = h.sized id me.0 at (λ z. let l : ◌≡◌ {A = ℕ} 1 0 =
      ap (length {A = Draws}) (sym one ∙ z) in absurd (omega arith))

  limits : me.0.size.limit ≡ size.limit
  limits = ap (λ (z : BoardSize). z.limit) sized

  abbrev Goes : Type 0
  Goes = (w : TokenView) × (a : Act (Unit {0})) × Valid s.homes me.1 a
      × KeepsBoard size (stepped s 0 ((slice_index s.words 0 + 1) % 2 ^ 64) id me.1 w a)
      × DrawsOne (step slots 0 1 0 none) me (slice_index s.words 0) (w, carried_after me.1 a)

  low_goes : n < size.limit → Goes
  low_goes low =
      let e : Draws = draws (drawn ++ n ∷ []) false in
      let next = draws_number size n s.views id me.0 drawn h at one low in
      let drew = is_draw size n s.views id me.0 (draws drawn false) e h next at one in (
        token_view me.0.size (e ∷ []),
        keeps,
        tt,
        (n + 1, after, next),
        (
          refl,
          (λ _. (
            ap (λ (k : ℕ). token_view me.0.size (draws (drawn ++ k ∷ []) false ∷ [])) (sym found),
            subst (λ (k : ℕ). IsDraw me.0.size k (draws drawn false) (draws (drawn ++ k ∷ []) false)) (sym found)
                (subst (λ (z : BoardSize). IsDraw z n (draws drawn false) e) (sym sized) drew),
          )),
          λ high. absurd (let f = found in let l = limits in omega arith),
        ),
      )

  high_goes : size.limit ≤ n → Goes
  high_goes high =
      let e : Draws = draws drawn true in
      let next = draws_none size n s.views id me.0 drawn h at one high in
      let drew = is_draw size n s.views id me.0 (draws drawn false) e h next at one in (
        token_view me.0.size (e ∷ []),
        keeps,
        tt,
        (n + 1, after, next),
        (
          refl,
          (λ low. absurd (let f = found in let l = limits in omega arith)),
          λ _. (
            refl,
            subst (λ (k : ℕ). IsDraw me.0.size k (draws drawn false) e) (sym found)
                (subst (λ (z : BoardSize). IsDraw z n (draws drawn false) e) (sym sized) drew),
          ),
        ),
      )

  goes : Goes
  goes = dite (dec_lt n size.limit) low_goes (λ not. high_goes (let f : ¬ (n < size.limit) = not in omega arith))

pub draws_one : (size : BoardSize) (slots id : ℕ) (me : Me (Unit {0}) TokenView)
    → me.0.seats ≡ draws (first_drawn me.0.seats) false ∷ []
    → Allows (KeepsBoard size) slots id me 0 (λ n. (n + 1) % 2 ^ 64) (DrawsOne (step slots 0 1 0 none) me)
draws_one size slots id me one s h wide at low = goes size slots id me one s h.0 h.1 h.2 at

-- the first of a token's seats leaves
pub splits : (size : BoardSize) (id : ℕ) (v : TokenView)
    → Splits (KeepsBoard size) id v (token_view v.size (drop 1 v.seats)) (token_view v.size (take 1 v.seats))
splits size id v s d at =
    let l = token_view v.size (drop 1 v.seats) in let r = token_view v.size (take 1 v.seats) in let h =
    d.2 in let sums = sums_of size d.0 s.views h in
    let vs : List TokenView = set s.views id l in
    let same : (f : TokenView → ℕ) → f l + f r ≡ f v
    → total f (vs ++ r ∷ []) ≡ total f s.views = λ f e. let a = total_set f s.views id v l at in let b =
    total-append f vs (r ∷ []) in omega arith in
    let mine : (f : List Draws → List Draws) → f [] ≡ [] → f v.seats ≢ []
    → v.size ≡ size = λ f e ne. h.sized id v at (λ z. ne (ap f z ∙ e)) in (
      d.0,
      d.1,
      keeps_of size d.0 (vs ++ r ∷ []) h.fits
          (λ j u e. ⊎_elim (sized_set size s.views id l (mine (drop 1) refl) h.sized j u)
          (λ (same : r ≡ u). subst (λ (y : TokenView). y.seats ≢ [] → y.size ≡ size) same (mine (take 1) refl))
          (at_snoc vs r u j e))
          (record {
            all_seats = same seats_in (length_split v.seats) ∙ sums.all_seats;
            each_once = λ x. same (times_in x) (total_split (λ (d : Draws). times x d.drawn) v.seats)
                ∙ sums.each_once x;
            lengths = same count_in (total_split (λ (d : Draws). length d.drawn) v.seats) ∙ sums.lengths;
            counted = let a = same count_in (total_split (λ (d : Draws). length d.drawn) v.seats) in let b =
                same spent_in (total_split (λ (d : Draws). if d.spent then 1 else 0) v.seats) in let c =
                sums.counted in omega arith;
          }),
    )

-- another token's seats come in front
pub joins : (size : BoardSize) (id : ℕ) (v : TokenView) (other : ℕ) (w : TokenView) → v.seats ≢ []
    → Joins (KeepsBoard size) id v other w (token_view v.size (w.seats ++ v.seats)) no_seats
joins size id v other w some_seat s d at two at' =
    let both = token_view v.size (w.seats ++ v.seats) in let h = d.2 in let sums = sums_of size d.0 s.views h in
    let vs : List TokenView = set s.views id both in
    let same : (f : TokenView → ℕ) → f both ≡ f w + f v → f no_seats ≡ 0
    → total f (set vs other no_seats) ≡ total f s.views = λ f e z. let a =
    total_set f s.views id v both at in let b = total_set f vs other w no_seats at' in omega arith in
    let added : (f : Draws → ℕ) → total f (w.seats ++ v.seats) ≡ total f w.seats + total f v.seats =
    λ f. total-append f w.seats v.seats in (
      d.0,
      d.1,
      keeps_of size d.0 (set vs other no_seats) h.fits
          (sized_set size vs other no_seats (λ ne. absurd (ne refl))
          (sized_set size s.views id both (λ _. h.sized id v at some_seat) h.sized))
          (record {
            all_seats = same seats_in (length-append w.seats v.seats) refl ∙ sums.all_seats;
            each_once = λ x. same (times_in x) (added (λ (d : Draws). times x d.drawn)) refl ∙ sums.each_once x;
            lengths = same count_in (added (λ (d : Draws). length d.drawn)) refl ∙ sums.lengths;
            counted = let a = same count_in (added (λ (d : Draws). length d.drawn)) refl in let b =
                same spent_in (added (λ (d : Draws). if d.spent then 1 else 0)) refl in let c =
                sums.counted in omega arith;
          }),
    )

-- who has all seats knows what was drawn
abbrev pub Ends : BoardSize → List Draws → ℕ → Type 0
Ends size seats r = ((x : ℕ) → times x (all_drawn seats) ≡ once_below x (min r size.limit))
    × (0 < spent_count seats → size.limit ≤ r)

lawful_ends : (size : BoardSize) (n : ℕ) (views : List TokenView) (id : ℕ) (v : TokenView) → FollowsRule size n views
    → get_elem? views id ≡ some v → length v.seats ≡ size.seats → Ends size v.seats n
lawful_ends size n views id v h at all =
    let s = sums_of size n views h in let whole : total seats_in views ≡ seats_in v = s.all_seats ∙ sym all in
    let only : (f : Draws → ℕ) → total (λ (u : TokenView). total f u.seats) views ≡ total f v.seats =
    λ f. total_one seats_in (λ (u : TokenView). total f u.seats) views id v at
    (λ j u e z. total_empty f u.seats z) whole in (
      (λ x. times_drawn x v.seats ∙ sym (only (λ (d : Draws). times x d.drawn)) ∙ s.each_once x),
      (λ some_spent. let a = only (λ (d : Draws). length d.drawn) in let b =
          only (λ (d : Draws). if d.spent then 1 else 0) in let c = s.counted in let d = s.lengths in omega arith),
    )

pub ends : (size : BoardSize) (id : ℕ) (v : TokenView) (ws : List ℕ) (xs : List (Unit {0})) (r : ℕ)
    → Final (Seen (KeepsBoard size) id v) ws xs → length v.seats ≡ size.seats → get_elem? ws 0 ≡ some r
    → Ends size v.seats r
ends size id v ws xs r f all e =
    let n : ℕ = f.1.0.0 in
    let same : n ≡ r = some-injective n r (ap (λ (l : List ℕ). get_elem? l 0) (sym f.1.0.1 ∙ f.2) ∙ e) in
    subst (λ (k : ℕ). Ends size v.seats k) same (lawful_ends size n f.0.views id v f.1.0.2 f.1.1 all)

-- of new seats the first leaves, and the others stay
pub first_new : (n : ℕ) (d : Draws) → 0 < n → (drop 1 (replicate n d) ≡ replicate (n - 1) d)
    × (take 1 (replicate n d) ≡ d ∷ [])
first_new zero d some_seat = absurd (omega arith)
first_new (suc n) d some_seat = (ap (λ (k : ℕ). replicate k d) (let e : n ≡ suc n - 1 = omega arith in e), refl)

-- one copy more
pub copies_more : {X : Type 0} (n : ℕ) (x : X) → replicate n x ++ x ∷ [] ≡ replicate (n + 1) x
copies_more {X} zero x = refl
copies_more {X} (suc n) x = ap (λ (l : List X). x ∷ l) (copies_more n x)
    ∙ ap (λ (k : ℕ). replicate k x) (let e : suc (n + 1) ≡ suc n + 1 = omega arith in e)

-- the draws of seats
abbrev pub draws_of : SeatView → Draws
draws_of s = draws s.drawn s.spent

pub drawn_by : (seats : List SeatView) → all_drawn (map draws_of seats) ≡ flat_map (λ (s : SeatView). s.drawn) seats
drawn_by [] = refl
drawn_by (s ∷ seats) = ap (λ (l : List ℕ). s.drawn ++ l) (drawn_by seats)

pub spent_by : (seats : List SeatView) → spent_count (map draws_of seats) ≡ total
    (λ (s : SeatView). if s.spent then 1 else 0) seats
spent_by [] = refl
spent_by (s ∷ seats) = ap (λ (k : ℕ). (if s.spent then 1 else 0) + k) (spent_by seats)
