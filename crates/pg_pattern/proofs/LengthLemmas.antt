-- How far behind where it begins a match ends.
use Rattle.std.proofs.Common.{◌≡◌, inl, inr, ℕ, zero, suc, ◌+◌, ◌*◌, ◌≤◌, ◌<◌}
use Rattle.std.proofs.Common.{List, Option, None, Some, refl, sym, subst, arith}
use Rattle.std.specs.Prelude.{IfSome}
use Rattle.std.specs.List.{All}
use Rattle.std.specs.Option.{SomeIff}
use Rattle.std.proofs.Math.Nat.{mul-le-mul_left}
use Rattle.std.proofs.lemmas.Bool.{cases_lt}
use Rattle.std.proofs.lemmas.List.Elements.{All-contains}
use Rattle.pg_pattern.specs.Patterns.{Pattern, Empty, Set, Begin, End, Cat, Alt, Rep}
use Rattle.pg_pattern.specs.Matches.{Match, Chain}
use Rattle.pg_pattern.specs.declared.bounds.Bounds.{Bounds}
use Rattle.pg_pattern.specs.declared.bounds.Bounds.TheVariants.{Any, Word, Whole}
use Rattle.pg_pattern.specs.Lengths.{HasAtMost, HaveAtMost, EndsWithin, IsReachOf, HitsEndWithin}

-- spans that go forward do so one behind the other too
pub chain_forward : (Span : ℕ → ℕ → Type 0) → ((i j : ℕ) → Span i j → i ≤ j) → (count i j : ℕ) → Chain Span count i j
    → i ≤ j
chain_forward Span forward zero i j e = omega arith
chain_forward Span forward (suc count) i j c =
    let first = forward i c.0 c.1 in
    let others = chain_forward Span forward count c.0 j c.2 in
    omega arith

-- no match ends before it begins
pub match_forward : (p : Pattern) (line : List ℕ) (i j : ℕ) → Match p line i j → i ≤ j
match_forward Empty line i j m = omega arith
match_forward (Set s) line i j m = omega (arith, m.3)
match_forward Begin line i j m = omega (arith, m.1)
match_forward End line i j m = omega (arith, m.1)
match_forward (Cat p q) line i j m =
    let first = match_forward p line i m.0 m.1 in
    let second = match_forward q line m.0 j m.2 in
    omega arith
match_forward (Alt p q) line i j (inl m) = match_forward p line i j m
match_forward (Alt p q) line i j (inr m) = match_forward q line i j m
match_forward (Rep p least most) line i j m = chain_forward (Match p line) (match_forward p line) m.0 i j m.3

-- what is known of a value is known where it was found
pub checked_gives : (found : Option ℕ) (P : Type 0) (value : ℕ) → SomeIff found P value → (Q : ℕ → Type 0) → Q value
    → IfSome found Q
checked_gives None P value is Q known = tt
checked_gives (Some n) P value is Q known = subst Q (sym is.1) known

-- rounds, of which each has at most so many bytes
pub no_round : (p : Pattern) (most bytes : ℕ) → most ≡ 0 → HaveAtMost p most bytes
no_round p most bytes none line zero i j few c = omega (arith, c)
no_round p most bytes none line (suc count) i j few c = absurd (omega arith)

pub rounds_long : (p : Pattern) (each most all : ℕ) → HasAtMost p each → all ≡ each * most → HaveAtMost p most all
rounds_long p each most all long is line count i j few c =
    let own = along count i j c in
    let more = mul-le-mul_left each few in
    omega (arith, own, more, is)
  where
    along : (count i j : ℕ) → Chain (Match p line) count i j → j ≤ i + each * count
    along zero i j c = omega (arith, c)
    along (suc count) i j c =
        let first = long line i c.0 c.1 in
        let others = along count c.0 j c.2 in
        grind arith

-- how many bytes at most a match of a repetition has
pub rep_long : (p : Pattern) (least most : ℕ) (found : Option ℕ) → IfSome found (HaveAtMost p most)
    → IfSome found (HasAtMost (Rep p least (Some most)))
rep_long p least most None long = tt
rep_long p least most (Some bytes) long = λ line i j m. long line m.0 i j m.2 m.3

-- where the next match ends, by the pattern's kind
pub cat_ends : (p q : Pattern) (m n : ℕ) → HasAtMost p m → EndsWithin q n → EndsWithin (Cat p q) (m + n)
cat_ends p q m n first second line i j c =
    let a = first line i c.0 c.1 in
    let b = second line c.0 j c.2 in
    (b.0, omega (arith, b.1), (c.0, c.1, b.2))

pub alt_ends : (p q : Pattern) (m n all : ℕ) → m ≤ all → n ≤ all → EndsWithin p m → EndsWithin q n
    → EndsWithin (Alt p q) all
alt_ends p q m n all low high first second line i j (inl c) =
    let a = first line i j c in (a.0, omega (arith, a.1), inl a.2)
alt_ends p q m n all low high first second line i j (inr c) =
    let a = second line i j c in (a.0, omega (arith, a.1), inr a.2)

-- fewer rounds are allowed where more are
fewer : (least count : ℕ) (most : Option ℕ) → least ≤ count → IfSome most (λ most. count ≤ most)
    → IfSome most (λ most. least ≤ most)
fewer least count None low few = tt
fewer least count (Some most) low few = omega arith

pub no_round_ends : (p : Pattern) (least : ℕ) (most : Option ℕ) → least ≡ 0 → EndsWithin (Rep p least most) 0
no_round_ends p least most none line i j m =
    (i, omega arith, (0, omega arith, fewer 0 m.0 most (omega arith) m.2, refl))

-- so many rounds, of which the last is near
rounds_end : (p : Pattern) (line : List ℕ) (bytes : ℕ) → EndsWithin p bytes → (count all i j : ℕ) → count < all
    → Chain (Match p line) all i j
    → (m : ℕ) × (k : ℕ) × Chain (Match p line) count i m × (k ≤ m + bytes) × Chain (Match p line) (suc count) i k
rounds_end p line bytes near count zero i j few c = absurd (omega arith)
rounds_end p line bytes near zero (suc all) i j few c =
    let a = near line i c.0 c.1 in (i, a.0, refl, a.1, (a.0, a.2, refl))
rounds_end p line bytes near (suc count) (suc all) i j few c =
    let others = rounds_end p line bytes near count all c.0 j (omega arith) c.2 in
    (others.0, others.1, (c.0, c.1, others.2), others.3, (c.0, c.1, others.4))

pub rep_ends : (p : Pattern) (least : ℕ) (most : Option ℕ) (rounds m n : ℕ) → least ≡ suc rounds
    → HaveAtMost p rounds m → EndsWithin p n → EndsWithin (Rep p least most) (m + n)
rep_ends p least most rounds m n is first last line i j c =
    let a = rounds_end p line n last rounds c.0 i j (omega (arith, c.1)) c.3 in
    let front = first line rounds i a.0 (omega arith) a.2 in (
      a.1,
      omega (arith, a.3),
      (
        least,
        omega arith,
        fewer least c.0 most c.1 c.2,
        subst (λ k. Chain (Match p line) k i a.1) (sym is) a.4,
      ),
    )

-- a greater bound is one too
pub reaches_less : (bounds : Bounds) (p : Pattern) (m n : ℕ) → m ≤ n → IsReachOf bounds m p → IsReachOf bounds n p
reaches_less Any p m n low is = λ line i j c. let a = is line i j c in (a.0, omega (arith, low, a.1), a.2)
reaches_less Word p m n low is = λ line i j c. let a = is line i j c in omega (arith, low, a)
reaches_less Whole p m n low is = λ line i j c. let a = is line i j c in omega (arith, low, a)

-- where a pattern's reach is known, so is that of its hits
pub hits_end : (patterns : List Pattern) (bounds : Bounds) (bytes : ℕ) → All (IsReachOf bounds bytes) patterns
    → HitsEndWithin patterns bounds bytes
hits_end patterns Any bytes each line i j hit =
    let m = hit.matched in
    let a = All-contains (IsReachOf Any bytes) patterns m.0 each m.1 line i j m.2 in
    elim (cases_lt j a.0) [
      | inr low ↦ (
        a.0,
        a.1,
        record {
          ordered = match_forward m.0 line i a.0 a.2;
          within = omega (arith, low, hit.within);
          begins = tt;
          ends = tt;
          matched = (m.0, m.1, a.2);
        },
      )
      | inl high ↦ (j, omega (arith, high, a.1), hit)
    ]
hits_end patterns Word bytes each line i j hit =
    let m = hit.matched in
    (j, All-contains (IsReachOf Word bytes) patterns m.0 each m.1 line i j m.2, hit)
hits_end patterns Whole bytes each line i j hit =
    let m = hit.matched in
    (j, All-contains (IsReachOf Whole bytes) patterns m.0 each m.1 line i j m.2, hit)
