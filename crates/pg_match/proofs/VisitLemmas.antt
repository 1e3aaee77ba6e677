-- How many visits a search comes to, and that they fit into a number.
use Rattle.std.proofs.Common.{◌≡◌, ℕ, Option, Some, None, zero, suc, ◌+◌, ◌-◌, ◌*◌, ◌^◌, ◌<◌, ◌≤◌, max, sym, subst}
use Rattle.std.proofs.Common.{arith}
use Rattle.std.proofs.Math.Nat.{add-mul, mul-le-mul_left}
use Rattle.std.specs.Option.{IfNone}
use Rattle.pg_match.specs.Anchored.{spared}

pub visits_small : (p n v : ℕ) → v ≤ (p + 1) * n → p ≤ 2 ^ 30 → n < 2 ^ 64 → v < 2 ^ 98
visits_small p n v le short few = let less : n ≤ 2 ^ 64 = omega arith in omega (arith, mul-le-mul_left (p + 1) less)

-- what was visited at some places, and at some others since
pub visits_joined : (d e f n u w : ℕ) → u ≤ d * n → w ≤ u + e * n → d + e ≤ f → w ≤ f * n
visits_joined d e f n u w first then less = omega (arith, first, then, add-mul d e n, mul-le-mul_left n less)

-- what was visited, with visits to spare
pub visits_spare : (p n v : ℕ) → v + 4 * n ≤ p * n → p ≤ 2 ^ 30 → n < 2 ^ 64 → v < 2 ^ 95
visits_spare p n v spare short few = let less : n ≤ 2 ^ 64 = omega arith in omega (arith, spare, mul-le-mul_left p less)

-- what was visited up to a place, and at each of some others
pub visits_until : (at p n v u : ℕ) → v ≤ (at + 1) * n → u ≤ v + (p - at) * n → at ≤ p → p ≤ 2 ^ 30 → n < 2 ^ 64
    → u < 2 ^ 98
visits_until at p n v u before since later short few =
    let turns : at + 1 + (p - at) ≡ p + 1 = omega arith in
    visits_small p n u (subst (λ k. u ≤ k * n) turns (omega (arith, add-mul (at + 1) (p - at) n, before, since))) short
    few

-- what was visited before, and at some places since
pub visits_since : (k n u v : ℕ) → v ≤ u + k * n → u < 2 ^ 96 → k ≤ 2 ^ 30 → n < 2 ^ 64 → v < 2 ^ 97
visits_since k n u v le before short few = let less : n ≤ 2 ^ 64 = omega arith in omega (arith, mul-le-mul_left k less)

pub visits_later : (p h n v : ℕ) → v ≤ (p + 1) * n → p ≤ h → v ≤ (h + 1) * n
visits_later p h n v le later = let more : p + 1 ≤ h + 1 = omega arith in omega (arith, mul-le-mul_left n more)

pub visits_on : (p h n v w : ℕ) → v ≤ (p + 1) * n → p ≤ h → w ≤ v + n → w ≤ (h + 1 + 1) * n
visits_on p h n v w le later add = let more : p + 1 ≤ h + 1 = omega arith in omega (arith, mul-le-mul_left n more)

pub visits_after : (l n size v w k : ℕ) → size ≡ n → v ≤ l * size → w ≤ v + k → k ≤ n → w ≤ (l + 1) * n
visits_after l n size v w k same le more few = let le' = subst (λ u. v ≤ l * u) same le in omega arith

-- what a search of a line may visit, where the line and the states are few
pub most_small : (l n size : ℕ) → size ≡ n → l ≤ 2 ^ 30 → n < 2 ^ 64 → l * size < 2 ^ 98
most_small l n size same short few = let less : size ≤ 2 ^ 64 = omega arith in omega (arith, mul-le-mul_left l less)

pub within_most : (l n size v : ℕ) → size ≡ n → l ≤ 2 ^ 30 → n < 2 ^ 64 → v ≤ l * size → v < 2 ^ 98
within_most l n size v same short few le = let small = most_small l n size same short few in omega arith

pub within_room : (l n size v : ℕ) → size ≡ n → l ≤ 2 ^ 30 → n < 2 ^ 64 → v ≤ l * size → v < 2 ^ 99
within_room l n size v same short few le = let small = most_small l n size same short few in omega arith

pub visits_whole : (l n size v w : ℕ) → size ≡ n → v ≤ l * size → w ≤ v + n → w ≤ (l + 1) * n
visits_whole l n size v w same le more = visits_after l n size v w n same le more (omega arith)

pub visited : (old new len n : ℕ) → new ≡ old + len → len ≤ n → new ≤ old + n
visited old new len n more fits = omega arith

pub visits_reached : (r h n v k size : ℕ) → v ≤ r * n + k → k ≤ size → size ≡ n → r ≤ h → v ≤ (h + 1) * n
visits_reached r h n v k size le few same later =
    let more : r + 1 ≤ h + 1 = omega arith in omega (arith, mul-le-mul_left n more)

pub visits_back : (p r n v k : ℕ) → v ≤ r * n + k → k ≡ 0 → p < r → v ≤ (r - 1 + 1) * n
visits_back p r n v k le none later =
    let same : r - 1 + 1 ≡ r = omega arith in subst (λ x. v ≤ x * n) (sym same) (omega arith)

pub visits_more : (a v w k : ℕ) → v ≤ a → w ≤ v + k → w ≤ a + k
visits_more a v w k le more = omega arith

pub visits_from : (p n size v k : ℕ) → size ≡ n → v ≤ p * size → v ≤ p * n + k
visits_from p n size v k same le = let le' = subst (λ u. v ≤ p * u) same le in omega arith

pub product_fits : (p n size : ℕ) → size ≡ n → p ≤ 2 ^ 30 → n < 2 ^ 64 → p * size < 2 ^ 128
product_fits p n size same short few =
    let less : size ≤ 2 ^ 64 = omega arith in omega (arith, mul-le-mul_left p less)

pub told_on : (u v w a b d : ℕ) → v + a ≡ u + b → w + b ≡ v + d → w + a ≡ u + d
told_on u v w a b d first next = omega arith

-- what a search may visit before it begins
pub spared_more : (start n v : ℕ) → v ≤ start * n → v ≤ spared start * n
spared_more zero n v le = omega (arith, le)
spared_more (suc s) n v le =
    let less : suc s ≤ spared (suc s) = omega arith in omega (arith, le, mul-le-mul_left n less)

spared_is : (start m : ℕ) → m ≡ max start 1 → m + 1 ≡ spared start
spared_is zero m is = omega (arith, is)
spared_is (suc s) m is = omega (arith, is)

pub most_spared : (start m n size v : ℕ) → size ≡ n → m ≡ max start 1 → v ≤ (m + 1) * size → v ≤ spared start * n
most_spared start m n size v same is le =
    subst (λ k. v ≤ k * n) (spared_is start m is) (subst (λ k. v ≤ (m + 1) * k) same le)

pub most_more : (start m n size v : ℕ) → size ≡ n → m ≡ max start 1 → v ≤ start * n → v ≤ (m + 1) * size
most_more start m n size v same is le =
    subst (λ k. v ≤ (m + 1) * k) (sym same) (subst (λ k. v ≤ k * n) (sym (spared_is start m is))
    (spared_more start n v le))

pub most_fits : (start m n size : ℕ) → size ≡ n → m ≡ max start 1 → start ≤ 2 ^ 30 → n < 2 ^ 64
    → (m + 1) * size < 2 ^ 97
most_fits start m n size same is short few =
    let less : n ≤ 2 ^ 64 = omega arith in
    subst (λ k. (m + 1) * k < 2 ^ 97) (sym same) (omega (arith, is, mul-le-mul_left (m + 1) less))

-- what was visited before a search, whose place is in a short line
pub visits_few : (p n v : ℕ) → v ≤ p * n → p ≤ 2 ^ 30 → n < 2 ^ 64 → v < 2 ^ 95
visits_few p n v le short few = let less : n ≤ 2 ^ 64 = omega arith in omega (arith, le, mul-le-mul_left p less)

-- where nothing came of it nothing was visited
pub none_more : {X : Type 0} (Q : Type 0) (o : Option X) (v w most : ℕ) → IfNone o ((w ≡ v) × Q) → v ≤ most
    → IfNone o (w ≤ most)
none_more Q None v w most none le = omega (arith, none.0, le)
none_more Q (Some x) v w most none le = none

-- what holds anyway holds where there is no value
pub if_none : {X : Type 0} (P : Type 0) (o : Option X) → P → IfNone o P
if_none P None says = says
if_none P (Some x) says = tt
