-- How many blocks a plan may have.
use Rattle.std.proofs.Common.{◌≡◌, ℕ, ◌+◌, ◌-◌, ◌*◌, ◌<◌, ◌≤◌, ◌^◌, inl, inr, List, [], ◌∷◌, ◌++◌, length, refl}
use Rattle.std.proofs.Common.{ap, arith, length-append}
use Rattle.std.proofs.lemmas.Bool.{cases_eq}
use Rattle.std.proofs.lemmas.List.{length_push}
use Rattle.std.proofs.lemmas.List.Concat.{flat_map-append}
use Rattle.pg_blocks.specs.Blocks.{BlockData, joined}
use Rattle.pg_plan.specs.Plan.{Step, Opens, Announces, Ends, Misses, IsPlan, opened, announced, last_blocks}
use Rattle.pg_blocks.proofs.LineLaws.{some_bytes}

-- a file's blocks have a byte each, and it isn't too long
record IsShort (p : List Step) : Type 0 where
  bytes : length (last_blocks p) ≤ length (joined (last_blocks p))
  small : length (joined (last_blocks p)) ≤ 2 ^ 62

file_short : (end : ℕ) (p : List Step) → IsPlan end p → IsShort p
file_short end [] h = record { bytes = omega arith; small = omega arith }
file_short end (Opens name ∷ p) h = record { bytes = omega arith; small = omega arith }
file_short end (Announces b ∷ p) h =
    let before = file_short end p h.1 in
    let all = ap length (flat_map-append (λ (x : BlockData). x.bytes) (last_blocks p) (b ∷ [])) in
    let total = length-append (joined (last_blocks p)) (b.bytes ++ []) in
    let one = length-append b.bytes [] in
    let some = some_bytes b.bytes h.0.0.some in
    record {
      bytes = omega (arith, before.bytes, all, total, one, length_push (last_blocks p) b, some);
      small = omega (arith, all, total, one, h.0.1.small);
    }
file_short end (Ends failed ∷ p) h =
    let before = file_short end p h.1 in
    record { bytes = before.bytes; small = before.small }
file_short end (Misses name ∷ p) h =
    let before = file_short end p h.1 in
    record { bytes = before.bytes; small = before.small }

-- without a file there is no block
none_opened : (end : ℕ) (p : List Step) → IsPlan end p → opened p ≡ 0 → length (announced p) ≡ 0
none_opened end [] h e = refl
none_opened end (Opens name ∷ p) h e = absurd (omega arith)
none_opened end (Announces b ∷ p) h e = absurd (omega (arith, h.0.0.file, e))
none_opened end (Ends failed ∷ p) h e = none_opened end p h.1 e
none_opened end (Misses name ∷ p) h e = none_opened end p h.1 e

-- each file has at most 2^62 blocks
by_files : (end : ℕ) (p : List Step) → IsPlan end p
    → length (announced p) ≤ (opened p - 1) * 2 ^ 62 + length (last_blocks p)
by_files end [] h = omega arith
by_files end (Opens name ∷ p) h =
    let before = by_files end p h.1 in
    let short = file_short end p h.1 in
    elim (cases_eq (opened p) 0) [
      | inl none ↦ omega (arith, none_opened end p h.1 none)
      | inr some ↦ omega (arith, before, short.bytes, short.small, some)
    ]
by_files end (Announces b ∷ p) h =
    omega (arith, by_files end p h.1, length_push (announced p) b, length_push (last_blocks p) b)
by_files end (Ends failed ∷ p) h = by_files end p h.1
by_files end (Misses name ∷ p) h = by_files end p h.1

few_opened : (end : ℕ) (p : List Step) → IsPlan end p → opened p ≤ 2 ^ 32 - 1
few_opened end [] h = omega arith
few_opened end (Opens name ∷ p) h = omega (arith, h.0.1)
few_opened end (Announces b ∷ p) h = few_opened end p h.1
few_opened end (Ends failed ∷ p) h = few_opened end p h.1
few_opened end (Misses name ∷ p) h = few_opened end p h.1

pub few_blocks : (end : ℕ) (p : List Step) → IsPlan end p → length (announced p) < 2 ^ 94
few_blocks end p h =
    let short = file_short end p h in
    omega (arith, by_files end p h, few_opened end p h, short.bytes, short.small)
