-- One step of `members` (bracket) and of `parts_of` (reading).
use Rattle.std.proofs.Common.{ℕ, zero, suc, ◌≡◌, ◌+◌, ◌-◌, ◌≤◌, ◌&&◌, ◌==◌, nat_lt, false, List, [], ◌∷◌, ◌++◌}
use Rattle.std.proofs.Common.{Some, length, take, drop, map, refl, ap, sym, ◌∙◌, append_assoc, arith}
use Rattle.std.proofs.lemmas.List.{take_all, length-drop, map-append}
use Rattle.pg_bytes.specs.Sets.{Bytes, union}
use Rattle.pg_glob.specs.Brackets.{Text, member_at, members_behind}
use Rattle.pg_glob.specs.Globs.{GlobPiece, piece, pieces_behind, pieces_of}

-- a slice up to its end
pub slice-end : (a : ℕ) (s : Text) → take (length s - a) (drop a s) ≡ drop a s
slice-end a s = take_all (length s - a) (drop a s) (omega (arith, length-drop a s))

skip-pieces : (k : ℕ) (t : Text) → pieces_behind k t ≡ pieces_behind 0 (drop k t)
skip-pieces zero t = refl
skip-pieces (suc k) [] = refl
skip-pieces (suc k) (x ∷ t) = skip-pieces k t

next-piece : (x : ℕ) (rest : Text) (p : GlobPiece) (k : ℕ) → (p, k) ≡ piece x rest →
    p ∷ pieces_behind 0 (take (length rest - k) (drop k rest)) ≡ pieces_behind 0 (x ∷ rest)
next-piece x rest p k e = rw (slice-end, ← skip-pieces k rest, ← e)

-- the pieces of some parts and of the text behind them, with one part more
pub next-part : {X : Type 0} (f : X → GlobPiece) (parts more : List X) (part : X) (k : ℕ) (left : Text) (x : ℕ)
    (rest : Text) → more ≡ parts ++ part ∷ [] → left ≡ x ∷ rest → (f part, k) ≡ piece x rest →
    map f more ++ pieces_of (take (length rest - k) (drop k rest)) ≡ map f parts ++ pieces_of left
next-part f parts more part k left x rest m e h =
    rw (m, map-append, append_assoc, e) (ap (λ ps. map f parts ++ ps) (next-piece x rest (f part) k h))

skip-members : (k : ℕ) (set : Bytes) (n : ℕ) (t : Text) → k ≤ length t →
    members_behind k set n t ≡ members_behind 0 set (n + k) (drop k t)
skip-members zero set n t h = ap (λ m. members_behind 0 set m t) (omega arith)
skip-members (suc k) set n [] h = absurd (omega arith)
skip-members (suc k) set n (x ∷ t) h =
    skip-members k set (n + 1) t (omega arith) ∙ ap (λ m. members_behind 0 set m (drop k t)) (omega arith)

-- the next member of a bracket, and those behind it
next-member-of : (set : Bytes) (n x : ℕ) (rest : Text) (part : Bytes) (k : ℕ) →
    (x == 93 && nat_lt 0 n) ≡ false → Some (part, k) ≡ member_at (x ∷ rest) → 1 ≤ k → k ≤ length (x ∷ rest) →
    members_behind 0 (union set part) (n + k) (take (length (x ∷ rest) - k) (drop k (x ∷ rest)))
    ≡ members_behind 0 set n (x ∷ rest)
next-member-of set n x rest part zero c e l h = absurd (omega arith)
next-member-of set n x rest part (suc k) c e l h =
    let goes : members_behind 0 set n (x ∷ rest) ≡ members_behind (suc k - 1) (union set part) (n + 1) rest =
    rw (c, ← e) in
    let counts : suc k - 1 ≡ k = omega arith in
    let skips : members_behind k (union set part) (n + 1) rest
    ≡ members_behind 0 (union set part) (n + 1 + k) (drop k rest) =
    skip-members k (union set part) (n + 1) rest (omega arith) in
    let sums : n + 1 + k ≡ n + suc k = omega arith in
    rw slice-end (sym (goes ∙ (ap (λ j. members_behind j (union set part) (n + 1) rest) counts
    ∙ (skips ∙ ap (λ j. members_behind 0 (union set part) j (drop k rest)) sums))))

pub next-member : (set part more : Bytes) (n k x : ℕ) (left rest : Text) → more ≡ union set part → left ≡ x ∷ rest →
    (x == 93 && nat_lt 0 n) ≡ false → Some (part, k) ≡ member_at left → 1 ≤ k → k ≤ length left →
    members_behind 0 more (n + k) (take (length left - k) (drop k left)) ≡ members_behind 0 set n left
next-member set part more n k x left rest u e c m l h =
    rw (u, e) (next-member-of set n x rest part k c (rw e at m) l (rw e at h))
