-- The plan of a sequencer's test, block by block.
use Rattle.std.proofs.Common.{◌≡◌, ℕ, ◌+◌, ◌<◌, ◌≤◌, false, List, [], ◌∷◌, ◌++◌, length}
use Rattle.std.proofs.Common.{refl, ap, sym, subst, ◌∙◌, lit≤, arith}
use Rattle.std.specs.List.{AllByRecursion}
use Rattle.std.proofs.lemmas.List.{length-append, length_push}
use Rattle.std.proofs.lemmas.List.Concat.{flat_map-append}
use Rattle.pg_blocks.proofs.WithinLemmas.{lines_short}
use Rattle.pg_blocks.specs.Blocks.{BlockData, joined, EndsWith}
use Rattle.pg_selection.specs.Search.{terminator}
use Rattle.pg_selection.specs.Searched.{SearchedBlock}
use Rattle.pg_plan.specs.Plan.{Opens, Announces, Ends, Misses, MayFollow, last_blocks}
use Rattle.pg_plan.specs.History.{planned, arrived, plan}
use Rattle.pg_seq.specs.Standing.{IsAfter}
use Rattle.pg_seq.specs.declared.assembler.Assembler.{Assembler}
use Rattle.pg_tests.specs.Reading.{IsBlock, IsBetween, IsReading}

abbrev pub block_of : ℕ → ℕ → List ℕ → BlockData
block_of file number bytes = record { file = file; number = number; bytes = bytes }

not_empty : (bytes : List ℕ) → EndsWith 10 bytes → bytes ≡ [] → ⊥
not_empty bytes h e =
    let len : length bytes ≡ length h.0 + 1 = ap length h.1 ∙ length_push h.0 10 in
    let none : length bytes ≡ 0 = ap length e in
    absurd (omega (arith, len, none))

may_announce_bytes : {A : Type 0} (s : Assembler A) (f n : ℕ) (bytes : List ℕ) (r : IsReading s f n) → n < 100
    → IsBlock bytes → MayFollow (terminator r.past.query) (plan r.past) (Announces (block_of f n bytes))
may_announce_bytes s f n bytes r few block =
    let P : ℕ → Type 0 = λ end. AllByRecursion (λ b. EndsWith end b.bytes) (last_blocks (plan r.past)) in (
      record {
        running = r.running;
        file = sym r.last;
        number = sym r.number;
        some = not_empty bytes block.ends;
        seam = subst P (sym r.ends) r.seam;
      },
      record {
        short = lines_short (terminator r.past.query) bytes block.short;
        small = omega (arith, r.size, block.short);
      },
    )

-- the open file's next block may be announced
pub may_announce : {A : Type 0} (s : Assembler A) (f n : ℕ) (bytes : List ℕ) (b : BlockData) (r : IsReading s f n)
    → n < 100 → IsBlock bytes → b ≡ block_of f n bytes
    → MayFollow (terminator r.past.query) (plan r.past) (Announces b)
may_announce s f n bytes b r few block same =
    let F : BlockData → Type 0 = λ x. MayFollow (terminator r.past.query) (plan r.past) (Announces x) in
    subst F (sym same) (may_announce_bytes s f n bytes r few block)

all_push : (bs : List BlockData) (b : BlockData) → AllByRecursion (λ x. EndsWith 10 x.bytes) bs → EndsWith 10 b.bytes
    → AllByRecursion (λ x. EndsWith 10 x.bytes) (bs ++ b ∷ [])
all_push [] b h e = (e, tt)
all_push (x ∷ bs) b h e = (h.0, all_push bs b h.1 e)

-- it was announced
pub announced : {A : Type 0} (s s' : Assembler A) (f n : ℕ) (bytes : List ℕ) (b : BlockData) (r : IsReading s f n)
    → IsBlock bytes → b ≡ block_of f n bytes → IsAfter s' (planned r.past (Announces b)) → IsReading s' f (n + 1)
announced s s' f n bytes b r block same h =
    let blocks = last_blocks (plan r.past) in
    let text : b.bytes ≡ bytes = ap (λ (x : BlockData). x.bytes) same in
    let len : length (joined (blocks ++ b ∷ [])) ≡ length (joined blocks) + length (b.bytes ++ []) =
    ap length (flat_map-append (λ (x : BlockData). x.bytes) blocks (b ∷ []))
    ∙ length-append (joined blocks) (b.bytes ++ []) in
    let more : length (b.bytes ++ []) ≡ length b.bytes + 0 = length-append b.bytes [] in
    let short : length b.bytes ≤ 100 = subst (λ (x : List ℕ). length x ≤ 100) (sym text) block.short in
    record {
      past = planned r.past (Announces b);
      stands = h;
      running = r.running;
      last = r.last;
      ends = r.ends;
      number = length_push blocks b ∙ ap (λ k. k + 1) r.number;
      seam = all_push blocks b r.seam (subst (λ (x : List ℕ). EndsWith 10 x) (sym text) block.ends);
      size = omega (arith, len, more, short, r.size);
    }

-- a result arrived
pub arrived_on : {A : Type 0} (s s' : Assembler A) (f n : ℕ) (found : SearchedBlock) (r : IsReading s f n)
    → IsAfter s' (arrived r.past found) → IsReading s' f n
arrived_on s s' f n found r h = record {
  past = arrived r.past found;
  stands = h;
  running = r.running;
  last = r.last;
  ends = r.ends;
  number = r.number;
  seam = r.seam;
  size = r.size;
}

-- the next file may be opened
pub may_open : {A : Type 0} (s : Assembler A) (f : ℕ) (name : List ℕ) (r : IsBetween s f) → f ≤ 100
    → MayFollow (terminator r.past.query) (plan r.past) (Opens name)
may_open s f name r few = (r.closed, omega (arith, r.number))

-- it was opened
pub opened_next : {A : Type 0} (s s' : Assembler A) (f : ℕ) (name : List ℕ) (r : IsBetween s f)
    → IsAfter s' (planned r.past (Opens name)) → IsReading s' f 0
opened_next s s' f name r h = record {
  past = planned r.past (Opens name);
  stands = h;
  running = refl;
  last = ap (λ k. k + 1) r.number;
  ends = r.ends;
  number = refl;
  seam = tt;
  size = lit≤ tt;
}

-- the open file has ended
pub ended : {A : Type 0} (s s' : Assembler A) (f n : ℕ) (r : IsReading s f n)
    → IsAfter s' (planned r.past (Ends false)) → IsBetween s' (f + 1)
ended s s' f n r h = record {
  past = planned r.past (Ends false);
  stands = h;
  closed = refl;
  number = r.last;
  ends = r.ends;
}

-- a name was missed
pub missed : {A : Type 0} (s s' : Assembler A) (f : ℕ) (name : List ℕ) (r : IsBetween s f)
    → IsAfter s' (planned r.past (Misses name)) → IsBetween s' f
missed s s' f name r h = record {
  past = planned r.past (Misses name);
  stands = h;
  closed = r.closed;
  number = r.number;
  ends = r.ends;
}

pub reading_as : {A : Type 0} (s t : Assembler A) (f g n m : ℕ) → s ≡ t → f ≡ g → n ≡ m → IsReading t g m
    → IsReading s f n
reading_as {A = A} s t f g n m same file number r =
    let S : Assembler A → Type 0 = λ x. IsReading x f n in
    let F : ℕ → Type 0 = λ x. IsReading t x n in
    let N : ℕ → Type 0 = λ x. IsReading t g x in
    subst S (sym same) (subst F (sym file) (subst N (sym number) r))
