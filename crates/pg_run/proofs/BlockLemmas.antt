-- The blocks that a cutter gives, and lines that are too long.
use Rattle.std.proofs.Common.{◌≡◌, ◌≢◌, ℕ, suc, ◌+◌, ◌<◌, ◌≤◌, ◌^◌, ◌⊎◌, inl, inr, Some, List, [], ◌∷◌, ◌++◌}
use Rattle.std.proofs.Common.{length, refl, sym, ap, ◌∙◌, subst, arith, append_assoc}
use Rattle.std.specs.List.{AllByRecursion, Any}
use Rattle.std.proofs.lemmas.List.{append-nil}
use Rattle.std.proofs.lemmas.List.Concat.{flat_map-append}
use Rattle.pg_blocks.specs.Lines.{lines, AreShort, AreWhole}
use Rattle.pg_blocks.specs.Blocks.{BlockData, joined, EndsWith, AreNumbered}
use Rattle.pg_blocks.specs.Cutter.{CutterPast, past_handed as handed_out, IsCutterAfter, IsNextBlock, AreAllBlocks}
use Rattle.pg_blocks.specs.Cutter.{HasLinesLeft, bytes_held}
use Rattle.pg_blocks.specs.declared.cutter.Cutter.{Cutter}
use Rattle.pg_blocks.proofs.LineLemmas.{lines-append, whole_append}
use Rattle.pg_blocks.proofs.EarlyLemmas.{AllEnd, fed_end, fed_whole, all_are_cutting}
use Rattle.pg_blocks.proofs.CutLaws.{ended_some}

-- bytes that end with the terminator, or that nothing follows
abbrev pub IsApart : ℕ → List ℕ → List ℕ → Type 0
IsApart end xs ys = AreWhole end xs ⊎ (ys ≡ [])

lines_apart : (end : ℕ) (xs ys : List ℕ) → IsApart end xs ys → lines end (xs ++ ys) ≡ lines end xs ++ lines end ys
lines_apart end xs ys (inl w) = lines-append end xs ys w
lines_apart end xs ys (inr e) =
    ap (λ zs. lines end (xs ++ zs)) e
    ∙ (ap (lines end) (append-nil xs)
    ∙ (sym (append-nil (lines end xs)) ∙ ap (λ zs. lines end xs ++ lines end zs) (sym e)))

whole_joined : (end : ℕ) (blocks : List BlockData) → AllEnd end blocks → AreWhole end (joined blocks)
whole_joined end [] h = inl refl
whole_joined end (b ∷ blocks) h = whole_append end b.bytes (joined blocks) (inr h.0) (whole_joined end blocks h.1)

all_apart : {X : Type 0} (P : X → Type 0) (xs ys : List X) → AllByRecursion P (xs ++ ys)
    → AllByRecursion P xs × AllByRecursion P ys
all_apart P [] ys h = (tt, h)
all_apart P (x ∷ xs) ys h = let r = all_apart P xs ys h.1 in ((h.0, r.0), r.1)

pub given_end : {A : Type 0} (cutter : Cutter A) (f : CutterPast) (end : ℕ) → IsCutterAfter cutter f → f.end ≡ end
    → AllEnd end f.taken
given_end cutter f end s ends =
    let all = fed_end f (f.taken ++ cutter.ready.items) (bytes_held cutter) s.cut in
    let P : ℕ → Type 0 = λ e. AllEnd e f.taken in
    subst P ends (all_apart (λ b. EndsWith f.end b.bytes) f.taken cutter.ready.items all).0

joined_apart : (xs ys : List BlockData) (zs : List ℕ) → joined (xs ++ ys) ++ zs ≡ joined xs ++ (joined ys ++ zs)
joined_apart xs ys zs =
    ap (λ t. t ++ zs) (flat_map-append (λ (b : BlockData). b.bytes) xs ys)
    ∙ append_assoc (joined xs) (joined ys) zs

-- the block that a cutter gives, and what comes behind it
pub record Gives (f : CutterPast) (b : BlockData) (more : List ℕ) : Type 0 where
  pub numbered : AreNumbered f.file 0 (f.taken ++ b ∷ [])
  pub some : b.bytes ≢ []
  pub whole : f.bytes ≡ joined f.taken ++ (b.bytes ++ more)
  pub apart : IsApart f.end b.bytes more

-- it does, and the block is whole lines
abbrev pub GivesLines : CutterPast → BlockData → Type 0
GivesLines f b = (more : List ℕ) × Gives f b more × AreWhole f.end b.bytes

pub gives_next : (f : CutterPast) (b : BlockData) → IsNextBlock f b → GivesLines f b
gives_next f b n =
    let later = n.cut.0 in
    let all = fed_end f (f.taken ++ b ∷ later) n.cut.1 n.cut.2 in
    let ends : EndsWith f.end b.bytes = (all_apart (λ x. EndsWith f.end x.bytes) f.taken (b ∷ later) all).1.0 in (
      joined later ++ n.cut.1,
      record {
        numbered = n.numbered;
        some = ended_some f.end b.bytes ends;
        whole =
            fed_whole f (f.taken ++ b ∷ later) n.cut.1 n.cut.2
            ∙ (joined_apart f.taken (b ∷ later) n.cut.1
            ∙ ap (λ xs. joined f.taken ++ xs) (append_assoc b.bytes (joined later) n.cut.1));
        apart = inl (inr ends);
      },
      inr ends,
    )

-- the whole lines that were in no block
pub gives_early : (f : CutterPast) (b : BlockData) → HasLinesLeft f b → GivesLines f b
gives_early f b h = (
  h.none.0,
  record {
    numbered = h.numbered;
    some = ended_some f.end b.bytes h.ends;
    whole =
        h.none.1
        ∙ (joined_apart f.taken (b ∷ []) h.none.0
        ∙ ap (λ xs. joined f.taken ++ (xs ++ h.none.0)) (append-nil b.bytes));
    apart = inl (inr h.ends);
  },
  inr h.ends,
)

pub gives_last : (f : CutterPast) (b : BlockData) → AreAllBlocks (handed_out f (Some b)) → Gives f b []
gives_last f b all =
    let cutting = all_are_cutting (handed_out f (Some b)) all in
    record {
      numbered = all.numbered;
      some = (all_apart (λ x. x.bytes ≢ []) f.taken (b ∷ []) cutting.some).1.0;
      whole = sym cutting.whole ∙ flat_map-append (λ (x : BlockData). x.bytes) f.taken (b ∷ []);
      apart = inr refl;
    }

pub numbered_last : (file n : ℕ) (front : List BlockData) (b : BlockData) → AreNumbered file n (front ++ b ∷ [])
    → (b.file ≡ file) × (b.number ≡ n + length front)
numbered_last file n [] b h = (h.0, omega (arith, h.1))
numbered_last file n (x ∷ front) b h = let r = numbered_last file (n + 1) front b h.2 in (r.0, omega (arith, r.1))

-- where no line is too long, no line of a part is
all_short : (longest : ℕ) (ls : List (List ℕ)) → (Any (λ l. longest < length l) ls → ⊥) → longest ≤ 2 ^ 30
    → AllByRecursion (λ l. length l ≤ 2 ^ 30) ls
all_short longest [] h few = tt
all_short longest (l ∷ ls) h few = (
  omega (arith, few, λ (k : longest < length l). h (0, l, omega arith, refl, k)),
  all_short longest ls (λ a. h (suc a.0, a.1, omega (arith, a.2), a.3, a.4)) few,
)

pub short_part : {A : Type 0} (cutter : Cutter A) (f : CutterPast) (b : BlockData) (more : List ℕ)
    → IsCutterAfter cutter f → f.longest ≤ 2 ^ 30 → Gives f b more → AreShort f.end b.bytes
short_part cutter f b more s few gives =
    let end = f.end in
    let P : List ℕ → Type 0 = λ l. length l ≤ 2 ^ 30 in
    let parts : lines end f.bytes ≡ lines end (joined f.taken) ++ (lines end b.bytes ++ lines end more) =
    ap (lines end) gives.whole
    ∙ (lines_apart end (joined f.taken) (b.bytes ++ more)
    (inl (whole_joined end f.taken (given_end cutter f end s refl)))
    ∙ ap (λ ls. lines end (joined f.taken) ++ ls) (lines_apart end b.bytes more gives.apart)) in
    let all = subst (AllByRecursion P) parts (all_short f.longest (lines end f.bytes) s.short few) in
    let both = all_apart P (lines end (joined f.taken)) (lines end b.bytes ++ lines end more) all in
    (all_apart P (lines end b.bytes) (lines end more) both.1).0
