-- What feeding a piece comes to, for `feed`, `feed_owned` and `fill`.
use Rattle.std.proofs.Common.{◌≡◌, ℕ, List, Result, Ok, Err, refl, subst}
use Rattle.std.specs.Prelude.{IsErrAnd}
use Rattle.pg_blocks.specs.Cutter.{CutterPast, IsCutterAfter, fed, TellsWhy, FeedsPiece}
use Rattle.pg_blocks.specs.declared.cutter.Cutter.{Cutter}
use Rattle.pg_blocks.specs.declared.cutter.CutFault.{CutFault}
use Rattle.pg_blocks.specs.declared.cutter.CutFault.TheVariants.{OutOfMemory}
use Rattle.pg_blocks.proofs.FaultLemmas.{fault_told, none_told, memory_not_file, memory_not_line, taken_not_refused}

-- every past that stood stands
abbrev pub Stays : {A : Type 0} → Cutter A → Cutter A → Type 0
Stays old new = (past : CutterPast) → IsCutterAfter old past → IsCutterAfter new past

-- a piece that doesn't fit
pub piece_refused : {A T U : Type 0} {cutter : Cutter A} {piece : List ℕ} {e : CutFault} (r : Result U CutFault)
    → TellsWhy {T = T} cutter piece (Err e) → IsErrAnd r (λ x. x ≡ e) → FeedsPiece cutter cutter piece r
piece_refused (Ok x) why is = absurd is
piece_refused {e = e} (Err y) why is =
    record {
      ok = λ past s. tt;
      err = λ past s. s;
      why = record {
        file = λ past s. fault_told (Err y) e is (why.file past s);
        line = λ past s. fault_told (Err y) e is (why.line past s);
      };
    }

-- one that fits, without memory for it
pub memory_refused : {A T U : Type 0} {old new : Cutter A} {piece : List ℕ} {x : T} (r : Result U CutFault)
    → TellsWhy {T = T} old piece (Ok x) → IsErrAnd r (λ e. e ≡ OutOfMemory) → Stays old new
    → FeedsPiece old new piece r
memory_refused (Ok x) why is stays = absurd is
memory_refused (Err y) why is stays =
    record {
      ok = λ past s. tt;
      err = λ past s. stays past s;
      why = record {
        file = λ past s. none_told (Err y) (why.file past s) (memory_not_file refl is);
        line = λ past s. none_told (Err y) (why.line past s) (memory_not_line refl is);
      };
    }

-- one that is taken
pub piece_taken : {A T U : Type 0} {old new : Cutter A} {piece : List ℕ} {x : T} {y : U}
    → TellsWhy {T = T} old piece (Ok x)
    → ((past : CutterPast) → IsCutterAfter old past → IsCutterAfter new (fed past piece))
    → FeedsPiece {T = U} old new piece (Ok y)
piece_taken why takes =
    record {
      ok = λ past s. takes past s;
      err = λ past s. tt;
      why = record {
        file = λ past s. none_told _ (why.file past s) (λ e. taken_not_refused e);
        line = λ past s. none_told _ (why.line past s) (λ e. taken_not_refused e);
      };
    }

-- what is told of a piece is told of the same bytes
pub told_alike : {A T : Type 0} {cutter : Cutter A} {xs ys : List ℕ} {r : Result T CutFault} → xs ≡ ys
    → TellsWhy cutter xs r → TellsWhy cutter ys r
told_alike {cutter = cutter} {r = r} e h = subst (λ zs. TellsWhy cutter zs r) e h

-- and of a cutter that was the same but for its room
pub feeds_behind : {A T : Type 0} {old mid new : Cutter A} {xs ys : List ℕ} {r : Result T CutFault} → xs ≡ ys
    → Stays old mid → FeedsPiece mid new xs r → FeedsPiece old new ys r
feeds_behind {old = old} {new = new} {r = r} e stays h =
    subst (λ zs. FeedsPiece old new zs r) e record {
      ok = λ past s. h.ok past (stays past s);
      err = λ past s. h.err past (stays past s);
      why = record {
        file = λ past s. h.why.file past (stays past s);
        line = λ past s. h.why.line past (stays past s);
      };
    }
