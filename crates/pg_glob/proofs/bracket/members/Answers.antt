use Rattle.std.proofs.Common.{ℕ, ◌≡◌, ◌&&◌, ◌==◌, nat_lt, false, ◌∙◌, arith}
use Rattle.std.proofs.lemmas.Bool.Decides.{nat_tests}
use Rattle.std.proofs.lemmas.List.{length-drop}
use Rattle.pg_bytes.specs.ByteSets.{bytes}
use Rattle.pg_glob.proofs.ReadingLemmas.{slice-end, next-member}
use Rattle.pg_glob.proofs.bracket.members.Goals as goal
use Rattle.pg_glob.proofs.bracket.members.Goals.{else-byte-eq93-via-then-byte-eq93+else-length-gt0}
use Rattle.pg_glob.proofs.bracket.members.Goals.{else-byte-eq93-via-else-byte-eq93}

pub loop-byte-preserved : goal.loop-byte-preserved
loop-byte-preserved c =
    let goes_on : (c.in-Some.byte.now == 93 && nat_lt 0 c.loop-byte.length) ≡ false =
    elim c.else-byte-eq93.branch [
      | else-byte-eq93-via-then-byte-eq93+else-length-gt0 w ↦ grind (arith, nat_tests, w.if-length-gt0.false)
      | else-byte-eq93-via-else-byte-eq93 w ↦ grind (arith, nat_tests, w.if-byte-eq93.false)
    ] in
    record {
      reads = next-member _ (bytes c.in_ok-next.next.set) _ _ c.in_ok-next.next.length _ _ _ c.union-set.ensures
          c.in-Some.ensures.cases.0 goes_on c.in_ok-next.ensures.reads c.in_ok-next.ensures.within.0
          c.in_ok-next.ensures.within.1 ∙ c.loop-byte.invariant.reads;
      within = rw slice-end (omega (arith, length-drop {A = ℕ}, c.in_ok-next.ensures.within.1));
    }
