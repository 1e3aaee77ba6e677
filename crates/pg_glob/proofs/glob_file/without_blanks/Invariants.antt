use Rattle.std.proofs.Common.{◌≡◌, length}
use Rattle.pg_glob.specs.GlobFiles.{without_blanks}
use Rattle.pg_glob.proofs.glob_file.without_blanks.Given as goal

abbrev pub invariant-loop-byte : goal.invariant-loop-byte
invariant-loop-byte l = without_blanks l.text ≡ without_blanks l.fn.line

abbrev pub decreases-loop-byte : goal.decreases-loop-byte
decreases-loop-byte l = length l.text
