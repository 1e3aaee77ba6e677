use Rattle.std.proofs.Common.{◌-◌, length, take}
use Rattle.pg_literal.specs.Rows.{StandsAt, row_of}
use Rattle.pg_literal.proofs.suffix.LineSuffix.find.Given as goal

-- the last k sets stand at the line's end
abbrev pub invariant-loop-k : goal.invariant-loop-k
invariant-loop-k g l = StandsAt l.line (row_of (take l.k l.self.sets.items)) (length l.line - l.k)
