use Rattle.std.proofs.Common.{◌≡◌, map}
use Rattle.std.specs.List.{AllWithin}
use Rattle.pg_literal.specs.Inner.{text_of, IsNeededOnly}
use Rattle.pg_literal.proofs.inner.plain_of.Given as goal

-- the literals so far are plain
abbrev pub invariant-loop-literal : goal.invariant-loop-literal
invariant-loop-literal g l = record {
  texts : map text_of l.literal-items ≡ map text_of l.fn.literals.items;
  plain : AllWithin IsNeededOnly l.literal-items 0 l.literal-index;
}
