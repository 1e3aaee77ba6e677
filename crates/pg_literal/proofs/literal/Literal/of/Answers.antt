use Rattle.pg_literal.proofs.literal.Literal.of.Goals as goal

pub returns-then-expansion-le1-clause-needed : goal.returns-then-expansion-le1-clause-needed
returns-then-expansion-le1-clause-needed g c = rw c.single.ensures at c.in_ok-literals.ensures.needed

pub returns-then-expansion-le1-clause-heads : goal.returns-then-expansion-le1-clause-heads
returns-then-expansion-le1-clause-heads g c = rw c.single.ensures at c.in_ok-literals.ensures.heads

pub returns-then-expansion-le1-clause-enough : goal.returns-then-expansion-le1-clause-enough
returns-then-expansion-le1-clause-enough g c = rw c.single.ensures at c.in_ok-literals.ensures.enough

pub returns-then-are_better-clause-needed : goal.returns-then-are_better-clause-needed
returns-then-are_better-clause-needed g c = rw c.wider-expansion.ensures at c.in_ok-others.ensures.needed

pub returns-then-are_better-clause-heads : goal.returns-then-are_better-clause-heads
returns-then-are_better-clause-heads g c = rw c.wider-expansion.ensures at c.in_ok-others.ensures.heads

pub returns-then-are_better-clause-enough : goal.returns-then-are_better-clause-enough
returns-then-are_better-clause-enough g c = rw c.wider-expansion.ensures at c.in_ok-others.ensures.enough

pub returns-then-are_better-clause-fixed : goal.returns-then-are_better-clause-fixed
returns-then-are_better-clause-fixed g c = rw c.wider-expansion.ensures at c.in_ok-others.ensures.fixed

pub returns-else-are_better-clause-needed : goal.returns-else-are_better-clause-needed
returns-else-are_better-clause-needed g c = rw c.single.ensures at c.in_ok-literals.ensures.needed

pub returns-else-are_better-clause-heads : goal.returns-else-are_better-clause-heads
returns-else-are_better-clause-heads g c = rw c.single.ensures at c.in_ok-literals.ensures.heads

pub returns-else-are_better-clause-enough : goal.returns-else-are_better-clause-enough
returns-else-are_better-clause-enough g c = rw c.single.ensures at c.in_ok-literals.ensures.enough
