-- A level of the builder as plain data.
use Rattle.pg_syntax.specs.Machine as M
use Rattle.pg_pattern.specs.Trees.{pattern_of}
use Rattle.pg_syntax.specs.declared.builder.Level.{Level}

-- the level without where its trees lie in memory
abbrev pub level_of : {A : Type 0} → Level A → M.Level
level_of l =
    record { alternatives = pattern_of l.alternatives; sequence = pattern_of l.sequence; item = pattern_of l.item }
