use Rattle.pg_grammar.proofs.pattern_list.PatternListPartialEq.eq.Goals as goal

pub returns-in-Text-Text : goal.returns-in-Text-Text
returns-in-Text-Text g c = rw (c.in-Text-Text.is-0, c.in-Text-Text.is-1) cc
