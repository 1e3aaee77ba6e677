-- What a text is compiled to, and why one can't be.
use Rattle.std.specs.Prelude.{◌≡◌, ◌<◌, ◌≤◌, ℕ, List, length}
use Rattle.std.specs.Borrow.{Bor}
use Rattle.std.specs.List.{All}
use Rattle.pg_grammar.specs.Slices.{bytes_of}
use Rattle.pg_prefilter.specs.Prefilters.{IsPrefilterOf}
use Rattle.pg_prefilter.specs.declared.prefilter.Prefilter.{Prefilter}
use Rattle.pg_grammar.specs.ListResults.{IsFirstRefused}
use Rattle.pg_match.specs.Automata.{Nfa}
use Rattle.pg_match.specs.Machines.{IsMachineOf}
use Rattle.pg_match.specs.Sizes.{list_size}
use Rattle.pg_selection.specs.Search.{SearchText, Pattern, Kind, patterns, AreTreesOf, bounds_of}
use Rattle.pg_syntax.specs.Plain.{IsPlain}
use Rattle.pg_lines.specs.declared.query.QueryFault.{QueryFault}
use Rattle.pg_lines.specs.declared.query.QueryFault.TheVariants.{Syntax, TooLarge, OutOfMemory}

-- a query that can be searched for: what it was compiled from, and its automaton
pub record Compiled : Type 0 where
  pub text : SearchText
  pub machine : Nfa

-- the patterns spell trees, the automaton is theirs, and they ask for at most 65,536 states
abbrev pub IsCompiled : Compiled → Type 0
IsCompiled q =
    (trees : List Pattern) × AreTreesOf q.text trees × IsMachineOf q.machine trees (bounds_of q.text)
    × (list_size trees ≤ 65536)

-- what searches for a text: its automaton, and what was found in its patterns
abbrev pub AreSearchersOf : {A : Type 0} → SearchText → Nfa → Prefilter A → Type 0
AreSearchersOf text machine prefilter =
    IsCompiled (record { text = text; machine = machine }) × IsPrefilterOf text prefilter

-- a pattern's text has no special byte, and isn't too long: it spells what it spells as a fixed string (XCU grep, -F)
abbrev pub IsPlainText : Kind → List ℕ → Type 0
IsPlainText kind text = (length text ≤ 4096) × IsPlain kind text

-- the patterns are such texts, and these are they
pub record AreItsStrings (text : SearchText) (strings : List (Bor (List ℕ))) : Type 0 where
  pub each : bytes_of strings ≡ patterns text.lists
  pub plain : All (λ string. IsPlainText text.kind string.now) strings

-- Why a text isn't compiled: some pattern spells no tree, and the fault is the first such one's; or all spell trees,
-- which ask for more than 65,536 states; or a request for memory was refused.
abbrev pub IsQueryFault : SearchText → QueryFault → Type 0
IsQueryFault text (Syntax fault) = IsFirstRefused text.kind text.fold (patterns text.lists) fault
IsQueryFault text TooLarge = (trees : List Pattern) × AreTreesOf text trees × (65536 < list_size trees)
IsQueryFault text OutOfMemory = Unit {0}
