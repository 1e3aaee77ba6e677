-- Values of the program as plain data, without where they lie in memory.
use Rattle.pg_match.specs.Automata.{Nfa, IsRunnable}
use Rattle.pg_match.specs.StateSets.{Members, Buffers}
use Rattle.pg_match.specs.Closures.{AreSeeds}
use Rattle.pg_match.specs.Starts.{AreStarts}
use Rattle.pg_match.specs.declared.automaton.Automaton.{Automaton}
use Rattle.pg_match.specs.declared.sparse_set.StateSet.{StateSet}
use Rattle.pg_match.specs.declared.search.StateSets.{StateSets}
use Rattle.pg_match.specs.Dfas.{Dfa, IsDfaOf}
use Rattle.pg_match.specs.Anchored.{IsAnchoredDfaOf}
use Rattle.pg_match.specs.declared.dfa_cache.Cache.{Cache}
use Rattle.pg_match.specs.Stands.{RunsEndWithin}
use Rattle.std.specs.Prelude.{◌≡◌, ℕ, ◌+◌, Option, Some, None, IfSome, length}

abbrev pub nfa : {A : Type 0} → Automaton A → Nfa
nfa m = record { states = m.states.items; start = m.start; bounds = m.bounds; some = m.some }

abbrev pub members : {A : Type 0} → StateSet A → Members
members s = record { order = s.order.items; marks = s.marks.items; len = s.len; added = length s.added.items }

abbrev pub buffers : {A : Type 0} → StateSets A → Buffers
buffers s = record { current = members s.current; next = members s.next }

-- how many states were ever added to the sets of places
abbrev pub added : {A : Type 0} → StateSets A → ℕ
added s = (members s.current).added + (members s.next).added

-- the number of visits grew by as much as states were added
abbrev pub Tells : {A : Type 0} → StateSets A → StateSets A → Type 0
Tells old new = new.visits + added old ≡ old.visits + added new

-- an automaton as it is built: a table that can be run, the seeds of its start, and what each byte leads to from these;
-- and where its reach is known, that is true
pub record IsBuilt {A : Type 0} (m : Automaton A) : Type 0 where
  pub runs : IsRunnable (nfa m)
  pub seeds : AreSeeds m.states.items m.start m.seeds.items
  pub starts : AreStarts m.states.items m.seeds.items m.starts.targets.items m.starts.cuts.items m.starts.accepts
  pub reach : IfSome m.reach (RunsEndWithin (nfa m))

-- a cache as plain data
abbrev pub dfa : {A : Type 0} → Cache A → Dfa
dfa t = record {
  steps = t.steps.items;
  ends = t.ends.items;
  flags = t.flags.items;
  pool = t.pool.items;
  cuts = t.cuts.items;
  count = t.count;
}

-- a cache may have as many sets and states as before, and has been left for as many bytes
abbrev pub SameLimits : {A : Type 0} → Cache A → Cache A → Type 0
SameLimits old new = (new.most ≡ old.most) × (new.is_half ≡ old.is_half) × (new.lost ≡ old.lost)

-- what the cache, if there is one, has of the DFA is true of the automaton
abbrev pub CachesDfaOf : {A : Type 0} → Option (Cache A) → Nfa → Type 0
CachesDfaOf None m = Unit {0}
CachesDfaOf (Some t) m = IsDfaOf m (dfa t)

-- what the cache, if there is one, has of the DFA of the runs of one start is true of the automaton
abbrev pub CachesAnchoredDfaOf : {A : Type 0} → Option (Cache A) → Nfa → Type 0
CachesAnchoredDfaOf None m = Unit {0}
CachesAnchoredDfaOf (Some t) m = IsAnchoredDfaOf m (dfa t)
