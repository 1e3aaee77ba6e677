-- The rule of a tray's queue, which each put and each take keeps.
use Rattle.std.specs.Prelude.{◌≡◌, ℕ, ◌<◌, ◌==◌, List, [], ◌∷◌, ◌++◌, length, map, if◌then◌else◌}
use Rattle.std.specs.List.{AllByRecursion}
use mathlib.Core.Option.{some}
use lib.ListN.{get_elem?}
use Rattle.pg_board.specs.Counts.{total, once_below}
use Rattle.pg_board.specs.Merge.{IsMerge, BeginsMerge}
use Rattle.pg_board.specs.declared.puts.Entry.{Entry}
use Rattle.pg_board.specs.declared.puts.Puts.{Puts}
use Rattle.pg_board.specs.declared.puts.PassView.{PassView}

module _ {T : Type 0} where
  abbrev pub puts : ℕ → List T → Puts T
  puts pass values = record { pass = pass; values = values }

  abbrev pub pass_view : List (Puts T) → ℕ → ℕ → List (Entry T) → PassView T
  pass_view passes takers made taken = record { passes = passes; takers = takers; made = made; taken = taken }

  -- the values of the pass with this number, in their order
  abbrev pub put_by : ℕ → List (Entry T) → List T
  put_by p [] = []
  put_by p (e ∷ entries) = if e.pass == p then e.value ∷ put_by p entries else put_by p entries

  abbrev pub values_in : List (Entry T) → List T
  values_in entries = map (λ e. e.value) entries

  -- what each of the passes put
  abbrev pub lists_of : List (Puts T) → List (List T)
  lists_of passes = map (λ p. p.values) passes

  -- what the first of the passes put
  abbrev pub first_values : List (Puts T) → List T
  first_values [] = []
  first_values (p ∷ passes) = p.values

  -- how many of the passes have this number
  abbrev pub passes_numbered : ℕ → List (Puts T) → ℕ
  passes_numbered n passes = total (λ p. if p.pass == n then 1 else 0) passes

  -- What a view knows is so: the one that takes knows what was taken and how many passes were made, and of each of its
  -- passes it knows all that the pass put.
  pub record Knows (made : ℕ) (taken items : List (Entry T)) (v : PassView T) : Type 0 where
    pub taker : 0 < v.takers → (v.taken ≡ taken) × (v.made ≡ made)
    pub putters : AllByRecursion (λ p. p.values ≡ put_by p.pass (taken ++ items)) v.passes

  -- One view takes; the passes have the numbers below the count of those made, each once; each value has the number of
  -- a pass; and each view knows what is so. So what was taken, and then what the queue holds, is a merge of what the
  -- passes put.
  pub record KeepsTray (items : List (Entry T)) (views : List (PassView T)) : Type 0 where
    pub made : ℕ
    pub taken : List (Entry T)
    pub one_taker : total (λ v. v.takers) views ≡ 1
    pub all_passes : total (λ v. length v.passes) views ≡ made
    pub each_pass : (n : ℕ) → total (λ v. passes_numbered n v.passes) views ≡ once_below n made
    pub numbered : AllByRecursion (λ e. e.pass < made) (taken ++ items)
    pub each_view : (at : ℕ) (v : PassView T) → get_elem? views at ≡ some v → Knows made taken items v

  -- what a put tells: the value stands last in the pass's list
  abbrev pub PutOne : PassView T → Entry T → PassView T → Type 0
  PutOne v e w = w ≡ pass_view (puts e.pass (first_values v.passes ++ e.value ∷ []) ∷ []) v.takers v.made v.taken

  -- what a take tells: the value stands last in what was taken
  abbrev pub TakeOne : PassView T → Entry T → PassView T → Type 0
  TakeOne v e w = w ≡ pass_view v.passes v.takers v.made (v.taken ++ e ∷ [])

  -- what is told where a value is handed out: what was taken goes on to be a merge of all puts
  abbrev pub HandOutOne : PassView T → Entry T → PassView T → Type 0
  HandOutOne v e w = TakeOne v e w × BeginsMerge (lists_of v.passes) (values_in v.taken ++ e.value ∷ [])

  -- what was taken, and then what is held, is a merge of all puts
  abbrev pub IsWholeMerge : PassView T → List (Entry T) → Type 0
  IsWholeMerge v items = IsMerge (lists_of v.passes) (values_in (v.taken ++ items))
