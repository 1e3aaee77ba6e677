-- What a sink takes of a text, and when it counts a failure.
use Rattle.std.specs.Prelude.{◌≡◌, ◌≢◌, ℕ, ◌<◌, ◌≤◌, List, [], ◌++◌, length, take, Option, Result}
use Rattle.std.specs.Result.{MatchResult, OnOk, OnErr}

-- what a sink took so far, and how often a write failed
pub record Stream : Type 0 where
  pub taken : List ℕ
  pub failures : ℕ

-- no byte was taken of some
abbrev pub Stalls : List ℕ → ℕ → Type 0
Stalls text count = (count ≡ 0) × (text ≢ [])

-- The first `count` bytes of the text were taken. A failure was counted where the sink stalled, and nowhere else.
pub record Takes (text : List ℕ) (before after : Stream) (count : ℕ) : Type 0 where
  pub within : count ≤ length text
  pub taken : after.taken ≡ before.taken ++ take count text
  pub failure : Stalls text count → before.failures < after.failures
  pub no_failure : ¬ (Stalls text count) → after.failures ≡ before.failures

-- no byte was taken, and a failure was counted
pub record Refuses (before after : Stream) : Type 0 where
  pub taken : after.taken ≡ before.taken
  pub failure : before.failures < after.failures

-- One write of a text: Ok(k) took its first k bytes, Err none. The count of failures never falls; it rises at Err and
-- at Ok(0) for a text that isn't empty, and else stays.
pub record Writes {E : Type 0} (text : List ℕ) (before after : Stream) (result : Result ℕ E) : Type 0 where
  pub never_falls : before.failures ≤ after.failures
  pub outcome : MatchResult result (Takes text before after) (λ _. Refuses before after)

-- What was held back was sent on, which takes no byte. A failure was counted at Err, and nowhere else.
pub record Flushes {T E : Type 0} (before after : Stream) (result : Result T E) : Type 0 where
  pub taken : after.taken ≡ before.taken
  pub outcome : MatchResult result (λ _. after.failures ≡ before.failures) (λ _. before.failures < after.failures)

-- one list begins another
abbrev pub IsBeginning : List ℕ → List ℕ → Type 0
IsBeginning front whole = (rest : List ℕ) × (front ++ rest ≡ whole)

-- some beginning of the text was taken
abbrev pub TakesPart : List ℕ → List ℕ → List ℕ → Type 0
TakesPart text before after = (part : List ℕ) × IsBeginning part text × (after ≡ before ++ part)

-- all of the text was taken, and no write failed
pub record WritesAll (text : List ℕ) (before after : Stream) : Type 0 where
  pub taken : after.taken ≡ before.taken ++ text
  pub no_failure : after.failures ≡ before.failures

-- a beginning of the text was taken, and a write failed
pub record WritesPart (text : List ℕ) (before after : Stream) : Type 0 where
  pub part : TakesPart text before.taken after.taken
  pub failure : before.failures < after.failures

-- At Ok all of the text was taken and no write failed; at Err a beginning of it was, and a write failed.
pub record WritesText {T E : Type 0} (text : List ℕ) (before after : Stream) (result : Result T E) : Type 0 where
  pub ok : OnOk result (WritesAll text before after)
  pub err : OnErr result (WritesPart text before after)

-- a sink over memory as plain data: what it took, how often it failed, how many bytes it takes in all and in one write
pub record MemSinkData : Type 0 where
  pub stream : Stream
  pub limit : ℕ
  pub write_limit : ℕ

-- a sink over a writer as plain data: what it took, how often it failed, and the bytes that the writer holds, where the
-- writer tells them
pub record OutData : Type 0 where
  pub stream : Stream
  pub contents : Option (List ℕ)
