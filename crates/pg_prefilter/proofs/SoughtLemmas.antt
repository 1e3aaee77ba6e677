-- What is looked for in a block.
use Rattle.std.proofs.Common.{◌≤◌, ℕ, Option, Some, None, List, ◌≡◌, sym, subst, arith}
use Rattle.std.specs.Option.{IfSome, MatchOption}
use Rattle.pg_selection.specs.Search.{SearchText}
use Rattle.pg_prefilter.specs.Literals.{AreLiterals}
use Rattle.pg_prefilter.specs.Candidates.{AreLiteralNeedles, AreNeedles, AreSome, IsNextSought, literals_of}
use Rattle.pg_prefilter.specs.NextHits.{HasNoNextHit, IsNextHit}
use Rattle.pg_prefilter.specs.declared.candidate.NextLine.{NextLine}
use Rattle.pg_prefilter.specs.declared.candidate.NextLine.TheVariants.{GaveUp}
use Rattle.pg_prefilter.specs.declared.literal_needles.LiteralNeedles.{LiteralNeedles}
use Rattle.pg_prefilter.specs.declared.literal_needles.LiteralNeedles.TheVariants.{Few, Many}
use Rattle.pg_prefilter.specs.declared.needles.Needles.{Needles}
use Rattle.pg_prefilter.specs.declared.needles.Needles.TheVariants.{Literals, Row, GivenUp, TooSlow}
use Rattle.pg_blocks.specs.declared.span.Span.{Span}
use Rattle.pg_prefilter.proofs.CandidateLemmas.{IsNextCandidate, next_with}
use Rattle.pg_prefilter.proofs.NeedleRowLemmas.{next_row}
use Rattle.pg_prefilter.proofs.NeedleLemmas as N

-- literals are looked for so from a later place on
literals_later : {A : Type 0} (text : SearchText) (bytes : List ℕ) (at later : ℕ) (needles : LiteralNeedles A)
    → at ≤ later
    → AreLiteralNeedles text bytes at needles → AreLiteralNeedles text bytes later needles
literals_later text bytes at later (Few list) low are = N.needles_later text bytes at later list low are
literals_later text bytes at later (Many set) low are = are

-- what is looked for is so from a later place on
pub needles_later : {A : Type 0} (text : SearchText) (bytes : List ℕ) (at later : ℕ) (needles : Needles A) → at ≤ later
    → AreNeedles text bytes at needles → AreNeedles text bytes later needles
needles_later text bytes at later (Literals needles) low are = literals_later text bytes at later needles low are
needles_later text bytes at later (Row row) low are = are
needles_later text bytes at later GivenUp low are = are
needles_later text bytes at later TooSlow low are = are

-- where a line is found, they are so behind it
pub needles_behind : {A : Type 0} (text : SearchText) (bytes : List ℕ) (at : ℕ) (needles : Needles A)
    (line : Option Span) → AreNeedles text bytes at needles
    → MatchOption line (HasNoNextHit text bytes at) (IsNextHit text bytes at)
    → IfSome line (λ line. AreNeedles text bytes line.end needles)
needles_behind text bytes at needles None are none = tt
needles_behind text bytes at needles (Some line) are next =
    needles_later text bytes at line.end needles (omega (arith, next.within.0, next.within.1)) are

-- a search that was given up tells nothing
given_up : (text : SearchText) (bytes : List ℕ) (at : ℕ) (next : NextLine) → next ≡ GaveUp
    → IsNextCandidate text at bytes next
given_up text bytes at next same = subst (IsNextCandidate text at bytes) (sym same) tt

-- the literals of a search
literals_are : {A : Type 0} (text : SearchText) (bytes : List ℕ) (at : ℕ) (needles : LiteralNeedles A)
    → AreLiteralNeedles text bytes at needles → AreLiterals text (literals_of needles)
literals_are text bytes at (Few list) are = are.literals
literals_are text bytes at (Many set) are = are.literals

-- the first line that holds what they are of is the first that may have a hit
pub next_sought : {A : Type 0} (text : SearchText) (bytes : List ℕ) (at : ℕ) (needles : Needles A) (next : NextLine)
    → AreNeedles text bytes at needles → AreSome needles → IsNextSought text needles at bytes next
    → IsNextCandidate text at bytes next
next_sought text bytes at (Literals needles) next are some sought =
    next_with text (literals_of needles) (literals_are text bytes at needles are) some at bytes next sought
next_sought text bytes at (Row row) next are some sought = next_row text row.finder.now are.0 at bytes next sought
next_sought text bytes at GivenUp next are some sought = given_up text bytes at next sought
next_sought text bytes at TooSlow next are some sought = given_up text bytes at next sought

-- how often literals may take the place of what is looked for: once, that of a row
abbrev pub turns : {X : Type 0} → Option X → ℕ
turns None = 0
turns (Some row) = 1
