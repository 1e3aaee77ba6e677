-- How the functions of this crate read an expression from left to right, token by token. They are proved against this;
-- what a text spells stands in Grammar, and the two are proved to agree.
use Rattle.std.specs.Prelude.{ℕ, Bool, true, false, ◌&&◌, ◌==◌, nat_lt, List, [], ◌∷◌, length}
use Rattle.std.specs.Prelude.{Option, Some, None, is_some, is_none, if◌then◌else◌}
use Rattle.pg_bytes.specs.Sets.{Bytes, one, all}
use Rattle.pg_pattern.specs.Patterns.{Pattern, Set, Begin, End, Cat, Alt, Rep, folded}
use Rattle.pg_syntax.specs.BracketReading.{bracket}
use Rattle.pg_syntax.specs.IntervalReading.{bounds}
use Rattle.pg_grammar.specs.Grammar.{is_escaped, unbrace}
use Rattle.pg_grammar.specs.declared.syntax.Syntax.{Syntax}
use Rattle.pg_grammar.specs.declared.syntax.Syntax.TheVariants.{Basic, Extended}

-- an open group, or the whole: the alternatives before the last bar; of the last alternative what a mark
-- can't reach any more, and the item that a mark would repeat
pub record Level : Type 0 where
  pub alternatives : Option Pattern
  pub sequence : Option Pattern
  pub item : Option Pattern

-- nothing was read
abbrev pub fresh : Level
fresh = record { alternatives = None; sequence = None; item = None }

-- one part after the other
abbrev pub cat : Option Pattern → Option Pattern → Option Pattern
cat None q = q
cat (Some p) None = Some p
cat (Some p) (Some q) = Some (Cat p q)

-- one of two alternatives, if the second isn't empty
abbrev pub alt : Option Pattern → Option Pattern → Option Pattern
alt None q = q
alt (Some p) None = None
alt (Some p) (Some q) = Some (Alt p q)

-- what was read of the last alternative
abbrev pub last : Level → Option Pattern
last l = cat l.sequence l.item

-- what was read of the level, where its last alternative isn't empty
abbrev pub whole : Level → Option Pattern
whole l = alt l.alternatives (last l)

-- the open groups, the innermost first, and the level that is read
pub record State : Type 0 where
  pub outer : List Level
  pub level : Level

-- a group is open
abbrev pub grouped : List Level → Bool
grouped [] = false
grouped (l ∷ ls) = true

-- nothing was read of the text
abbrev pub start : State
start = record { outer = []; level = fresh }

-- the level goes on with an item
abbrev pub with_item : Pattern → Level → Level
with_item p l = record { alternatives = l.alternatives; sequence = last l; item = Some p }

-- the level goes on with an anchor, which no mark can reach
abbrev pub with_anchor : Pattern → Level → Level
with_anchor p l = record { alternatives = l.alternatives; sequence = cat (last l) (Some p); item = None }

-- what a part of the text means where it stands: a part of the pattern that can be repeated, one that can't, a mark,
-- what opens or closes a group, a bar
pub data Token : Type 0 where
  Part : Pattern → Token
  Anchor : Pattern → Token
  Repeat : ℕ → Option ℕ → Token
  Open : Token
  Close : Token
  Bar : Token

-- the state goes on with an item
abbrev pub add : Pattern → State → State
add p s = record { outer = s.outer; level = with_item p s.level }

-- the state goes on with an anchor
abbrev pub anchored : Pattern → State → State
anchored p s = record { outer = s.outer; level = with_anchor p s.level }

-- the item is repeated, if there is one
abbrev pub repeated : ℕ → Option ℕ → State → Option Pattern → Option State
repeated m n s None = None
repeated m n s (Some p) = Some (record {
  outer = s.outer;
  level = record { alternatives = s.level.alternatives; sequence = s.level.sequence; item = Some (Rep p m n) };
})

-- a group is opened, if fewer than 100 are open
abbrev pub with_group : State → Option State
with_group s = if nat_lt (length s.outer) 100 then Some (record { outer = s.level ∷ s.outer; level = fresh }) else None

-- the innermost group is closed, if there is one and its pattern isn't empty
abbrev pub popped : List Level → Option Pattern → Option State
popped [] p = None
popped (l ∷ ls) None = None
popped (l ∷ ls) (Some p) = Some (record { outer = ls; level = with_item p l })

-- another alternative begins, if the one in front of it isn't empty
abbrev pub barred : State → Option Pattern → Option State
barred s None = None
barred s (Some p) =
    Some (record { outer = s.outer; level = record { alternatives = Some p; sequence = None; item = None } })

-- the state after a token
abbrev pub after : Token → State → Option State
after (Part p) s = Some (add p s)
after (Anchor p) s = Some (anchored p s)
after (Repeat m n) s = repeated m n s s.level.item
after Open s = with_group s
after Close s = popped s.outer (whole s.level)
after Bar s = barred s (whole s.level)

-- a token, and the rest of the text
abbrev pub NextToken : Type 0
NextToken = Option (Token × List ℕ)

-- the end of a body of a basic expression
abbrev pub ends : List ℕ → Bool
ends [] = true
ends (a ∷ []) = false
ends (a ∷ b ∷ t) = (a == 92) && (b == 41)

-- the token of a bracket
abbrev pub set_token : Option (Bytes × List ℕ) → NextToken
set_token None = None
set_token (Some (s, t)) = Some (Part (Set s), t)

-- the token of an interval
abbrev pub repeat_token : Option (ℕ × Option ℕ × List ℕ) → NextToken
repeat_token None = None
repeat_token (Some (m, n, t)) = Some (Repeat m n, t)

-- the token of a backslash, by what follows it
unfoldable pub basic_escape : Bool → State → List ℕ → NextToken
basic_escape fold s [] = None
basic_escape fold s (c ∷ t) =
    if c == 40 then Some (Open, t)
    else if c == 41 then (if grouped s.outer then Some (Close, t) else None)
    else if c == 123 then repeat_token (bounds (unbrace Basic) t)
    else if is_escaped Basic c then Some (Part (Set (folded fold (one c))), t)
    else None

-- the token of a backslash, by what follows it
unfoldable pub extended_escape : Bool → List ℕ → NextToken
extended_escape fold [] = None
extended_escape fold (c ∷ t) = if is_escaped Extended c then Some (Part (Set (folded fold (one c))), t) else None

-- the token at the front of the rest of a basic expression
unfoldable pub basic_token : Bool → State → ℕ → List ℕ → NextToken
basic_token fold s b t =
    if b == 92 then basic_escape fold s t
    else if b == 91 then set_token (bracket fold (b ∷ t))
    else if b == 46 then Some (Part (Set all), t)
    else if (b == 42) && is_some s.level.item then Some (Repeat 0 None, t)
    else if (b == 94) && is_none (last s.level) then Some (Anchor Begin, t)
    else if (b == 36) && ends t then Some (Anchor End, t)
    else Some (Part (Set (folded fold (one b))), t)

-- the token of a byte that neither escapes nor repeats
abbrev pub extended_other : Bool → State → ℕ → List ℕ → NextToken
extended_other fold s b t =
    if b == 40 then Some (Open, t)
    else if (b == 41) && grouped s.outer then Some (Close, t)
    else if b == 124 then Some (Bar, t)
    else if b == 94 then Some (Anchor Begin, t)
    else if b == 36 then Some (Part End, t)
    else Some (Part (Set (folded fold (one b))), t)

-- the token at the front of the rest of an extended expression
unfoldable pub extended_token : Bool → State → ℕ → List ℕ → NextToken
extended_token fold s b t =
    if b == 92 then extended_escape fold t
    else if b == 91 then set_token (bracket fold (b ∷ t))
    else if b == 46 then Some (Part (Set all), t)
    else if b == 42 then Some (Repeat 0 None, t)
    else if b == 43 then Some (Repeat 1 None, t)
    else if b == 63 then Some (Repeat 0 (Some 1), t)
    else if b == 123 then repeat_token (bounds (unbrace Extended) t)
    else extended_other fold s b t

-- the token at the front of the rest of an expression
abbrev pub token : Syntax → Bool → State → List ℕ → NextToken
token syntax fold s [] = None
token Basic fold s (b ∷ t) = basic_token fold s b t
token Extended fold s (b ∷ t) = extended_token fold s b t
