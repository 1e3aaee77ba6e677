-- How the functions of this crate read a bracket from left to right. They are proved against this; what a bracket is
-- stands in Brackets, and the two are proved to agree.
use Rattle.std.specs.Prelude.{ℕ, zero, suc, ◌+◌, ◌-◌, ◌≡◌, ◌<◌, Bool, true, false, not, ◌&&◌, ◌==◌, nat_le, List, []}
use Rattle.std.specs.Prelude.{◌∷◌, length, drop, slice_index, ◌⊎◌, Option, Some, None, option_and_then, if◌then◌else◌}
use Rattle.pg_bytes.specs.Sets.{Bytes, empty, between, union, complement}
use Rattle.pg_pattern.specs.Patterns.{folded}
use Rattle.pg_grammar.specs.Brackets.{Element, Single, Enclosed, opens, member, end_point, is_dash}

-- what stands before an end, and after it
abbrev pub BracketContent : Type 0
BracketContent = Option (List ℕ × List ℕ)

-- one more byte stands in front
abbrev pub with_byte : ℕ → BracketContent → BracketContent
with_byte a None = None
with_byte a (Some x) = Some (a ∷ x.0, x.1)

-- what stands before the first mark with a `]`, and after them
abbrev pub until : ℕ → List ℕ → BracketContent
until c [] = None
until c (a ∷ []) = None
until c (a ∷ b ∷ t) = if (a == c) && (b == 93) then Some ([], t) else with_byte a (until c (b ∷ t))

-- the enclosed element of a content
abbrev pub enclosed_in : ℕ → BracketContent → Option (Element × List ℕ)
enclosed_in c None = None
enclosed_in c (Some x) = Some (Enclosed c x.0, x.1)

-- the enclosed element whose mark stands at the front, and what is left after it
abbrev pub enclosed_at : List ℕ → Option (Element × List ℕ)
enclosed_at [] = None
enclosed_at (c ∷ t) = enclosed_in c (until c t)

-- the elements up to the closing `]`, and what is left after it
abbrev pub Elements : Type 0
Elements = Option (List Element × List ℕ)

-- one more element stands in front
abbrev pub with_element : Element → Elements → Elements
with_element e None = None
with_element e (Some x) = Some (e ∷ x.0, x.1)

-- the elements of a bracket; the number bounds how many there are
unfoldable pub inside_at : ℕ → Bool → List ℕ → Elements
inside_at zero first t = None
inside_at (suc n) first [] = None
inside_at (suc n) first (b ∷ t) =
    if (b == 93) && not first then Some ([], t)
    else if (b == 91) && opens t then
    option_and_then (λ (e, rest). with_element e (inside_at n false rest)) (enclosed_at t)
    else with_element (Single b) (inside_at n false t)

-- the union of two sets that are both there
abbrev pub unite : Option Bytes → Option Bytes → Option Bytes
unite None t = None
unite (Some s) None = None
unite (Some s) (Some t) = Some (union s t)

-- the range between two end points
abbrev pub range_of : Option ℕ → Option ℕ → Option Bytes
range_of None n = None
range_of (Some m) None = None
range_of (Some m) (Some n) = if nat_le m n then Some (between m n) else None

-- what the last element may still do: there is none, it may begin a range, it and a `-` begin one, a range ended, a
-- range ended and a `-` stood behind it
pub data Mode : Type 0 where
  Fresh : Mode
  Held : Element → Mode
  Dashed : Element → Element → Mode
  Ranged : Mode
  Barred : Element → Mode

-- the bytes of the elements that follow, and of those that are held
abbrev pub members_of : Mode → List Element → Option Bytes
members_of Fresh [] = Some empty
members_of (Held a) [] = unite (member a) (Some empty)
members_of (Dashed a d) [] = unite (member a) (unite (member d) (Some empty))
members_of Ranged [] = Some empty
members_of (Barred d) [] = unite (member d) (Some empty)
members_of Fresh (a ∷ es) = members_of (Held a) es
members_of (Held a) (d ∷ es) =
    if is_dash d then members_of (Dashed a d) es else unite (member a) (members_of (Held d) es)
members_of (Dashed a d) (b ∷ es) = unite (range_of (end_point a) (end_point b)) (members_of Ranged es)
members_of Ranged (d ∷ es) = if is_dash d then members_of (Barred d) es else members_of (Held d) es
members_of (Barred d) (b ∷ es) = None

-- the set of the elements, folded and then changed by f
abbrev pub set_of : Bool → (Bytes → Bytes) → Elements → Option (Bytes × List ℕ)
set_of fold f None = None
set_of fold f (Some x) = option_and_then (λ s. Some (f (folded fold s), x.1)) (members_of Fresh x.0)

-- the set as it is
abbrev pub same : Bytes → Bytes
same s = s

-- the set of the bracket at the front, and what is left after it
unfoldable pub bracket : Bool → List ℕ → Option (Bytes × List ℕ)
bracket fold [] = None
bracket fold (b ∷ []) = None
bracket fold (b ∷ c ∷ t) =
    if c == 94 then set_of fold complement (inside_at (length t) true t)
    else set_of fold same (inside_at (length t + 1) true (c ∷ t))

-- how far the elements are read: what the last of them may still do, the set of those before, and whether one was bad
pub record Reading : Type 0 where
  pub mode : Mode
  pub set : Bytes
  pub bad : Bool

-- what is read in all, if these elements follow
abbrev pub read : Reading → List Element → Option Bytes
read r es = if r.bad then None else unite (Some r.set) (members_of r.mode es)

-- a part of the set was read, or a bad part
abbrev pub add_element : Reading → Option Bytes → Mode → Reading
add_element r None mode = record { mode = mode; set = r.set; bad = true }
add_element r (Some s) mode = record { mode = mode; set = union r.set s; bad = r.bad }

-- only the mode changes
abbrev pub go : Reading → Mode → Reading
go r mode = record { mode = mode; set = r.set; bad = r.bad }

-- one more element is read in a mode
abbrev pub put_in : Reading → Mode → Element → Reading
put_in r Fresh a = go r (Held a)
put_in r (Held a) d = if is_dash d then go r (Dashed a d) else add_element r (member a) (Held d)
put_in r (Dashed a d) b = add_element r (range_of (end_point a) (end_point b)) Ranged
put_in r Ranged d = if is_dash d then go r (Barred d) else go r (Held d)
put_in r (Barred d) b = add_element r None Ranged

-- one more element is read
abbrev pub put : Reading → Element → Reading
put r a = put_in r r.mode a

-- no element follows in a mode
abbrev pub finish_in : Reading → Mode → Reading
finish_in r Fresh = r
finish_in r (Held a) = add_element r (member a) Fresh
finish_in r (Dashed a d) = add_element (add_element r (member a) Fresh) (member d) Fresh
finish_in r Ranged = r
finish_in r (Barred d) = add_element r (member d) Fresh

-- what is read where no element follows
abbrev pub finish : Reading → Option Bytes
finish r = let s = finish_in r r.mode in if s.bad then None else Some s.set

-- the element at the front, and what is left after it
abbrev pub element_at : List ℕ → Option (Element × List ℕ)
element_at [] = None
element_at (b ∷ t) = if (b == 91) && opens t then enclosed_at t else Some (Single b, t)

-- the set of the bracket whose elements are still to be read, and what is left after it
abbrev pub rest_of : Reading → Elements → Option (Bytes × List ℕ)
rest_of r None = None
rest_of r (Some x) = option_and_then (λ s. Some (s, x.1)) (read r x.0)

-- a single byte is the element at this offset of a text
abbrev pub SingleAt : List ℕ → ℕ → Type 0
SingleAt text at = element_at (drop at text) ≡ Some (Single (slice_index text at), drop (at + 1) text)

-- an enclosed element begins at this offset of a text
pub record EnclosedAt (text : List ℕ) (at mark : ℕ) : Type 0 where
  pub reads : element_at (drop at text) ≡ enclosed_in mark (until mark (drop (at + 2) text))
  pub stands : drop at text ≡ 91 ∷ mark ∷ drop (at + 2) text
  pub is_mark : (mark ≡ 58) ⊎ ((mark ≡ 61) ⊎ (mark ≡ 46))
  pub within : at + 1 < length text

-- before the first element
abbrev pub unread : Reading
unread = record { mode = Fresh; set = empty; bad = false }

-- the set of the elements from this offset on, and what is left after their `]`
abbrev pub elements_from : List ℕ → ℕ → Option (Bytes × List ℕ)
elements_from text start = rest_of unread (inside_at (length text - start) true (drop start text))

-- folded, and then complemented
abbrev pub shape : Bool → Bool → Bytes → Bytes
shape negated fold s = if negated then complement (folded fold s) else folded fold s
