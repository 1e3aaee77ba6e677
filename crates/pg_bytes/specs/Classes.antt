-- The character classes of the C locale (XBD 7.3.1, LC_CTYPE; 9.3.5, rule 6).
use Rattle.std.specs.Prelude.{ℕ, not, ◌&&◌, nat_eq, List, Option, Some, None, if◌then◌else◌, codes}
use lib.Pointwise.{pointwise}
use Rattle.pg_bytes.specs.Sets.{Bytes, one, between, union, upper, lower}

-- the letters
abbrev pub alpha : Bytes
alpha = union upper lower

-- the decimal digits
abbrev pub digit : Bytes
digit = between 48 57

-- the letters and the decimal digits
abbrev pub alnum : Bytes
alnum = union alpha digit

-- the hexadecimal digits, in both cases
abbrev pub xdigit : Bytes
xdigit = union digit (union (between 65 70) (between 97 102))

-- tab and space
abbrev pub blank : Bytes
blank = union (one 9) (one 32)

-- tab, newline, vertical tab, form feed, carriage return and space
abbrev pub space : Bytes
space = union (between 9 13) (one 32)

-- the control characters
abbrev pub cntrl : Bytes
cntrl = union (between 0 31) (one 127)

-- the characters with a glyph, without the space
abbrev pub graph : Bytes
graph = between 33 126

-- the characters with a glyph, and the space
abbrev pub print : Bytes
print = between 32 126

-- the characters with a glyph that are neither letters nor digits
abbrev pub punct : Bytes
punct n = graph n && not (alnum n)

-- this set where the name is this one, else what another name gives
abbrev pub class_or : List ℕ → List ℕ → Bytes → Option Bytes → Option Bytes
class_or name is s other = if pointwise nat_eq name is then Some s else other

-- the set of the class of a name, and `None` for every other name
abbrev pub class : List ℕ → Option Bytes
class name =
    class_or name (codes "upper") upper
    (class_or name (codes "lower") lower
    (class_or name (codes "alpha") alpha
    (class_or name (codes "digit") digit
    (class_or name (codes "alnum") alnum
    (class_or name (codes "xdigit") xdigit
    (class_or name (codes "blank") blank
    (class_or name (codes "space") space
    (class_or name (codes "cntrl") cntrl
    (class_or name (codes "graph") graph
    (class_or name (codes "print") print
    (class_or name (codes "punct") punct
    None)))))))))))
