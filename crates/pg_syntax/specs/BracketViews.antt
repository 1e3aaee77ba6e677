-- The elements and readings of the program as plain data.
use Rattle.std.specs.Prelude.{is_some}
use Rattle.pg_bytes.specs.ByteSets.{bytes}
use Rattle.pg_grammar.specs.Brackets as B
use Rattle.pg_syntax.specs.BracketReading as R
use Rattle.pg_syntax.specs.declared.element.Element.{Element}
use Rattle.pg_syntax.specs.declared.element.Element.TheVariants.{Single, Enclosed}
use Rattle.pg_syntax.specs.declared.bracket.Mode.{Mode}
use Rattle.pg_syntax.specs.declared.bracket.Mode.TheVariants.{Fresh, Held, Dashed, Ranged, Barred}
use Rattle.pg_syntax.specs.declared.bracket.Reading.{Reading}

-- the element, with its content in place of a reference
abbrev pub element : Element → B.Element
element (Single b) = B.Single b
element (Enclosed mark content) = B.Enclosed mark content.now

-- the single byte `-`
abbrev pub dash : B.Element
dash = B.Single 45

-- the mode without offsets
abbrev pub mode_of : Mode → R.Mode
mode_of Fresh = R.Fresh
mode_of (Held at a) = R.Held (element a)
mode_of (Dashed at a) = R.Dashed (element a) dash
mode_of (Ranged at) = R.Ranged
mode_of (Barred at) = R.Barred dash

-- the reading without offsets and the kind of its fault
abbrev pub reading : Reading → R.Reading
reading r = record { mode = mode_of r.mode; set = bytes r.set; bad = is_some r.fault }
