-- Bytes of rows that aren't a file's own.
use Rattle.std.specs.Prelude.{ℕ}

-- what follows a name, a number or an offset before a line that is kept, or before a part
abbrev pub colon : ℕ
colon = 58

-- what follows a name, a number or an offset before a line of context
abbrev pub hyphen : ℕ
hyphen = 45

-- what the rows of counts and names end with
abbrev pub newline : ℕ
newline = 10

-- what stands before a line's text where -T asks for it
abbrev pub tab : ℕ
tab = 9
