-- What is told of a name that gives no file.
use Rattle.std.specs.Prelude.{ℕ, List, ◌++◌, codes}
use Rattle.pg_base.specs.declared.cause.Cause.{Cause}
use Rattle.pg_base.specs.declared.cause.Cause.TheVariants.{CannotOpen, ReadFailed, IsDirectory, CannotList, BadName}
use Rattle.pg_base.specs.declared.cause.Cause.TheVariants.{TooDeep, InCircle, IsOutput}

-- in words
abbrev pub cause_text : Cause → List ℕ
cause_text CannotOpen = codes "cannot open"
cause_text ReadFailed = codes "read failed"
cause_text IsDirectory = codes "is a directory"
cause_text CannotList = codes "cannot list"
cause_text BadName = codes "holds a name that is not UTF-8"
cause_text TooDeep = codes "too deep"
cause_text InCircle = codes "links in a circle"
cause_text IsOutput = codes "is also the output"

-- the line that tells of it
abbrev pub fault_line : List ℕ → Cause → List ℕ
fault_line name cause = codes "pargrep: " ++ name ++ codes ": " ++ cause_text cause ++ codes "\n"
