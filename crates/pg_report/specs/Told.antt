-- What the program tells on standard error.
use Rattle.std.specs.Prelude.{◌⊎◌, ℕ, List, ◌++◌, codes, Option, Some, None}
use Rattle.std.specs.Fmt.{decimal}
use Rattle.pg_grammar.specs.FaultTexts.{kind_text}
use Rattle.pg_grammar.specs.declared.fault.ListFault.{ListFault}
use Rattle.pg_base.specs.Sink.{Stream, WritesAll, WritesPart}
use Rattle.pg_base.specs.Causes.{fault_line as file_line}
use Rattle.pg_words.specs.Usage.{usage_text}
use Rattle.pg_report.specs.Shown.{shown_lines, pattern_shown}
use Rattle.pg_request.specs.declared.fault.Fault.{Fault}
use Rattle.pg_request.specs.declared.fault.Fault.TheVariants.{NotText, Usage, Unreadable, Pattern, TooLarge}
use Rattle.pg_request.specs.declared.fault.Fault.TheVariants.{OutOfMemory, WriteFailed, TooManyFiles, LineTooLong}

-- a line that is about no file and no pattern
abbrev pub plain_line : List ℕ → List ℕ
plain_line text = codes "pargrep: " ++ text ++ codes "\n"

-- the line of a pattern's fault: which pattern, counted from 1 over all -e texts and then all -f files; what is wrong;
-- and at which offset of the pattern, counted from 0
abbrev pub pattern_line : ListFault → List ℕ
pattern_line f =
    codes "pargrep: pattern " ++ decimal f.pattern ++ codes ": " ++ kind_text f.fault.kind ++ codes " at "
    ++ decimal f.fault.at ++ codes "\n"

-- the line of a fault
abbrev pub line_of : Fault → List ℕ
line_of NotText = plain_line (codes "an argument is not UTF-8")
line_of (Usage fault) = plain_line (usage_text fault)
line_of (Unreadable name cause) = file_line name.now cause
line_of (Pattern fault) = pattern_line fault
line_of TooLarge = plain_line (codes "pattern too large")
line_of OutOfMemory = plain_line (codes "out of memory")
line_of WriteFailed = plain_line (codes "write failed")
line_of TooManyFiles = plain_line (codes "too many files")
line_of LineTooLong = plain_line (codes "line too long")

-- the lines of a pattern's fault: the first, and below it the pattern, if it is shown
abbrev pub lines_of_pattern : (text : Option (List ℕ)) → ListFault → List ℕ
lines_of_pattern None f = pattern_line f
lines_of_pattern (Some text) f = pattern_line f ++ shown_lines text f

-- the lines of a fault of a search for the patterns of these texts
abbrev pub lines_of_fault : (texts : List (List ℕ)) → Fault → List ℕ
lines_of_fault texts (Pattern fault) = lines_of_pattern (pattern_shown texts fault) fault
lines_of_fault texts fault = line_of fault

-- the fault is about neither a file nor a pattern
abbrev pub IsPlainFault : Fault → Type 0
IsPlainFault (Unreadable name cause) = ⊥
IsPlainFault (Pattern fault) = ⊥
IsPlainFault fault = Unit {0}

-- the text was written; or a beginning of it, and standard error failed
abbrev pub TellsText : List ℕ → Stream → Stream → Type 0
TellsText text err err' = WritesAll text err err' ⊎ WritesPart text err err'

-- the lines of a fault of a search were written; or a beginning of them, and standard error failed
abbrev pub TellsOfSearch : (texts : List (List ℕ)) → Fault → Stream → Stream → Type 0
TellsOfSearch texts fault = TellsText (lines_of_fault texts fault)

-- the line of a fault was written; or a beginning of it, and standard error failed
abbrev pub TellsFault : Fault → Stream → Stream → Type 0
TellsFault fault = TellsText (line_of fault)
