-- The texts of faults.
use Rattle.std.specs.Prelude.{ℕ, List, ◌++◌, codes}
use Rattle.std.specs.Fmt.{decimal}
use Rattle.pg_grammar.specs.declared.fault.FaultKind.{FaultKind}
use Rattle.pg_grammar.specs.declared.fault.FaultKind.TheVariants.{TrailingBackslash, BadEscape, BackReference}
use Rattle.pg_grammar.specs.declared.fault.FaultKind.TheVariants.{UnmatchedBracket, BadClass, BadCollating, BadRange}
use Rattle.pg_grammar.specs.declared.fault.FaultKind.TheVariants.{UnmatchedGroup, BadInterval, NothingToRepeat}
use Rattle.pg_grammar.specs.declared.fault.FaultKind.TheVariants.{EmptyOperand, TooDeep, OutOfMemory, TooLong}
use Rattle.pg_grammar.specs.declared.fault.SyntaxFault.{SyntaxFault}
use Rattle.pg_grammar.specs.declared.fault.ListFault.{ListFault}

-- what is wrong
abbrev pub kind_text : FaultKind → List ℕ
kind_text TrailingBackslash = codes "trailing backslash"
kind_text BadEscape = codes "bad escape"
kind_text BackReference = codes "back reference"
kind_text UnmatchedBracket = codes "unmatched bracket"
kind_text BadClass = codes "bad class"
kind_text BadCollating = codes "bad collating element"
kind_text BadRange = codes "bad range"
kind_text UnmatchedGroup = codes "unmatched group"
kind_text BadInterval = codes "bad interval"
kind_text NothingToRepeat = codes "nothing to repeat"
kind_text EmptyOperand = codes "empty operand"
kind_text TooDeep = codes "groups too deep"
kind_text OutOfMemory = codes "out of memory"
kind_text TooLong = codes "pattern too long"

-- the first text for a refused request for memory, which stands nowhere, and the second for every other fault
abbrev pub text_by_kind : FaultKind → List ℕ → List ℕ → List ℕ
text_by_kind OutOfMemory memory other = memory
text_by_kind kind memory other = other

-- what is wrong, and where
abbrev pub fault_text : SyntaxFault → List ℕ
fault_text f = text_by_kind f.kind (kind_text f.kind) (kind_text f.kind ++ (codes " at " ++ decimal f.at))

-- in which pattern what is wrong, and where
abbrev pub list_text : ListFault → List ℕ
list_text f =
    text_by_kind f.fault.kind (fault_text f.fault)
    (codes "pattern " ++ (decimal f.pattern ++ (codes ": " ++ fault_text f.fault)))
