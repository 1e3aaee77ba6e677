-- The lines of a pattern that is shown, by their parts. For telling::shown_parts and telling::tell_shown.
use Rattle.std.proofs.Common.{◌≡◌, ℕ, ◌+◌, List, [], ◌++◌, append-nil, append_assoc, codes, refl, replicate}
use Rattle.std.specs.Prelude.{slice_index}
use Rattle.std.specs.Fmt.{decimal}
use Rattle.pg_grammar.specs.FaultTexts.{kind_text}
use Rattle.pg_grammar.specs.declared.fault.ListFault.{ListFault}
use Rattle.pg_report.specs.Shown.{advice, shown_lines}
use Rattle.pg_report.specs.Told.{pattern_line}

pub parts_join : (a b c d e f g h i j k l m : List ℕ)
    → a ++ (b ++ (c ++ (d ++ (e ++ (f ++ (g ++ (h ++ (i ++ (j ++ (k ++ (l ++ (m ++ []))))))))))))
    ≡ (a ++ b ++ c ++ d ++ e ++ f ++ g) ++ (h ++ i ++ j ++ k ++ l ++ m)
parts_join a b c d e f g h i j k l m = simp (append_assoc, append-nil)

pub lines_are : (fault : ListFault) (text number reason offset blanks told : List ℕ) (next : ℕ)
    → number ≡ decimal fault.pattern → reason ≡ kind_text fault.fault.kind → offset ≡ decimal fault.fault.at
    → blanks ≡ replicate fault.fault.at 32 → told ≡ advice fault.fault.kind next
    → next ≡ slice_index text (fault.fault.at + 1)
    → (codes "pargrep: pattern " ++ number ++ codes ": " ++ reason ++ codes " at " ++ offset ++ codes "\n")
    ++ (codes "pargrep:   " ++ text ++ codes "\npargrep:   " ++ blanks ++ codes "^\n" ++ told)
    ≡ pattern_line fault ++ shown_lines text fault
lines_are fault text number reason offset blanks told next number_is reason_is offset_is blanks_are told_is next_is =
    rw (number_is, reason_is, offset_is, blanks_are, told_is, next_is) refl
