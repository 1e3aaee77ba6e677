-- Usage faults: when each is told, and its text.
use Rattle.std.specs.Prelude.{ℕ, ◌==◌, ◌&&◌, if◌then◌else◌, Option, Some, None, List, codes}
use Rattle.pg_words.specs.declared.options.Options.{Options}
use Rattle.pg_words.specs.declared.usage.UsageFault.{UsageFault}
use Rattle.pg_words.specs.declared.usage.UsageFault.TheVariants.{SeveralModes, ExtendedAndFixed, NamesAndNoNames}
use Rattle.pg_words.specs.declared.usage.UsageFault.TheVariants.{ExcludedByParts, NoPattern, NoOperand}
use Rattle.pg_words.specs.declared.usage.UsageFault.TheVariants.{OtherThanText, PerlExpressions, UnknownDevices}
use Rattle.pg_words.specs.declared.usage.UsageFault.TheVariants.{LongSeparator, UnknownColoring, UnknownDirectories}
use Rattle.pg_words.specs.Options.{are_several, has_excluded_by_parts}

-- What is wrong with options beside so many texts and files of patterns and so many FILE operands: the first of these.
abbrev pub usage_fault : Options → ℕ → ℕ → Option UsageFault
usage_fault options patterns files =
    if options.perl then Some PerlExpressions
    else (if options.binary then Some OtherThanText
    else (if options.unknown_directories then Some UnknownDirectories
    else (if options.unknown_devices then Some UnknownDevices
    else (if options.unknown_coloring then Some UnknownColoring
    else (if options.long_separator then Some LongSeparator
    else (if are_several options.modes then Some SeveralModes
    else (if options.extended && options.fixed then Some ExtendedAndFixed
    else (if options.names && options.no_names then Some NamesAndNoNames
    else (if options.parts && has_excluded_by_parts options then Some ExcludedByParts
    else (if patterns == 0 then Some NoPattern
    else (if options.recursive && (files == 0) then Some NoOperand
    else None)))))))))))

-- what is told of a usage fault
abbrev pub usage_text : UsageFault → List ℕ
usage_text PerlExpressions =
    codes "-P is not supported: use -E, which has no lookaround, lazy repetition or back reference"
usage_text OtherThanText = codes "--binary-files may only be text, and can be left out"
usage_text UnknownDirectories = codes "-d may only be read, skip or recurse"
usage_text UnknownDevices = codes "-D may only be read or skip"
usage_text UnknownColoring = codes "--color may only be always, never or auto"
usage_text LongSeparator = codes "the text of --group-separator has more than 64 bytes"
usage_text SeveralModes = codes "only one of -c, -l, -L and -q may be given"
usage_text ExtendedAndFixed = codes "only one of -E and -F may be given"
usage_text NamesAndNoNames = codes "only one of -H and -h may be given"
usage_text ExcludedByParts = codes "-o excludes -v, -c, -l, -L, -q, -A, -B and -C"
usage_text NoPattern =
    codes "no pattern given\n\nUsage: pargrep [OPTION ...] PATTERN [FILE ...]\n\nFor more information, try '--help'."
usage_text NoOperand = codes "-r needs an operand"
