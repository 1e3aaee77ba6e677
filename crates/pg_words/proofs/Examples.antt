-- Worked examples of long names that are cut short, of filters, and of options of which the last one counts.
use Rattle.std.proofs.Common.{◌≡◌, refl, [], ◌∷◌, codes, option_map, None, Some}
use Rattle.pg_words.specs.Joined.{Free}
use Rattle.pg_words.specs.Line.{Include, Exclude, ExcludeFrom, filters_in, separator_in, table, uses_from}
use Rattle.pg_words.specs.Asks.{coloring_in, directories_in}
use Rattle.pg_words.specs.declared.options.Coloring.TheVariants.{Always}
use Rattle.pg_words.specs.declared.options.DirectoryAction.TheVariants.{Skip, Recurse}
use Rattle.pg_words.specs.Spelled.{full_name, full_word, spelled_from, uses_in}

-- one option begins so
unique : full_word table (codes "--inc=*.c") ≡ codes "--include=*.c"
unfolding full_name
unique = refl

no_messages : full_word table (codes "--no-m") ≡ codes "--no-messages"
unfolding full_name
no_messages = refl

-- two long names of one option
quiet : full_word table (codes "--s") ≡ codes "--quiet"
unfolding full_name
quiet = refl

-- a long name, though that of another option begins so
exact : full_word table (codes "--exclude=x") ≡ codes "--exclude=x"
unfolding full_name
exact = refl

longer : full_word table (codes "--exclude-d=x") ≡ codes "--exclude-dir=x"
unfolding full_name
longer = refl

-- what has no value is spelled out with one, by any of its names
color : full_word table (codes "--colo") ≡ codes "--color=auto"
unfolding full_name
color = refl

colour : full_word table (codes "--colour=always") ≡ codes "--colour=always"
unfolding full_name
colour = refl

-- line-number, line-regexp and line-buffered
several : full_word table (codes "--line") ≡ codes "--line"
unfolding full_name
several = refl

unknown : full_word table (codes "--colon") ≡ codes "--colon"
unfolding full_name
unknown = refl

-- an empty name begins all of them
empty : full_word table (codes "--=x") ≡ codes "--=x"
unfolding full_name
empty = refl

-- the option that serves tests is none of those that may be meant
hidden : full_word table (codes "--a=3") ≡ codes "--after-context=3"
unfolding full_name
hidden = refl

written_out : full_word table (codes "--always-sprea") ≡ codes "--always-sprea"
unfolding full_name
written_out = refl

-- a cut name waits for its value, which stays as it is, as does what follows `--`
words : spelled_from table Free (codes "--inc" ∷ codes "--no-m" ∷ codes "-yn" ∷ codes "--" ∷ codes "--inc" ∷ [])
    ≡ codes "--include" ∷ codes "--no-m" ∷ codes "-i" ∷ codes "-n" ∷ codes "--" ∷ codes "--inc" ∷ []
unfolding full_name spelled_from
words = refl

-- the filters of all three options stand in one order, and what is no filter is left out
filters : option_map filters_in (uses_in (codes "--include=*.c" ∷ codes "--exclude" ∷ codes "a*" ∷ codes
    "--exclude-dir=d"
    ∷ codes "--exclude-from" ∷ codes "f" ∷ codes "x" ∷ codes "--inc" ∷ codes "--" ∷ codes "--"
    ∷ codes "--include=y" ∷ []))
    ≡ Some (Include (codes "*.c") ∷ Exclude (codes "a*") ∷ ExcludeFrom (codes "f") ∷ Include (codes "--") ∷ [])
unfolding full_name spelled_from uses_from
filters = refl

-- the word behind --color is no value of it
not_behind : spelled_from table Free (codes "--col" ∷ codes "always" ∷ codes "--colour" ∷ codes "-nR" ∷ [])
    ≡ codes "--color=auto" ∷ codes "always" ∷ codes "--color=auto" ∷ codes "-n" ∷ codes "-R" ∷ codes "-drecurse" ∷ []
unfolding full_name spelled_from
not_behind = refl

-- the last --color counts, by any of its names, and its word in either case
colored : option_map coloring_in (uses_in (codes "--color=No" ∷ codes "--colour=YES" ∷ codes "x" ∷ []))
    ≡ Some Always
unfolding full_name spelled_from uses_from
colored = refl

-- the last of -d, -r and -R counts, however they are written
visited : option_map directories_in (uses_in (codes "-d" ∷ codes "skip" ∷ codes "-nr" ∷ codes "x" ∷ []))
    ≡ Some (Some Recurse)
unfolding full_name spelled_from uses_from
visited = refl

left_out_below : option_map directories_in (uses_in (codes "--dereference" ∷ codes "-dskip" ∷ codes "x" ∷ []))
    ≡ Some (Some Skip)
unfolding full_name spelled_from uses_from
left_out_below = refl

left_out : option_map directories_in (uses_in (codes "--rec" ∷ codes "-nd" ∷ codes "skip" ∷ codes "x" ∷ []))
    ≡ Some (Some Skip)
unfolding full_name spelled_from uses_from
left_out = refl

-- the last of --group-separator and --no-group-separator counts, and an option's value is neither
separator : option_map separator_in (uses_in (codes "--no-group" ∷ codes "--gr" ∷ codes "a=b" ∷ codes "-e"
    ∷ codes "--no-group-separator" ∷ [])) ≡ Some (Some (codes "a=b"))
unfolding full_name spelled_from uses_from
separator = refl

no_separator : option_map separator_in (uses_in (codes "--group-separator=a" ∷ codes "--no-group-separator" ∷ []))
    ≡ Some None
unfolding full_name spelled_from uses_from
no_separator = refl

hyphens : option_map separator_in (uses_in (codes "-A1" ∷ codes "--" ∷ codes "--no-group-separator" ∷ []))
    ≡ Some (Some (codes "--"))
unfolding full_name spelled_from uses_from
hyphens = refl
