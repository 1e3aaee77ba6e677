-- Filters of files, as the code has them.
use Rattle.std.specs.Prelude.{List, [], ◌∷◌, map, Option, Some, None}
use Rattle.pg_words.specs.Line.{Filter, Include, Exclude, ExcludeFrom}
use Rattle.pg_words.specs.declared.request.FileFilter.{FileFilter}
use Rattle.pg_words.specs.declared.request.FileFilter.TheVariants as V

-- a filter without where it lies in memory
abbrev pub filter_said : FileFilter → Filter
filter_said (V.Include glob) = Include glob.now
filter_said (V.Exclude glob) = Exclude glob.now
filter_said (V.ExcludeFrom path) = ExcludeFrom path.now

abbrev pub filters_of : List FileFilter → List Filter
filters_of filters = map filter_said filters

-- of one filter, or of none
abbrev pub filter_or_none : Option FileFilter → List Filter
filter_or_none None = []
filter_or_none (Some filter) = filter_said filter ∷ []
