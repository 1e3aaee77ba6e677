use Rattle.std.proofs.Common.{◌∙◌, ap, arith, codes, refl}
use Rattle.pg_words.specs.Asks.{has_other_action, has_other_coloring, has_other_directory_action, has_other_type}
use Rattle.pg_words.specs.Asks.{has_long_separator, is_recursive}
use Rattle.pg_words.proofs.matches.options_of.Goals as goal

pub returns : goal.returns
returns c = λ us is fold separator.
    rw (
      c.flag.ensures us is refl,
      c.flag-2.ensures us is refl,
      c.flag-3.ensures us is refl,
      c.has_other_type.ensures ∙ ap has_other_type (c.values_of.ensures ∙ is.texts (codes "binary-files") refl),
      c.has_other_directory_action.ensures
          ∙ ap has_other_directory_action (c.values_of-2.ensures ∙ is.texts (codes "directories") refl),
      c.has_other_action.ensures ∙ ap has_other_action (c.values_of-3.ensures ∙ is.texts (codes "devices") refl),
      c.has_other_coloring.ensures ∙ ap has_other_coloring (c.values_of-4.ensures ∙ is.texts (codes "color") refl),
      c.has_long_separator.ensures
          ∙ ap has_long_separator (c.values_of-5.ensures ∙ is.texts (codes "group-separator") refl),
      c.flag-4.ensures us is refl,
      c.flag-5.ensures us is refl,
      c.modes_of.ensures us is,
      c.flag-6.ensures us is refl,
      c.flag-7.ensures us is refl,
      c.flag-8.ensures us is refl,
      c.flag-9.ensures us is refl,
      c.flag-10.ensures us is refl,
      c.flag-11.ensures us is refl,
      c.is_recursive.ensures ∙ ap is_recursive (c.directories_of.ensures us is),
      c.number.ensures us is (1, 4294967295, refl, omega arith),
      c.number-2.ensures us is (0, 4294967295, refl, omega arith),
      c.small_number.ensures us is (0, 65535, refl, omega arith),
      c.small_number-2.ensures us is (0, 65535, refl, omega arith),
      fold,
      separator,
    ) refl
