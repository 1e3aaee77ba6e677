use Rattle.std.proofs.Common.{refl}
use Rattle.pg_words.proofs.words.build_request.Goals as goal

pub returns : goal.returns
returns c = λ us is options texts patterns files filters excluded.
    let o = options in (
      rw (
        c.kind.ensures,
        c.format.ensures.exact,
        c.naming.ensures,
        options,
        texts,
        patterns,
        files,
        filters,
        excluded,
        c.flag.ensures us is refl,
        c.flag-2.ensures us is refl,
        c.flag-3.ensures us is refl,
        c.flag-4.ensures us is refl,
        c.last_value.ensures us is refl,
        c.flag-5.ensures us is refl,
        c.coloring_of.ensures us is,
        c.devices_of.ensures us is,
        c.skips.ensures,
        c.directories_of.ensures us is,
      ) refl,
      rw (
        c.flag-6.ensures us is refl,
        c.flag-7.ensures us is refl,
        c.number_within.ensures.exact us is refl,
        c.number_within-2.ensures.exact us is refl,
        c.number_within-3.ensures.exact us is refl,
      ) refl,
    )
