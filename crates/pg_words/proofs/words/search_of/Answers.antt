use Rattle.std.proofs.Common.{◌∙◌, ap, codes, refl}
use Rattle.pg_grammar.specs.Slices.{bytes_of}
use Rattle.pg_words.specs.Operands.{searched}
use Rattle.pg_words.proofs.Answered.{no_fault, search_is}
use Rattle.pg_words.proofs.words.search_of.Goals as goal

pub returns : goal.returns
returns c = λ us is options sources filters.
    let none = no_fault us c.args.options.now c.args.sources c.check_usage.result options sources
    c.in_ok-check_usage.was c.check_usage.ensures.exact in
    search_is us c.build_request-request.result none
    (c.build_request-request.ensures us is options
    (ap bytes_of c.in_ok-texts.ensures.items ∙ sources.texts)
    (ap bytes_of c.in_ok-pattern_files.ensures.items ∙ sources.pattern_files)
    (c.in_ok-files.ensures.paths ∙ ap searched sources.files)
    filters
    (ap bytes_of c.in_ok-excluded.ensures.items ∙ (c.values_of.ensures ∙ is.texts (codes "exclude-dir") refl)))
