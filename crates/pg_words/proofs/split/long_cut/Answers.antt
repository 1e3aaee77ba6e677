use Rattle.std.proofs.Common.{◌≡◌, ◌∙◌, ap, arith, sym, ℕ, ◌<◌}
use Rattle.std.proofs.Common.{length, List, [], ◌∷◌}
use Rattle.std.specs.Prelude.{slice_index}
use Rattle.clap.specs.Lexer.{has_byte}
use Rattle.pg_words.specs.Joined.{takes_value}
use Rattle.pg_words.specs.Line.{by_name, table}
use Rattle.std.proofs.lemmas.Str.{IsCharBoundary-after_ascii}
use Rattle.pg_words.proofs.Cuts.{long_cut_is, long_cut_none, long_cut_pair}
use Rattle.pg_words.proofs.split.long_cut.Goals as goal

-- a text has the bytes that aren't 0
has_second : (w : List ℕ) → slice_index w 1 ≡ 45 → 1 < length w
has_second [] e = cc
has_second (d ∷ []) e = cc
has_second (d ∷ x ∷ t) e = omega arith

pub split_at-requires : goal.split_at-requires
split_at-requires c =
    let word = c.args.word.now in
    let second : slice_index word 1 ≡ 45 = c.requires.1 in
    IsCharBoundary-after_ascii word 1 c.utf8.word (has_second word second) (omega (arith, second))

-- the name is what stands behind the hyphens
pub returns-then-has_equals : goal.returns-then-has_equals
returns-then-has_equals c =
    let some = sym (ap (has_byte 61) c.split_at.ensures.back) ∙ (sym c.has_equals.ensures ∙ c.if-has_equals.true) in
    long_cut_pair c.args.word.now c.requires.0 c.requires.1 some

pub returns-then-name_has_value : goal.returns-then-name_has_value
returns-then-name_has_value c =
    let none = sym (ap (has_byte 61) c.split_at.ensures.back) ∙ (sym c.has_equals.ensures ∙ c.if-has_equals.false) in
    let valued = sym (ap (λ (t : List ℕ). takes_value (by_name table t)) c.split_at.ensures.back)
    ∙ (sym c.name_has_value.ensures ∙ c.if-name_has_value.true) in
    long_cut_is c.args.word.now c.requires.0 c.requires.1 none valued

pub returns : goal.returns
returns c =
    let none = sym (ap (has_byte 61) c.split_at.ensures.back) ∙ (sym c.has_equals.ensures ∙ c.if-has_equals.false) in
    let valued = sym (ap (λ (t : List ℕ). takes_value (by_name table t)) c.split_at.ensures.back)
    ∙ (sym c.name_has_value.ensures ∙ c.if-name_has_value.false) in
    long_cut_none c.args.word.now c.requires.0 c.requires.1 none valued
