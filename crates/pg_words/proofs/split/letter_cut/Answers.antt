use Rattle.std.proofs.Common.{◌≡◌, ◌+◌, ◌≤◌, ℕ, length, arith, subst, sym, refl}
use Rattle.std.specs.Str.{IsCharBoundary}
use Rattle.std.specs.List.{position_or_len}
use Rattle.std.proofs.lemmas.Str.{IsCharBoundary-after_ascii}
use Rattle.pg_words.specs.Joined.{letter_takes_value}
use Rattle.pg_words.proofs.Cuts.{letter_before, letter_cut_is, letter_cut_none}
use Rattle.pg_words.proofs.split.letter_cut.Goals as goal

-- the letter before the cut is ASCII
pub split_at-requires : goal.split_at-requires
split_at-requires c =
    let word = c.args.word.now in
    let first = position_or_len letter_takes_value word in
    let within : c.value_start-start.result ≤ length word = c.if-start-word.true in
    let at : c.value_start-start.result ≡ first + 1 = c.value_start-start.ensures in
    let same : first + 1 ≡ c.value_start-start.result = sym at in
    let P : ℕ → Type 0 = λ n. IsCharBoundary word n in
    subst P same (IsCharBoundary-after_ascii word first c.utf8.word (omega (arith, at, within))
    (letter_before word first refl (omega (arith, at, within))))

pub returns-then-start-word : goal.returns-then-start-word
returns-then-start-word c =
    let word = c.args.word.now in
    rw (c.split_at.ensures.front, c.split_at.ensures.back)
    (letter_cut_is word c.value_start-start.result c.requires.0 c.requires.1 c.value_start-start.ensures
    c.if-start-word.true)

pub returns : goal.returns
returns c =
    letter_cut_none c.args.word.now c.value_start-start.result c.requires.0 c.requires.1 c.value_start-start.ensures
    c.if-start-word.false
