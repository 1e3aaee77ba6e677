use Rattle.std.proofs.Common.{◌∙◌, sym}
use Rattle.pg_words.proofs.Modes.{flag_at, mode_again, mode_next, mode_passed}
use Rattle.pg_words.proofs.matches.modes_among.Goals.{then-flag+else-is_some, else-flag}
use Rattle.pg_words.proofs.matches.modes_among.Goals as goal

pub returns-then-is_some : goal.returns-then-is_some
returns-then-is_some c = λ us is flags.
    let options = c.args.options.now in
    let at = c.loop-option.option-index in
    mode_again options at _ us c.loop-option-test.true c.flag.result c.loop-option.only
    (c.flag.ensures us is (flag_at options at _ flags c.loop-option-test.true)) c.if-flag.true
    (sym c.is_some.ensures ∙ c.if-is_some.true) (c.loop-option.invariant us is flags)

pub loop-option-preserved : goal.loop-option-preserved
loop-option-preserved c = λ us is flags.
    let options = c.args.options.now in
    let at = c.loop-option.option-index in
    let given = c.flag.ensures us is (flag_at options at _ flags c.loop-option-test.true) in
    let before = c.loop-option.invariant us is flags in
    elim c.if-flag.branch [
      | then-flag+else-is_some w ↦ rw w.only-is (mode_next options at _ us c.loop-option-test.true c.flag.result
          c.loop-option.only given w.if-flag.true (sym w.is_some.ensures ∙ w.if-is_some.false) before)
      | else-flag w ↦ rw w.only-is (mode_passed options at _ us c.loop-option-test.true c.flag.result
          c.loop-option.only given w.if-flag.false before)
    ]
