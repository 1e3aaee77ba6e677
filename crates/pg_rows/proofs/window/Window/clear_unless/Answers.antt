use Rattle.std.proofs.Common.{◌≡◌, true, false, [], cond, refl, sym, ap, ◌∙◌}
use Rattle.pg_rows.specs.Window.{lines_held, lines_in}
use Rattle.pg_rows.proofs.window.Window.clear_unless.Goals as goal

pub returns-then-not-fresh-clause-window : goal.returns-then-not-fresh-clause-window
returns-then-not-fresh-clause-window g c end _ = c.clear.ensures.window end

pub returns-then-not-fresh-clause-held : goal.returns-then-not-fresh-clause-held
returns-then-not-fresh-clause-held g c end =
    let stale : c.args.fresh ≡ false = cc in
    ap (lines_in end) c.clear.ensures.nothing ∙ sym (ap (λ b. cond b (lines_held end c.args.self.now) []) stale)

pub returns-else-not-fresh-clause-size : goal.returns-else-not-fresh-clause-size
returns-else-not-fresh-clause-size g c = refl

pub returns-else-not-fresh-clause-window : goal.returns-else-not-fresh-clause-window
returns-else-not-fresh-clause-window g c end is = is

pub returns-else-not-fresh-clause-held : goal.returns-else-not-fresh-clause-held
returns-else-not-fresh-clause-held g c end =
    let fresh : c.args.fresh ≡ true = cc in
    sym (ap (λ b. cond b (lines_held end c.args.self.now) []) fresh)
