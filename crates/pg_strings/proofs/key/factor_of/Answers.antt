use Rattle.std.proofs.Common.{◌≡◌, ℕ, refl, sym, subst, arith}
use Rattle.pg_strings.specs.Keys.{Weighs}
use Rattle.pg_strings.proofs.key.factor_of.Goals as goal

at_width : (width known factor : ℕ) → width ≡ known → Weighs factor known → Weighs factor width
at_width width known factor e weighs = subst (λ w. Weighs factor w) (sym e) weighs

pub returns-in-1 : goal.returns-in-1
returns-in-1 c =
    at_width c.args.width 1 _ (omega arith) (record { some = omega arith; most = omega arith; whole = refl })

pub returns-in-2 : goal.returns-in-2
returns-in-2 c =
    at_width c.args.width 2 _ (omega arith) (record { some = omega arith; most = omega arith; whole = refl })

pub returns-in-3 : goal.returns-in-3
returns-in-3 c =
    at_width c.args.width 3 _ (omega arith) (record { some = omega arith; most = omega arith; whole = refl })

pub returns-in-4 : goal.returns-in-4
returns-in-4 c =
    at_width c.args.width 4 _ (omega arith) (record { some = omega arith; most = omega arith; whole = refl })

pub returns-in-5 : goal.returns-in-5
returns-in-5 c =
    at_width c.args.width 5 _ (omega arith) (record { some = omega arith; most = omega arith; whole = refl })

pub returns-in-6 : goal.returns-in-6
returns-in-6 c =
    at_width c.args.width 6 _ (omega arith) (record { some = omega arith; most = omega arith; whole = refl })

pub returns-in-7 : goal.returns-in-7
returns-in-7 c =
    at_width c.args.width 7 _ (omega arith) (record { some = omega arith; most = omega arith; whole = refl })

pub returns-in_default : goal.returns-in_default
returns-in_default c = at_width c.args.width 8 _ (omega arith) (record {
  some = omega arith;
  most =
      omega arith;
  whole = refl;
})
