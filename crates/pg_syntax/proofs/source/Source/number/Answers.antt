use Rattle.std.proofs.Common.{◌≡◌, ◌<◌, ◌⊎◌, inl, inr, false, ℕ, suc, ◌∷◌, List, [], length, drop, get_or, sym, ap, ◌∙◌}
use Rattle.std.proofs.Common.{arith, length-drop}
use Rattle.std.proofs.lemmas.List.{drop_all}
use Rattle.std.proofs.Math.Seq.{drop-cons}
use Rattle.pg_bytes.specs.Classes.{digit}
use Rattle.pg_syntax.specs.IntervalReading.{number_from}
use Rattle.pg_syntax.proofs.IntervalLemmas.{number_found, number_stops}
use Rattle.pg_syntax.proofs.source.Source.number.Goals as goal
use Rattle.pg_syntax.proofs.source.Source.number.Goals.{then-loop-end-test+else-is_ascii_digit, else-loop-end-test}

pub returns : goal.returns
returns c =
    let text = c.args.self.now.text.now in
    let end = c.loop-end.end in
    let n = c.loop-end.invariant.3.0 in
    let v : c.loop-end.value ≡ n = omega arith in
    let none : (drop end text ≡ []) ⊎ ((d : ℕ) × (u : List ℕ) × (drop end text ≡ d ∷ u) × (digit d ≡ false)) =
    elim c.loop-end-test.branch [
      | then-loop-end-test+else-is_ascii_digit w ↦ (
          let lt : end < length text = omega arith in
          let no : digit (get_or text end 0) ≡ false = sym w.is_ascii_digit.ensures.value ∙ w.if-is_ascii_digit.false in
          inr (get_or text end 0, drop (suc end) text, drop-cons text end 0 lt, no))
      | else-loop-end-test w ↦ inl (drop_all end text (omega arith))
    ] in
    let e : number_from 0 (drop c.args.at text) ≡ (c.loop-end.value, drop end text) =
    c.loop-end.invariant.3.2 ∙ (ap (λ m. number_from m (drop end text)) (sym v)
    ∙ number_stops c.loop-end.value (drop end text) none) in
    let shorter : length (drop end text) < length (drop c.args.at text) =
    omega (arith, length-drop end text, length-drop c.args.at text) in
    let more : c.args.at < end = omega arith in (
      number_found (drop c.args.at text) (drop end text) c.loop-end.value e shorter c.if-value-gt255.false,
      more,
      c.loop-end.invariant.1,
    )
