use Rattle.std.proofs.Common.{◌≡◌, ◌∷◌, map, ap, sym, ◌∙◌}
use Rattle.pg_bytes.specs.ByteSets.{bytes}
use Rattle.pg_glob.specs.Globs.{AnyBytes, OneOf}
use Rattle.pg_glob.specs.Views.{piece_of}
use Rattle.pg_glob.proofs.MatchLemmas.{start-reached, byte-reached, star-reached}
use Rattle.pg_glob.proofs.matching.match_to_star.Goals as goal

pub returns-in-AnyBytes : goal.returns-in-AnyBytes
returns-in-AnyBytes c =
    let others = c.in-Some.others.now in
    let front : map piece_of c.loop-first.parts.now ≡ AnyBytes ∷ map piece_of others =
    ap (map piece_of) c.in-Some.ensures.cases.0 ∙ ap (λ first. piece_of first ∷ map piece_of others) c.in-AnyBytes.is in
    star-reached _ _ _ _ (rw front at c.loop-first.invariant)

pub loop-first-preserved : goal.loop-first-preserved
loop-first-preserved c =
    let others = c.in-Some.others.now in
    let front : map piece_of c.loop-first.parts.now ≡ OneOf (bytes c.in-OneOf.set) ∷ map piece_of others =
    ap (map piece_of) c.in-Some.ensures.cases.0 ∙ ap (λ first. piece_of first ∷ map piece_of others) c.in-OneOf.is in
    byte-reached _ _ _ _ c.in-Some-split_first.byte.now _ (sym c.contains.ensures ∙ c.if-not-contains.false)
    (rw (front, c.in-Some-split_first.ensures.cases.0) at c.loop-first.invariant)

pub loop-first-init : goal.loop-first-init
loop-first-init c = start-reached _ _
