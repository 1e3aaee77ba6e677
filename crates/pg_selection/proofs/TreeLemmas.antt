-- The trees that patterns spell are one list. Serves the law of trees, and who has a query in two forms.
use Rattle.std.proofs.Common.{◌≡◌, ℕ, Bool, List, [], ◌∷◌, refl, sym, ap, ap₂, ◌∙◌, subst}
use Rattle.pg_grammar.specs.ListResults.{AreSpelled}
use Rattle.pg_selection.specs.Search.{SearchText, Search, Kind, Pattern, AreTreesOf, HasItsTrees, patterns}

spelled_once : (kind : Kind) (fold : Bool) (texts : List (List ℕ)) (ps qs : List Pattern)
    → AreSpelled kind fold texts ps → AreSpelled kind fold texts qs → ps ≡ qs
spelled_once kind fold [] [] [] a b = refl
spelled_once kind fold [] [] (q ∷ qs) a b = absurd b
spelled_once kind fold [] (p ∷ ps) qs a b = absurd a
spelled_once kind fold (t ∷ ts) [] qs a b = absurd a
spelled_once kind fold (t ∷ ts) (p ∷ ps) [] a b = absurd b
spelled_once kind fold (t ∷ ts) (p ∷ ps) (q ∷ qs) a b =
    ap₂ (λ x xs. x ∷ xs) (sym (a.0.only q b.0.spells)) (spelled_once kind fold ts ps qs a.1 b.1)

-- patterns spell one list of trees
pub same_trees : (text : SearchText) (ps qs : List Pattern) → AreTreesOf text ps → AreTreesOf text qs → ps ≡ qs
same_trees text = spelled_once text.kind text.fold (patterns text.lists)

-- the text of a query determines its trees
pub same_query : (q r : Search) → HasItsTrees q → HasItsTrees r → q.text ≡ r.text → q ≡ r
same_query q r a b e =
    let P : SearchText → Type 0 = λ t. AreTreesOf t q.trees in
    let trees : q.trees ≡ r.trees = same_trees r.text q.trees r.trees (subst P e a) b in
    ap (λ t. record q { text = t }) e ∙ ap (λ ts. record r { trees = ts }) trees
