-- Whether `any` finds a text that passes a test.
use Rattle.std.proofs.Common.{◌≡◌, ◌∙◌, Bool, List, map, Iter}
use Rattle.std.proofs.iter.Yields.{fronts}
use Rattle.std.proofs.lemmas.Iterator.{YieldsList-from_slice}
use Rattle.std.proofs.lemmas.Iterator.Search.{any_from_yields_List}
use Rattle.std.specs.Borrow.{Bor}
use Rattle.std.specs.Fn.{Called}
use Rattle.std.specs.Iterator.{ChecksAny}
use Rattle.std.specs.List.{list_any}
use Rattle.std.specs.Slice.Iter.{iter_rest}
use Rattle.clap.proofs.WalkLemmas.{list_any-map}
use Rattle.pg_words.specs.Line.{Word}
use denote.Param.Members.{Mut}

pub any_text : {F : Type 0} {g : Mut F (Bor (Bor Word) × Unit {0}) Bool} {s u : Iter (Bor Word)} {f : F} {r : Bool}
    (test : Word → Bool) (texts : List (Bor Word)) → ChecksAny fronts g s f r u → iter_rest s ≡ texts
    → ((text : Bor (Bor Word)) (b : Bool) (q : F) → Called g f (text, tt) b q → (q ≡ f) × (b ≡ test text.now.now))
    → r ≡ list_any test (map (λ text. text.now) texts)
any_text test texts ran rest computes =
    any_from_yields_List (λ text. test text.now) _ _ _ ran (YieldsList-from_slice texts rest) computes
    ∙ list_any-map test (λ text. text.now) texts
