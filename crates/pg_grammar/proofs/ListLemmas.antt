-- The texts of pattern lists, one more at a time.
use Rattle.std.proofs.Common.{ℕ, suc, ◌≡◌, ◌<◌, ◌≤◌, ◌+◌, ◌-◌, Bool, List, [], ◌∷◌, ◌++◌, length, take, drop, get_or}
use Rattle.std.proofs.Common.{map, Option, Some, None, refl, sym, ap, ◌∙◌, subst, arith, append_assoc, append-nil}
use Rattle.std.proofs.Common.{length-drop, inl, inr}
use Rattle.std.specs.Prelude.{position}
use Rattle.std.specs.Borrow.{Bor}
use Rattle.std.proofs.lemmas.List.{take_rest, drop-drop, take_more, take-append-drop, map-append}
use Rattle.pg_grammar.specs.PatternLists.{Patterns, split, patterns_in, patterns}
use Rattle.pg_bytes.specs.Lines.{lines}
use Rattle.pg_grammar.specs.Slices.{bytes_of, last_line}
use Rattle.pg_pattern.specs.Patterns.{Pattern}
use Rattle.pg_pattern.specs.Trees.{pattern}
use Rattle.pg_pattern.specs.declared.tree.Tree.{Tree}
use Rattle.pg_grammar.specs.Places.{MayStand}
use Rattle.pg_grammar.specs.Results.{IsSpelled, IsFault, out_of_memory}
use Rattle.pg_grammar.specs.ListResults.{AreSpelled, IsListFault}
use Rattle.pg_grammar.specs.declared.pattern_list.Kind.{Kind}
use Rattle.pg_grammar.specs.declared.pattern_list.Kind.TheVariants as K
use Rattle.pg_grammar.specs.declared.fault.SyntaxFault.{SyntaxFault}
use Rattle.pg_grammar.specs.declared.fault.FaultKind.{FaultKind}
use Rattle.pg_grammar.specs.declared.fault.FaultKind.TheVariants.{OutOfMemory}
use Rattle.pg_grammar.proofs.SplitLemmas.{newline, found-within, split-found, lines-found, split-last, lines-last}

-- one more item of a list that is mapped
pub map-push : {X Y : Type 0} (f : X → Y) (xs : List X) (x : X) → map f (xs ++ x ∷ []) ≡ map f xs ++ f x ∷ []
map-push f [] x = refl
map-push f (y ∷ xs) x = ap (λ t. f y ∷ t) (map-push f xs x)

-- one more slice, by the bytes that it refers to
pub bytes-pushed : (new old : List (Bor (List ℕ))) (slice : Bor (List ℕ)) → new ≡ old ++ slice ∷ []
    → bytes_of new ≡ bytes_of old ++ slice.now ∷ []
bytes-pushed new old slice e = ap bytes_of e ∙ map-push (λ s. s.now) old slice

rest-is : (text : List ℕ) (start : ℕ) (o : Option ℕ)
    → position newline (take (length text - start) (drop start text)) ≡ o → position newline (drop start text) ≡ o
rest-is text start o e = ap (position newline) (sym (take_rest text start)) ∙ e

behind : (text : List ℕ) (start len : ℕ) → drop (len + 1) (drop start text) ≡ drop (start + len + 1) text
behind text start len = drop-drop (len + 1) start text
    ∙ ap (λ n. drop n text) (let e : start + (len + 1) ≡ start + len + 1 = omega arith in e)

cut : (start len : ℕ) → (start + len) - start ≡ len
cut start len = omega arith

pub split-more : (new done : List (List ℕ)) (text : List ℕ) (start len : ℕ)
    → new ≡ done ++ take ((start + len) - start) (drop start text) ∷ []
    → position newline (take (length text - start) (drop start text)) ≡ Some len
    → new ++ split (drop (start + len + 1) text) ≡ done ++ split (drop start text)
split-more new done text start len p e =
    ap (λ t. t ++ split (drop (start + len + 1) text)) p
    ∙ append_assoc done (take ((start + len) - start) (drop start text) ∷ []) (split (drop (start + len + 1) text))
    ∙ ap (λ t. done ++ t) (ap (λ n. take n (drop start text) ∷ split (drop (start + len + 1) text)) (cut start len)
    ∙ sym (split-found (drop start text) len (rest-is text start (Some len) e)
    ∙ ap (λ t. take len (drop start text) ∷ split t) (behind text start len)))

pub lines-more : (new done : List (List ℕ)) (text : List ℕ) (start len : ℕ)
    → new ≡ done ++ take ((start + len) - start) (drop start text) ∷ []
    → position newline (take (length text - start) (drop start text)) ≡ Some len
    → new ++ lines 10 (drop (start + len + 1) text) ≡ done ++ lines 10 (drop start text)
lines-more new done text start len p e =
    ap (λ t. t ++ lines 10 (drop (start + len + 1) text)) p
    ∙ append_assoc done (take ((start + len) - start) (drop start text) ∷ []) (lines 10 (drop (start + len + 1) text))
    ∙ ap (λ t. done ++ t) (ap (λ n. take n (drop start text) ∷ lines 10 (drop (start + len + 1) text)) (cut start len)
    ∙ sym (lines-found (drop start text) len (rest-is text start (Some len) e)
    ∙ ap (λ t. take len (drop start text) ∷ lines 10 t) (behind text start len)))

pub split-end : (text : List ℕ) (start : ℕ) → position newline (take (length text - start) (drop start text)) ≡ None
    → take (length text - start) (drop start text) ∷ [] ≡ split (drop start text)
split-end text start e = ap (λ t. t ∷ []) (take_rest text start)
    ∙ sym (split-last (drop start text) (rest-is text start None e))

pub lines-end : (text : List ℕ) (start : ℕ) → position newline (take (length text - start) (drop start text)) ≡ None
    → last_line (take (length text - start) (drop start text)) ≡ lines 10 (drop start text)
lines-end text start e = ap last_line (take_rest text start)
    ∙ sym (lines-last (drop start text) (rest-is text start None e))

-- the patterns of one more list
pub patterns-push : (lists : List Patterns) (list : Patterns)
    → patterns (lists ++ list ∷ []) ≡ patterns lists ++ patterns_in list
patterns-push [] list = append-nil (patterns_in list)
patterns-push (l ∷ lists) list = ap (λ t. patterns_in l ++ t) (patterns-push lists list)
    ∙ sym (append_assoc (patterns_in l) (patterns lists) (patterns_in list))

pub take-push : {X : Type 0} (xs : List X) (i : ℕ) (x : X) → i < length xs → get_or xs i x ≡ x
    → take (i + 1) xs ≡ take i xs ++ x ∷ []
take-push xs i x h e = take_more xs i x h ∙ ap (λ y. take i xs ++ y ∷ []) e

pub within-more : (text : List ℕ) (start len : ℕ) → start ≤ length text
    → position newline (take (length text - start) (drop start text)) ≡ Some len → start + len + 1 ≤ length text
within-more text start len h e = omega (
  arith,
  found-within (drop start text) len (rest-is text start (Some len) e),
  length-drop start text,
)

-- the texts up to a place, and all of them
pub texts-more : (texts : List (Bor (List ℕ))) (i : ℕ) (d : Bor (List ℕ)) → i < length texts
    → bytes_of (take (i + 1) texts) ≡ bytes_of (take i texts) ++ (get_or texts i d).now ∷ []
texts-more texts i d h = ap bytes_of (take_more texts i d h) ∙ map-push (λ s. s.now) (take i texts) (get_or texts i d)

pub texts-whole : (texts : List (Bor (List ℕ))) (i : ℕ) (d : Bor (List ℕ)) → i < length texts
    → bytes_of texts ≡ bytes_of (take i texts) ++ (get_or texts i d).now ∷ bytes_of (drop (i + 1) texts)
texts-whole texts i d h =
    ap bytes_of (sym (take-append-drop (i + 1) texts))
    ∙ (map-append (λ s. s.now) (take (i + 1) texts) (drop (i + 1) texts)
    ∙ (ap (λ t. t ++ bytes_of (drop (i + 1) texts)) (texts-more texts i d h)
    ∙ append_assoc (bytes_of (take i texts)) ((get_or texts i d).now ∷ []) (bytes_of (drop (i + 1) texts))))

pub spelled-more : (kind : Kind) (fold : Bool) (texts : List (List ℕ)) (trees : List Pattern) (text : List ℕ)
    (p : Pattern) → AreSpelled kind fold texts trees → IsSpelled kind fold text p
    → AreSpelled kind fold (texts ++ text ∷ []) (trees ++ p ∷ [])
spelled-more kind fold [] [] text p h s = (s, tt)
spelled-more kind fold [] (q ∷ trees) text p h s = absurd h
spelled-more kind fold (t ∷ texts) [] text p h s = absurd h
spelled-more kind fold (t ∷ texts) (q ∷ trees) text p h s = (h.0, spelled-more kind fold texts trees text p h.1 s)

-- the tree of one more text
pub trees-more : {A : Type 0} (kind : Kind) (fold : Bool) (texts : List (Bor (List ℕ))) (i : ℕ) (d : Bor (List ℕ))
    (trees new : List (Tree A)) (tree : Tree A)
    → i < length texts → new ≡ trees ++ tree ∷ [] → AreSpelled kind fold (bytes_of (take i texts)) (map pattern trees)
    → IsSpelled kind fold (get_or texts i d).now (pattern tree)
    → AreSpelled kind fold (bytes_of (take (i + 1) texts)) (map pattern new)
trees-more {A} kind fold texts i d trees new tree h e spelled s =
    let pushed : map pattern new ≡ map pattern trees ++ pattern tree ∷ [] =
    ap (map pattern) e ∙ map-push pattern trees tree in
    subst (AreSpelled kind fold (bytes_of (take (i + 1) texts))) (sym pushed)
    (subst (λ ts. AreSpelled kind fold ts (map pattern trees ++ pattern tree ∷ [])) (sym (texts-more texts i d h))
    (spelled-more kind fold (bytes_of (take i texts)) (map pattern trees) (get_or texts i d).now (pattern tree)
    spelled s))

spelled-length : (kind : Kind) (fold : Bool) (texts : List (List ℕ)) (trees : List Pattern)
    → AreSpelled kind fold texts trees → length trees ≡ length texts
spelled-length kind fold [] [] h = refl
spelled-length kind fold [] (q ∷ trees) h = absurd h
spelled-length kind fold (t ∷ texts) [] h = absurd h
spelled-length kind fold (t ∷ texts) (q ∷ trees) h = ap suc (spelled-length kind fold texts trees h.1)

no-memory-place : (kind : Kind) (k : FaultKind) (text : List ℕ) (at : ℕ) → k ≡ OutOfMemory → MayStand kind k text at → ⊥
no-memory-place kind k text at e h = go kind (subst (λ x. MayStand kind x text at) e h)
  where
    go : (kind : Kind) → MayStand kind OutOfMemory text at → ⊥
    go K.Basic h = h.2
    go K.Extended h = h.2
    go K.Fixed h = let e = h.0 in cc

-- the one fault of this kind is a refused growth
memory-fault : (kind : Kind) (fold : Bool) (text : List ℕ) (f : SyntaxFault) → f.kind ≡ OutOfMemory
    → IsFault kind fold text f → f ≡ out_of_memory
memory-fault kind fold text f e (inl h) = h
memory-fault kind fold text f e (inr r) = absurd (no-memory-place kind f.kind text f.at e r.place)

pub memory-refused : (kind : Kind) (fold : Bool) (texts : List (List ℕ)) (text : List ℕ) (f : SyntaxFault) (n : ℕ)
    → n ≡ 0 → f.kind ≡ OutOfMemory → IsFault kind fold text f
    → IsListFault kind fold texts (record { pattern = n; fault = f })
memory-refused kind fold texts text f n z e h =
    inl (ap (λ x. record { pattern = x; fault = f }) z
    ∙ ap (λ x. record { pattern = 0; fault = x }) (memory-fault kind fold text f e h))

pub first-refused : (kind : Kind) (fold : Bool) (texts : List (Bor (List ℕ))) (i : ℕ) (d : Bor (List ℕ))
    (trees : List Pattern) (f : SyntaxFault) (n : ℕ) → i < length texts → n ≡ length trees + 1
    → (f.kind ≡ OutOfMemory → ⊥) → AreSpelled kind fold (bytes_of (take i texts)) trees
    → IsFault kind fold (get_or texts i d).now f
    → IsListFault kind fold (bytes_of texts) (record { pattern = n; fault = f })
first-refused kind fold texts i d trees f n h e differs s (inl m) = absurd (differs (ap kind_in m))
  where
    kind_in : SyntaxFault → FaultKind
    kind_in x = x.kind
first-refused kind fold texts i d trees f n h e differs s (inr r) =
    inr (record {
      front = bytes_of (take i texts);
      text = (get_or texts i d).now;
      rest = bytes_of (drop (i + 1) texts);
      joins = texts-whole texts i d h;
      number = e ∙ ap (λ m. m + 1) (spelled-length kind fold _ trees s);
      trees = trees;
      spelled = s;
      refused = r;
    })
