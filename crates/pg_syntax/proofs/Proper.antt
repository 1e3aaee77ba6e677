-- What is spelled is proper.
use Rattle.std.proofs.Common.{ℕ, ◌≤◌, Bool, List, Option, arith}
use Rattle.std.specs.Prelude.{IfSome}
use Rattle.pg_pattern.specs.Patterns.{Pattern, IsProper}
use Rattle.pg_grammar.specs.Intervals as I
use Rattle.pg_grammar.specs.Intervals.{IsBounds}
use Rattle.pg_grammar.specs.Grammar as G
use Rattle.pg_grammar.specs.Grammar.{Mark, Atom, Item, Piece, Seq, Body, Literal, Expression, Spells}
use Rattle.pg_grammar.specs.declared.pattern_list.Kind.{Kind}
use Rattle.pg_grammar.specs.declared.pattern_list.Kind.TheVariants as K
use Rattle.pg_grammar.specs.declared.syntax.Syntax.TheVariants as S
use Rattle.pg_grammar.specs.declared.syntax.Syntax.{Syntax}

bounds_proper : {t : List ℕ} {m : ℕ} {n : Option ℕ} → IsBounds t m n → IfSome n (λ n. m ≤ n)
bounds_proper (I.exactly h) = omega arith
bounds_proper (I.at_least h) = tt
bounds_proper (I.from_to h g le) = le

mark_proper : {syntax : Syntax} {t : List ℕ} {m : ℕ} {n : Option ℕ} → Mark syntax t m n → IfSome n (λ n. m ≤ n)
mark_proper G.star = tt
mark_proper (G.plus e) = tt
mark_proper (G.question e) = omega arith
mark_proper (G.interval b) = bounds_proper b

module _ (syntax : Syntax) (fold : Bool) where
  mutual
    atom_proper : {before text after : List ℕ} {p : Pattern} {d : ℕ} → Atom syntax fold before text after p d
        → IsProper p
    atom_proper (G.byte o) = tt
    atom_proper (G.escape h) = tt
    atom_proper G.dot = tt
    atom_proper (G.bracket h) = tt
    atom_proper (G.group lt b) = body_proper b
    atom_proper (G.dollar e) = tt

    item_proper : {before text after : List ℕ} {p : Pattern} {d : ℕ} → Item syntax fold before text after p d
        → IsProper p
    item_proper (G.atom a) = atom_proper a
    item_proper (G.marked i m) = (item_proper i, mark_proper m)

    piece_proper : {before text after : List ℕ} {p : Pattern} {d : ℕ} → Piece syntax fold before text after p d
        → IsProper p
    piece_proper (G.item i) = item_proper i
    piece_proper (G.begin e) = tt
    piece_proper (G.end e) = tt
    piece_proper (G.caret e) = tt

    seq_proper : {text after : List ℕ} {p : Pattern} {d : ℕ} → Seq syntax fold text after p d → IsProper p
    seq_proper (G.first h) = piece_proper h
    seq_proper (G.more h k) = (seq_proper h, piece_proper k)

    body_proper : {text : List ℕ} {p : Pattern} {d : ℕ} → Body syntax fold text p d → IsProper p
    body_proper (G.single h) = seq_proper h
    body_proper (G.bar e b h) = (body_proper b, seq_proper h)

literal_proper : {fold : Bool} {text : List ℕ} {p : Pattern} → Literal fold text p → IsProper p
literal_proper (G.first b) = tt
literal_proper (G.more h b) = (literal_proper h, tt)

expression_proper : (kind : Kind) (fold : Bool) (text : List ℕ) (p : Pattern) → Expression kind fold text p → IsProper p
expression_proper K.Basic fold text p e = body_proper S.Basic fold e
expression_proper K.Extended fold text p e = body_proper S.Extended fold e
expression_proper K.Fixed fold text p e = literal_proper e

pub spelled_proper : {kind : Kind} {fold : Bool} {text : List ℕ} {p : Pattern} → Spells kind fold text p → IsProper p
spelled_proper G.nothing = tt
spelled_proper {kind = k} {fold = f} (G.some {text = t} {p = p} l e) = expression_proper k f t p e
