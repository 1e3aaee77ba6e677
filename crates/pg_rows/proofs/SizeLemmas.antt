-- How many bytes lines have, and where lines begin, for the offsets of rows.
use Rattle.std.proofs.Common.{◌≡◌, ℕ, zero, suc, ◌+◌, ◌-◌, ◌≤◌, inl, Bool, true, false, cond, nat_lt, List, []}
use Rattle.std.proofs.Common.{◌∷◌}
use Rattle.std.specs.List.{onto_first}
use Rattle.std.proofs.Common.{◌==◌, ◌++◌, length, take, drop, refl, ap, ◌∙◌, arith, length-append}
use Rattle.circular_buffer.specs.Buffer.{keep_last}
use Rattle.std.proofs.lemmas.List.{take-append-drop}
use Rattle.pg_selection.specs.Search.{Search}
use Rattle.pg_selection.specs.Selection.{selects}
use Rattle.pg_blocks.specs.Lines.{lines, terminated, AreWhole}
use Rattle.pg_blocks.proofs.LineLemmas.{terminated-lines, whole_tail}
use Rattle.pg_rows.specs.declared.format.Format.{Format}
use Rattle.pg_rows.specs.Output.{context, bytes_in}
use Rattle.pg_rows.specs.Trail.{Trail, keeps, after_kept, after_context, after_other, with_offset, step, run}

-- lines, and lines behind them
pub size_append : (ls ms : List (List ℕ)) → bytes_in (ls ++ ms) ≡ bytes_in ls + bytes_in ms
size_append [] ms = omega arith
size_append (l ∷ ls) ms = let e = size_append ls ms in omega arith

pub size_push : (ls : List (List ℕ)) (l : List ℕ) → bytes_in (ls ++ l ∷ []) ≡ bytes_in ls + (length l + 1)
size_push ls l = let e = size_append ls (l ∷ []) in omega arith

-- the bytes of the lines, each followed by its terminator
pub size_terminated : (end : ℕ) (ls : List (List ℕ)) → bytes_in ls ≡ length (terminated end ls)
size_terminated end [] = refl
size_terminated end (l ∷ ls) =
    let e = size_terminated end ls in
    let a = length-append (l ++ end ∷ []) (terminated end ls) in
    let b = length-append l (end ∷ []) in
    omega arith

-- what is left of whole lines behind a place are whole lines

pub whole_drop : (end k : ℕ) (bytes : List ℕ) → AreWhole end bytes → AreWhole end (drop k bytes)
whole_drop end zero bytes w = w
whole_drop end (suc k) [] w = inl refl
whole_drop end (suc k) (b ∷ bytes) w = whole_drop end k bytes (whole_tail end b bytes w)

-- whole lines have the bytes of their text
pub size_whole : (end : ℕ) (bytes : List ℕ) → AreWhole end bytes → bytes_in (lines end bytes) ≡ length bytes
size_whole end bytes whole =
    size_terminated end (lines end bytes) ∙ ap (λ xs. length xs) (terminated-lines end bytes whole)

-- a text's lines have at most one byte more, where the last one lacks its terminator
pub size_few : (end : ℕ) (bytes : List ℕ) → bytes_in (lines end bytes) ≤ length bytes + 1
size_few end [] = omega arith
size_few end (b ∷ bytes) = go (b == end) (lines end bytes) (size_few end bytes)
  where
    go : (ends : Bool) (ls : List (List ℕ)) → bytes_in ls ≤ length bytes + 1
        → bytes_in (cond ends ([] ∷ ls) (onto_first b ls)) ≤ suc (length bytes) + 1
    go true ls h = omega (arith, h)
    go false [] h = omega arith
    go false (l ∷ ls) h = omega (arith, h)

-- and no fewer
pub size_enough : (end : ℕ) (bytes : List ℕ) → length bytes ≤ bytes_in (lines end bytes)
size_enough end [] = omega arith
size_enough end (b ∷ bytes) = go (b == end) (lines end bytes) (size_enough end bytes)
  where
    go : (ends : Bool) (ls : List (List ℕ)) → length bytes ≤ bytes_in ls
        → suc (length bytes) ≤ bytes_in (cond ends ([] ∷ ls) (onto_first b ls))
    go true ls h = omega (arith, h)
    go false [] h = omega (arith, h)
    go false (l ∷ ls) h = omega (arith, h)

-- the last ones have no more bytes than all
pub size_last : (n : ℕ) (ls : List (List ℕ)) → bytes_in (keep_last n ls) ≤ bytes_in ls
size_last n ls =
    let k : ℕ = length ls - n in
    let whole = ap bytes_in (take-append-drop k ls) in
    let both = size_append (take k ls) (drop k ls) in
    omega arith

-- What is remembered of the bytes.

-- the lines behind the last shown one have no more bytes than the file so far
abbrev pub HasPlace : Trail → Type 0
HasPlace t = bytes_in t.window ≤ t.offset

step_place : (format : Format) (t : Trail) (selected : Bool) (l : List ℕ) → HasPlace t
    → HasPlace (step format t selected l)
step_place format t selected l h = go (keeps format t selected) (nat_lt 0 t.countdown)
  where
    go : (kept shown : Bool) → HasPlace (with_offset (t.offset + (length l + 1)) (cond kept (after_kept format t)
        (cond shown (after_context t) (after_other format t l))))
    go true shown = omega arith
    go false true = omega (arith, h)
    go false false =
        omega (arith, h, size_last (context format.before) (t.window ++ l ∷ []), size_push t.window l)

pub run_place : (q : Search) (format : Format) (t : Trail) (ls : List (List ℕ)) → HasPlace t
    → HasPlace (run q format t ls)
run_place q format t [] h = h
run_place q format t (l ∷ ls) h =
    run_place q format (step format t (selects q l) l) ls (step_place format t (selects q l) l h)

-- the bytes of more lines
pub run_offset : (q : Search) (format : Format) (t : Trail) (ls : List (List ℕ))
    → (run q format t ls).offset ≡ t.offset + bytes_in ls
run_offset q format t [] = omega arith
run_offset q format t (l ∷ ls) =
    let e = run_offset q format (step format t (selects q l) l) ls in omega arith
