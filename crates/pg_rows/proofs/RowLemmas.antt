-- Rows of stretches of lines.
use Rattle.std.proofs.Common.{◌≡◌, ℕ, suc, ◌+◌, ◌<◌, ◌⊎◌, inl, inr, Bool, true, false, cond, nat_lt, not, ◌&&◌, ◌||◌}
use Rattle.std.proofs.Common.{List, [], ◌∷◌}
use Rattle.std.proofs.Common.{◌++◌, length}
use Rattle.std.proofs.Common.{drop}
use Rattle.std.proofs.Common.{get_or, refl, sym, ap, ◌∙◌, arith, append_assoc}
use Rattle.std.specs.List.{flat_map, filter}
use Rattle.std.specs.Fmt.{decimal}
use Rattle.std.proofs.lemmas.List.{append-nil, drop_more}
use Rattle.pg_blocks.specs.Lines.{terminated}
use Rattle.pg_rows.specs.declared.format.Format.{Format}
use Rattle.pg_selection.specs.declared.run.Part.{Part}
use Rattle.pg_rows.specs.Colors.{in_color, name_color, number_color, mark_color}
use Rattle.pg_rows.specs.Output.{is_nothing, name_end, name_text, number_text, has_prefix, bytes_in, tab_before, when}
use Rattle.pg_rows.specs.Output.{row}
use Rattle.pg_rows.specs.Stretch.{has_text, marked_rows, plain, plain_prefix_text, prefix_text, part_row, rows_of_parts}
use Rattle.std.proofs.Math.Bool.{and-false}

pub row_is : (format : Format) (end : ℕ) (name : List ℕ) (number offset mark : ℕ) (text : List ℕ)
    → row format end name number offset mark text
    ≡ prefix_text format name number offset mark (not (is_nothing text)) ++ (text ++ end ∷ [])
row_is format end name number offset mark text = simp append_assoc

-- without colors a row has before its text what it has without them
pub plain_prefix : (format : Format) (name : List ℕ) (number offset mark : ℕ) (has_text : Bool)
    → format.colored ≡ false
    → plain_prefix_text format name number offset mark has_text ≡ prefix_text format name number offset mark has_text
plain_prefix format name number offset mark has_text off =
    let text : Bool → List ℕ = λ c. when format.names (in_color c name_color name
    ++ cond format.null (0 ∷ []) (in_color c mark_color (mark ∷ [])))
    ++ when format.numbers (in_color c number_color (decimal number) ++ in_color c mark_color (mark ∷ []))
    ++ when format.offsets (in_color c number_color (decimal offset) ++ in_color c mark_color (mark ∷ []))
    ++ tab_before format has_text in
    marked format.null ∙ sym (ap text off)
  where
    rest : List ℕ → List ℕ
    rest front = front ++ when format.numbers (decimal number ++ mark ∷ [])
        ++ when format.offsets (decimal offset ++ mark ∷ []) ++ tab_before format has_text

    marked : (null : Bool)
        → rest (when format.names (name ++ cond null 0 mark ∷ []))
        ≡ rest (when format.names (name ++ cond null (0 ∷ []) (mark ∷ [])))
    marked true = refl
    marked false = refl

-- the rows of lines, and of lines behind them
pub marked_append : (format : Format) (end : ℕ) (name : List ℕ) (mark : ℕ) (text : List ℕ → List ℕ)
    (number offset : ℕ) (xs ys : List (List ℕ))
    → marked_rows format end name mark text number offset (xs ++ ys)
    ≡ marked_rows format end name mark text number offset xs
    ++ marked_rows format end name mark text (number + length xs) (offset + bytes_in xs) ys
marked_append format end name mark text number offset [] ys =
    let z : number ≡ number + 0 = omega arith in
    let y : offset ≡ offset + 0 = omega arith in
    ap (λ m. marked_rows format end name mark text m offset ys) z
    ∙ ap (λ m. marked_rows format end name mark text (number + 0) m ys) y
marked_append format end name mark text number offset (x ∷ xs) ys =
    let e : (number + 1) + length xs ≡ number + suc (length xs) = omega arith in
    let f : (offset + (length x + 1)) + bytes_in xs ≡ offset + ((length x + 1) + bytes_in xs) = omega arith in
    let rest = marked_rows format end name mark text (number + 1) (offset + (length x + 1)) xs in
    let this = row format end name number offset mark (text x) in
    let others = marked_rows format end name mark text (number + suc (length xs))
    (offset + ((length x + 1) + bytes_in xs)) ys in
    ap (λ zs. this ++ zs) (marked_append format end name mark text (number + 1) (offset + (length x + 1)) xs ys
    ∙ (ap (λ m. rest ++ marked_rows format end name mark text m ((offset + (length x + 1)) + bytes_in xs) ys) e
    ∙ ap (λ m. rest ++ marked_rows format end name mark text (number + suc (length xs)) m ys) f))
    ∙ sym (append_assoc this rest others)

-- the row of one line
pub marked_one : (format : Format) (end : ℕ) (name : List ℕ) (mark number offset : ℕ) (ls : List (List ℕ))
    → length ls ≡ 1
    → marked_rows format end name mark plain number offset ls
    ≡ prefix_text format name number offset mark (has_text ls) ++ terminated end ls
marked_one format end name mark number offset [] one = absurd (omega arith)
marked_one format end name mark number offset (l ∷ []) one =
    append-nil (row format end name number offset mark l) ∙ (row_is format end name number offset mark l
    ∙ ap (λ xs. prefix_text format name number offset mark (not (is_nothing l)) ++ xs)
    (sym (append-nil (l ++ end ∷ []))))
marked_one format end name mark number offset (l ∷ k ∷ ls) one = absurd (omega arith)

-- rows with nothing before their texts
pub marked_bare : (format : Format) (end : ℕ) (name : List ℕ) (mark number offset : ℕ) (ls : List (List ℕ))
    → format.names ≡ false → format.numbers ≡ false → format.offsets ≡ false
    → marked_rows format end name mark plain number offset ls ≡ terminated end ls
marked_bare format end name mark number offset [] names numbers offsets = refl
marked_bare format end name mark number offset (l ∷ ls) names numbers offsets =
    let later = marked_rows format end name mark plain (number + 1) (offset + (length l + 1)) ls in
    let tab : Bool → Bool → Bool → List ℕ =
    λ s t u. when (format.tabs && (((s || t) || u) && not (is_nothing l))) (9 ∷ []) in
    let first = number_text format mark number in
    let second = number_text format mark offset in
    ap (λ t. (when t (name_text format name ++ name_end format mark) ++ when format.numbers first
    ++ when format.offsets second ++ tab t format.numbers format.offsets ++ l ++ end ∷ []) ++ later) names
    ∙ (ap (λ t. (when t first ++ when format.offsets second ++ tab false t format.offsets ++ l ++ end ∷ []) ++ later)
    numbers
    ∙ (ap (λ t. (when t second ++ tab false false t ++ l ++ end ∷ []) ++ later) offsets
    ∙ (ap (λ t. (when t (9 ∷ []) ++ l ++ end ∷ []) ++ later) (and-false format.tabs)
    ∙ ap (λ xs. (l ++ end ∷ []) ++ xs)
    (marked_bare format end name mark (number + 1) (offset + (length l + 1)) ls names numbers offsets))))

none_of : (b c d : Bool) → ((b || c) || d) ≡ false → (b ≡ false) × (c ≡ false) × (d ≡ false)
none_of false false false e = (refl, refl, refl)
none_of false false true e = absurd (cc)
none_of false true d e = absurd (cc)
none_of true c d e = absurd (cc)

pub marked_plain : (format : Format) (end : ℕ) (name : List ℕ) (mark number offset : ℕ) (ls : List (List ℕ))
    (prefixed : Bool) → prefixed ≡ has_prefix format → prefixed ≡ false
    → terminated end ls ≡ marked_rows format end name mark plain number offset ls
marked_plain format end name mark number offset ls prefixed is none =
    let each = none_of format.names format.numbers format.offsets (sym is ∙ none) in
    sym (marked_bare format end name mark number offset ls each.0 each.1 each.2)

-- without offsets it doesn't matter where lines begin
pub marked_anywhere : (format : Format) (end : ℕ) (name : List ℕ) (mark : ℕ) (text : List ℕ → List ℕ)
    (number offset other : ℕ) (ls : List (List ℕ)) → format.offsets ≡ false
    → marked_rows format end name mark text number offset ls ≡ marked_rows format end name mark text number other ls
marked_anywhere format end name mark text number offset other [] none = refl
marked_anywhere format end name mark text number offset other (l ∷ ls) none =
    let shown : Bool → ℕ → List ℕ = λ b o. when format.names (name_text format name ++ name_end format mark)
    ++ when format.numbers (number_text format mark number) ++ when b (number_text format mark o)
    ++ tab_before format (not (is_nothing (text l))) ++ text l ++ end ∷ [] in
    let rest : ℕ → List ℕ = λ o. marked_rows format end name mark text (number + 1) (o + (length l + 1)) ls in
    ap (λ b. shown b offset ++ rest offset) none
    ∙ (sym (ap (λ b. shown b other ++ rest offset) none)
    ∙ ap (λ xs. shown format.offsets other ++ xs)
    (marked_anywhere format end name mark text (number + 1) (offset + (length l + 1)) (other + (length l + 1)) ls
    none))

-- the row of a line in the middle of a text, and the rows of the lines behind it, if any
pub marked_line : (format : Format) (end : ℕ) (name : List ℕ) (mark : ℕ) (text : List ℕ → List ℕ)
    (number offset size : ℕ) (all first later : List (List ℕ)) → length first ≡ 1
    → (bytes_in first ≡ size) ⊎ (later ≡ []) → all ≡ first ++ later
    → marked_rows format end name mark text number offset all
    ≡ marked_rows format end name mark text number offset first
    ++ marked_rows format end name mark text (number + 1) (offset + size) later
marked_line format end name mark text number offset size all first later one place apart =
    ap (marked_rows format end name mark text number offset) apart
    ∙ (marked_append format end name mark text number offset first later
    ∙ (ap (λ n. own ++ marked_rows format end name mark text (number + n) (offset + bytes_in first) later) one
    ∙ ap (λ xs. own ++ xs) (go place)))
  where
    own : List ℕ
    own = marked_rows format end name mark text number offset first

    go : (bytes_in first ≡ size) ⊎ (later ≡ [])
        → marked_rows format end name mark text (number + 1) (offset + bytes_in first) later
        ≡ marked_rows format end name mark text (number + 1) (offset + size) later
    go (inl same) = ap (λ k. marked_rows format end name mark text (number + 1) (offset + k) later) same
    go (inr none) = ap (marked_rows format end name mark text (number + 1) (offset + bytes_in first)) none
        ∙ sym (ap (marked_rows format end name mark text (number + 1) (offset + size)) none)

-- the rows of parts, one by one
filtered : (rows : Part → List ℕ) (test : Part → Bool) (p : Part) (ps : List Part) (t : Bool) → test p ≡ t
    → flat_map rows (filter test (p ∷ ps)) ≡ when t (rows p) ++ flat_map rows (filter test ps)
filtered rows test p ps true e = ap (λ t. flat_map rows (cond t (p ∷ filter test ps) (filter test ps))) e
filtered rows test p ps false e = ap (λ t. flat_map rows (cond t (p ∷ filter test ps) (filter test ps))) e

pub parts_more : (format : Format) (end : ℕ) (name : List ℕ) (number offset cut : ℕ) (bytes : List ℕ) (ps : List Part)
    (k : ℕ) (d : Part)
    → k < length ps → rows_of_parts format end name number offset cut bytes (drop k ps)
    ≡ when (nat_lt (get_or ps k d).line cut) (part_row format end name number offset bytes (get_or ps k d))
    ++ rows_of_parts format end name number offset cut bytes (drop (k + 1) ps)
parts_more format end name number offset cut bytes ps k d below =
    let p = get_or ps k d in
    ap (rows_of_parts format end name number offset cut bytes) (drop_more ps k d below)
    ∙ filtered (part_row format end name number offset bytes) (λ x. nat_lt x.line cut) p (drop (k + 1) ps)
    (nat_lt p.line cut) refl

-- the row of a count where there are names
pub count_row_is : (names : Bool) (name count : List ℕ) → names ≡ true
    → when names name ++ count ++ 10 ∷ [] ≡ name ++ (count ++ 10 ∷ [])
count_row_is true name count e = append_assoc name count (10 ∷ [])
count_row_is false name count e = absurd (cc)
