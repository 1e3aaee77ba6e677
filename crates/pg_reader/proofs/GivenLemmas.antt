-- What was given, as one read changes it: for `take_buffered`, `read_copied` and `read_in_place`.
use Rattle.std.proofs.Common.{◌≡◌, ◌≢◌, ◌⊎◌, ◌<◌, ◌≤◌, ◌^◌, ℕ, zero, suc, Bool, false, List, [], ◌∷◌, ◌++◌, length}
use Rattle.std.proofs.Common.{take, drop, refl, ap, sym, subst, arith, ◌∙◌}
use Rattle.std.proofs.lemmas.List.{append-nil, append_cancel_left, length-take-le}
use Rattle.std.specs.List.{Any}
use Rattle.pg_blocks.specs.Lines.{lines}
use Rattle.pg_base.specs.Entries.{Ending, Left}
use Rattle.pg_files.specs.Given.{FileOutcome, NoFile, File, gave_bytes, gave_end, newest_name}
use Rattle.pg_files.specs.Asking.{read_given}
use Rattle.pg_reader.specs.Lengths.{IsTooLong}

pub read_some : (into : List ℕ) (count : ℕ) (given : List FileOutcome) → (count ≡ 0 → ⊥)
    → read_given into count given ≡ gave_bytes (take count into) given
read_some into zero given n = absurd (n refl)
read_some into (suc n) given h = refl

pub read_none : (into : List ℕ) (count : ℕ) (given : List FileOutcome) → count ≡ 0
    → read_given into count given ≡ gave_end false given
read_none into count given e = ap (λ n. read_given into n given) e

-- what was given before the newest stands

pub bytes_before : (more : List ℕ) (given : List FileOutcome) → drop 1 (gave_bytes more given) ≡ drop 1 given
bytes_before more [] = refl
bytes_before more (NoFile name cause ∷ given) = refl
bytes_before more (File name bytes ending ∷ given) = refl

pub end_before : (failed : Bool) (given : List FileOutcome) → drop 1 (gave_end failed given) ≡ drop 1 given
end_before failed [] = refl
end_before failed (NoFile name cause ∷ given) = refl
end_before failed (File name bytes ending ∷ given) = refl

-- a file that stands first is the newest
pub as_newest : {given before : List FileOutcome} {name bytes : List ℕ} {ending : Ending}
    → given ≡ File name bytes ending ∷ before → given ≡ File (newest_name given) bytes ending ∷ drop 1 given
as_newest {bytes = bytes} {ending = ending} e =
    e ∙ ap (λ gs. File (newest_name gs) bytes ending ∷ drop 1 gs) (sym e)

-- a piece that makes the file too long
pub too_long_given : (end longest : ℕ) (piece : List ℕ) {given before : List FileOutcome} {name bytes : List ℕ}
    → given ≡ File name bytes Left ∷ before
    → Any (λ line. longest < length line) (lines end (bytes ++ piece)) ⊎ (2 ^ 62 < length (bytes ++ piece))
    → IsTooLong end longest (gave_bytes piece given)
too_long_given end longest piece e h = subst (IsTooLong end longest) (sym (ap (gave_bytes piece) e)) h

-- a read of some bytes leaves something else than before it

took_some : (n : ℕ) (xs : List ℕ) → n ≤ length xs → (n ≡ 0 → ⊥) → take n xs ≢ []
took_some n xs low some none = some (sym (length-take-le n xs low) ∙ ap length none)

grows : (piece name bytes : List ℕ) (ending : Ending) (before : List FileOutcome) → piece ≢ []
    → gave_bytes piece (File name bytes ending ∷ before) ≢ File name bytes ending ∷ before
grows piece name bytes ending before some same =
    let longer : bytes ++ piece ≡ bytes = cc in
    some (append_cancel_left bytes piece [] (longer ∙ sym (append-nil bytes)))

pub read_grows : (into : List ℕ) (count : ℕ) {given given' before : List FileOutcome} {name bytes : List ℕ}
    {ending : Ending} → given ≡ File name bytes ending ∷ before → count ≤ length into → (count ≡ 0 → ⊥)
    → given' ≡ read_given into count given → given' ≢ given
read_grows into count {before = before} {name = name} {bytes = bytes} {ending = ending} newest low some e same =
    let piece = take count into in
    grows piece name bytes ending before (took_some count into low some)
    (ap (gave_bytes piece) (sym newest) ∙ sym (e ∙ read_some into count _ some) ∙ same ∙ newest)

-- and so does what is taken of a file
pub taken_grows : (piece : List ℕ) {given given' before : List FileOutcome} {name bytes : List ℕ} {ending : Ending}
    → given ≡ File name bytes ending ∷ before → 0 < length piece → given' ≡ gave_bytes piece given → given' ≢ given
taken_grows piece {before = before} {name = name} {bytes = bytes} {ending = ending} newest some e same =
    grows piece name bytes ending before (λ none. omega (arith, some, ap length none))
    (ap (gave_bytes piece) (sym newest) ∙ sym e ∙ same ∙ newest)
