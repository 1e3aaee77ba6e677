-- What pieces match, behind a `*` too (matching), and that this is what is computed (laws).
use Rattle.std.proofs.Common.{ℕ, ◌≡◌, ◌≤◌, inl, inr, Bool, true, false, ◌&&◌, ◌||◌, List, [], ◌∷◌, ◌++◌, length}
use Rattle.std.proofs.Common.{refl, ap, ◌∙◌, arith}
use Rattle.std.proofs.lemmas.Bool.{or_cases, or_right}
use Rattle.pg_bytes.specs.Sets.{Bytes}
use Rattle.pg_glob.specs.Brackets.{Text}
use Rattle.pg_glob.specs.Globs.{GlobPiece, AnyBytes, OneOf, Matches, matches}
use Rattle.pg_glob.specs.Runs.{GoesOn}

and-right : (a b : Bool) → (a && b) ≡ true → b ≡ true
and-right true b h = h
and-right false b h = absurd (cc)

and-left : (a b : Bool) → (a && b) ≡ true → a ≡ true
and-left true b h = refl
and-left false b h = h

-- a `*` may take nothing
pub nothing-taken : (ps : List GlobPiece) (t : Text) → matches ps t ≡ true → matches (AnyBytes ∷ ps) t ≡ true
nothing-taken ps [] h = h
nothing-taken ps (x ∷ t) h = ap (λ b. b || matches (AnyBytes ∷ ps) t) h

-- a `*` may take one byte more
pub one-more : (ps : List GlobPiece) (x : ℕ) (t : Text) →
    matches (AnyBytes ∷ ps) t ≡ true → matches (AnyBytes ∷ ps) (x ∷ t) ≡ true
one-more ps x t h = or_right (matches ps (x ∷ t)) _ h

-- what a byte and more behind a `*` match goes on, behind that byte or a later one, with what that more matches
pub behind-byte : (set : Bytes) (ps : List GlobPiece) (x : ℕ) (t : Text) →
    matches (AnyBytes ∷ OneOf set ∷ ps) (x ∷ t) ≡ true → matches (AnyBytes ∷ ps) t ≡ true
behind-byte set ps x [] h =
    elim (or_cases (set x && matches ps []) false h) [
      | inl e ↦ and-right (set x) _ e
      | inr e ↦ absurd (cc)
    ]
behind-byte set ps x (y ∷ t) h =
    elim (or_cases (set x && matches ps (y ∷ t)) _ h) [
      | inl e ↦ nothing-taken ps (y ∷ t) (and-right (set x) _ e)
      | inr e ↦ one-more ps y t (behind-byte set ps y t e)
    ]

-- two `*` match what one does
pub once : (ps : List GlobPiece) (t : Text) →
    matches (AnyBytes ∷ AnyBytes ∷ ps) t ≡ true → matches (AnyBytes ∷ ps) t ≡ true
once ps [] h = h
once ps (x ∷ t) h =
    elim (or_cases (matches (AnyBytes ∷ ps) (x ∷ t)) _ h) [
      | inl e ↦ e
      | inr e ↦ one-more ps x t (once ps t e)
    ]

-- From the first pieces and text matching has come to the second ones with nothing but bytes matched between.
pub record Reached (ps : List GlobPiece) (t : Text) (qs : List GlobPiece) (rest : Text) : Type 0 where
  pub same : matches ps t ≡ matches qs rest
  pub covered : matches (AnyBytes ∷ ps) t ≡ true → matches (AnyBytes ∷ qs) rest ≡ true
  pub shorter : length qs ≤ length ps
  pub within : length rest ≤ length t

pub start-reached : (ps : List GlobPiece) (t : Text) → Reached ps t ps t
start-reached ps t = record { same = refl; covered = λ h. h; shorter = omega arith; within = omega arith }

-- a byte of the set is matched
pub byte-reached : (ps : List GlobPiece) (t : Text) (set : Bytes) (qs : List GlobPiece) (x : ℕ) (rest : Text)
    → set x ≡ true →
    Reached ps t (OneOf set ∷ qs) (x ∷ rest) → Reached ps t qs rest
byte-reached ps t set qs x rest h r = record {
  same = r.same ∙ ap (λ b. b && matches qs rest) h;
  covered = λ k. behind-byte set qs x rest (r.covered k);
  shorter = omega (arith, r.shorter);
  within = omega (arith, r.within);
}

-- a `*` is met
pub star-reached : (ps : List GlobPiece) (t : Text) (qs : List GlobPiece) (rest : Text) →
    Reached ps t (AnyBytes ∷ qs) rest → GoesOn ps t qs rest
star-reached ps t qs rest r = record {
  same = r.same;
  covered = λ k. once qs rest (r.covered k);
  shorter = omega (arith, r.shorter);
  within = r.within;
}

-- a `*` may take any bytes
taken : (ps : List GlobPiece) (here rest : Text) → matches ps rest ≡ true → matches (AnyBytes ∷ ps) (here ++ rest)
    ≡ true
taken ps [] rest h = nothing-taken ps rest h
taken ps (x ∷ here) rest h = one-more ps x (here ++ rest) (taken ps here rest h)

pub sound : (ps : List GlobPiece) (t : Text) → matches ps t ≡ true → Matches ps t
sound [] [] h = refl
sound [] (x ∷ t) h = absurd (cc)
sound (AnyBytes ∷ ps) [] h = ([], [], refl, sound ps [] h)
sound (AnyBytes ∷ ps) (x ∷ t) h =
    elim (or_cases (matches ps (x ∷ t)) _ h) [
      | inl e ↦ ([], x ∷ t, refl, sound ps (x ∷ t) e)
      | inr e ↦ let m = sound (AnyBytes ∷ ps) t e in (x ∷ m.0, m.1, ap (λ r. x ∷ r) m.2, m.3)
    ]
sound (OneOf set ∷ ps) [] h = absurd (cc)
sound (OneOf set ∷ ps) (x ∷ t) h = (x, t, refl, and-left (set x) _ h, sound ps t (and-right (set x) _ h))

pub complete : (ps : List GlobPiece) (t : Text) → Matches ps t → matches ps t ≡ true
complete [] t h = rw h
complete (AnyBytes ∷ ps) t h = rw h.2 (taken ps h.0 h.1 (complete ps h.1 h.3))
complete (OneOf set ∷ ps) t h = rw h.2 (rw h.3 (complete ps h.1 h.4))
