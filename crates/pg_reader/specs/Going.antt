-- How any reader has gone on.

module _ {D F : Type 0} where
  -- A step may be made, and whatever led to the reader, and to what it works on, as they were, leads to them as they
  -- are now.
  pub record HasGoneOn (can : D → F → Type 0) (reaches : D → F → D → F → Type 0) (reader : D) (from : F) (reader' : D)
      (from' : F) : Type 0 where
    pub ready : can reader' from'
    pub read : (r : D) → (f : F) → reaches r f reader from → reaches r f reader' from'
