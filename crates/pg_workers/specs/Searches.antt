-- What is seen of a search of blocks.

-- Which blocks may be searched, which scratches were made for it, and what is the result of a block. A type keeps that
-- its scratches fit, and so there is at most one proof of it.
pub record SearchView (B C F : Type 0) : Type 1 where
  pub may : B → Type 0
  pub fits : C → Type 0
  pub fits_once : (scratch : C) → IsProp (fits scratch)
  pub finds : B → F → Type 0
