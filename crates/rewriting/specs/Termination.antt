-- Termination, for any relation.

-- strongly normalizing (document 01: ends): from each next one, and on no other grounds
pub data SN {A : Type 0} (R : A → A → Type 0) : A → Type 0 where
  sn : (t : A) → ((u : A) → R t u → SN R u) → SN R t
