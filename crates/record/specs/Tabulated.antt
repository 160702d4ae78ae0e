-- Which bytes a table of kinds has, as a list that a computed test can hold beside the papers.
use Rattle.std.specs.Prelude.{List, [], ◌∷◌, ℕ, zero, suc, ◌+◌, Option, Some, None}
use Rattle.record.specs.declared.Kind.{Kind}

pub record Row : Type 0 where
  pub byte : ℕ
  pub kind : Kind

abbrev with : ℕ → Option Kind → List Row → List Row
with c (Some k) rows = record { byte = c; kind = k } ∷ rows
with c None rows = rows

-- the rows of a table for the n bytes from c on
abbrev pub rows_from : (ℕ → Option Kind) → (c n : ℕ) → List Row
rows_from table c zero = []
rows_from table c (suc n) = with c (table c) (rows_from table (c + 1) n)
