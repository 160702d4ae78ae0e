-- Tables of address prefixes, and the level that a table gives a source (document 02, K14).
use Rattle.std.specs.Prelude.{◌≡◌, ℕ, zero, suc, ◌/◌, ◌%◌, ◌≤◌, length, drop}
use mathlib.Core.List.{List, [], ◌∷◌, Memᴰ}
use Rattle.prefix.specs.Prefix.{Prefix, row_of, InRange, Clear, SamePrefix, Matches}

-- "rows of 19 bytes"
abbrev pub row_size : ℕ
row_size = 19

-- "at most 64 address prefixes"
abbrev pub most_rows : ℕ
most_rows = 64

abbrev pub rows_from : ℕ → List ℕ → List Prefix
rows_from zero table = []
rows_from (suc n) table = row_of table ∷ rows_from n (drop row_size table)

-- the rows of a table, as many as are whole
abbrev pub rows_of : List ℕ → List Prefix
rows_of table = rows_from (length table / row_size) table

-- no "duplicate prefix"
abbrev pub Distinct : List Prefix → Type 0
Distinct [] = Unit {0}
Distinct (p ∷ rest) = ((q : Prefix) → Memᴰ q rest → SamePrefix p q → ⊥) × Distinct rest

pub record GoodRows (rows : List Prefix) : Type 0 where
  pub few : length rows ≤ most_rows
  pub ranged : (p : Prefix) → Memᴰ p rows → InRange p
  pub clear : (p : Prefix) → Memᴰ p rows → Clear p
  pub distinct : Distinct rows

-- "A table with a duplicate prefix, a bit beyond the prefix set, a number out of range or more than 64 rows answers 34"; "so do bytes that are not whole
-- rows. The empty table is good"
pub record Good (table : List ℕ) : Type 0 where
  pub whole : length table % row_size ≡ 0
  pub rows : GoodRows (rows_of table)

-- "the longest matching prefix of its family decides; none matching" is level 0
pub data Decides (rows : List Prefix) (family : ℕ) (source : List ℕ) : (level : ℕ) → Type 0 where
  longest : (p : Prefix) → Memᴰ p rows → Matches p family source
      → ((q : Prefix) → Memᴰ q rows → Matches q family source → q.bits ≤ p.bits) → Decides rows family source p.level
  none : ((p : Prefix) → Memᴰ p rows → Matches p family source → ⊥) → Decides rows family source 0
