-- The test of a table says no less and no more than `Good` (`table_tested`).
use mathlib.Core.List.{List, Memᴰ}
use Rattle.prefix.specs.Prefix.{Prefix, SamePrefix}

-- none of the rows has the prefix
abbrev pub New : Prefix → List Prefix → Type 0
New p rows = (q : Prefix) → Memᴰ q rows → SamePrefix p q → ⊥
