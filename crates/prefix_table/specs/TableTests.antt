-- The same as functions: whether a table is good, and the level of a source.
use Rattle.std.specs.Prelude.{Bool, true, false, not, ◌&&◌, ◌||◌, List, [], ◌∷◌, ℕ, suc, ◌%◌, eqb, leb, ltb, length, Option, Some, None}
use Rattle.exact.specs.Pick.{pick}
use Rattle.prefix.specs.Prefix.{Prefix}
use Rattle.prefix.specs.PrefixTests.{good_prefix, same_prefix, matches}
use Rattle.prefix_table.specs.Table.{row_size, most_rows, rows_of}

-- whether one of the rows has the prefix
abbrev pub known : Prefix → List Prefix → Bool
known p [] = false
known p (q ∷ rest) = same_prefix p q || known p rest

abbrev pub good_rows : List Prefix → Bool
good_rows [] = true
good_rows (p ∷ rest) = good_prefix p && (not (known p rest) && good_rows rest)

-- `table_tested`: no less and no more than `Good`
abbrev pub good_table : List ℕ → Bool
good_table table = eqb (length table % row_size) 0 && (leb (length (rows_of table)) most_rows && good_rows (rows_of table))

-- one more than the bits of a prefix, 0 for none: so a longer prefix reaches further, and any further than none
abbrev pub reach : Option Prefix → ℕ
reach None = 0
reach (Some p) = suc p.bits

-- the prefix that has matched, or this one, if it matches too and is longer
abbrev pub better : (family : ℕ) → List ℕ → Option Prefix → Prefix → Option Prefix
better family source best p = pick (matches p family source && ltb (reach best) (reach (Some p))) (Some p) best

-- the longest of the prefix that has matched and those of the rows
abbrev pub longest_from : Option Prefix → List Prefix → (family : ℕ) → List ℕ → Option Prefix
longest_from best [] family source = best
longest_from best (p ∷ rest) family source = longest_from (better family source best p) rest family source

abbrev pub level_of : Option Prefix → ℕ
level_of None = 0
level_of (Some p) = p.level

-- `level_decides`, `decides_one`: the level that decides, and no other
abbrev pub level_in : List Prefix → (family : ℕ) → List ℕ → ℕ
level_in rows family source = level_of (longest_from None rows family source)
