-- The length of a block: which are allowed, and how few bytes they ask. The fields behind a length ask as many bytes as it says, so the smallest that is
-- allowed asks the fewest.
use Rattle.std.specs.Prelude.{Bool, true, ℕ, ◌+◌, eqb, leb}
use Rattle.exact.specs.Pick.{pick}

-- "L must be A, or at least A + 3"
abbrev pub fits : ℕ → ℕ → Bool
fits a n = pick (eqb n a) true (leb (a + 3) n)

-- a length asks as many bytes behind it
abbrev pub bytes_of : ℕ → ℕ
bytes_of n = n

-- the low byte that makes the smallest length behind the high byte h, where a is the smallest of all
abbrev pub lowest : ℕ → ℕ → ℕ
lowest a h = pick (eqb h 0) a 0
