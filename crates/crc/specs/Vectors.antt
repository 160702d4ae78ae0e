-- The definitions at published values: the polynomial as RFC 4960 writes it, and checksums as they are stored. Those of 32 bytes are
-- from RFC 3720, section B.4.
use Rattle.std.specs.Prelude.{List, [], ◌∷◌, ◌++◌, ℕ, zero, suc, ◌+◌, ◌*◌, ◌/◌, ◌%◌, ◌^◌}

-- the n low bits of x in the other order
unfoldable pub mirror : ℕ → ℕ → ℕ
mirror zero x = 0
mirror (suc n) x = x % 2 * 2 ^ n + mirror n (x / 2)

-- 0 to n - 1
abbrev pub up : ℕ → List ℕ
up zero = []
up (suc n) = up n ++ n ∷ []

-- n - 1 to 0
abbrev pub down : ℕ → List ℕ
down zero = []
down (suc n) = n ∷ down n
