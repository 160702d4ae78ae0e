-- A 32-bit number in network order.
use Rattle.std.specs.Prelude.{List, [], ◌∷◌, ℕ, ◌+◌, ◌*◌, ◌/◌, ◌%◌, ◌^◌}
use Rattle.exact.specs.Network.{number_at}

-- "in network order": high byte first
abbrev pub network32 : ℕ → List ℕ
network32 n = n / 2 ^ 24 % 256 ∷ n / 2 ^ 16 % 256 ∷ n / 2 ^ 8 % 256 ∷ n % 256 ∷ []

-- the number of the four bytes at a place; bytes that are missing count as zero
abbrev pub number32_at : List ℕ → ℕ → ℕ
number32_at s i = number_at s i * 2 ^ 16 + number_at s (i + 2)
