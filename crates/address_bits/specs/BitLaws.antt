-- For proofs. What the bits of a byte say of it: the first of them, the last, and all eight; and the same of addresses, byte by byte.
use Rattle.std.specs.Prelude.{ℕ, ◌-◌, ◌/◌, ◌%◌, ◌^◌}

-- bit j of a byte, the highest first
abbrev pub bit : ℕ → ℕ → ℕ
bit x j = x / 2 ^ (7 - j) % 2
