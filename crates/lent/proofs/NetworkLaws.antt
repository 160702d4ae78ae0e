-- A 16-bit number as std writes it: high byte first.
use Rattle.std.specs.Prelude.{◌≡◌, [], ◌∷◌, ℕ, ◌/◌, ◌%◌, ◌<◌}
use Rattle.std.specs.Int.{w16, to_be_bytes}
use Rattle.std.proofs.Common.{ap, arith}
use Rattle.exact.specs.Network.{network}

pub be_bytes : (n : ℕ) → n < 65536 → to_be_bytes w16 n ≡ network n
be_bytes n h = let e : n / 256 % 256 ≡ n / 256 = omega arith in ap (λ (x : ℕ). x ∷ n % 256 ∷ []) e
