-- Lemmas on what specs/Network32.antt defines.
use Rattle.std.specs.Prelude.{◌≡◌, ℕ, ◌+◌, ◌*◌, ◌/◌, ◌%◌, ◌^◌, ◌<◌}
use Rattle.std.proofs.Common.{ap₂, ◌∙◌, arith}
use Rattle.exact.specs.Network.{number}
use Rattle.network32.specs.Network32.{network32, number32_at}

-- the number of its bytes is the number
pub number_network : (n : ℕ) → n < 2 ^ 32 → number32_at (network32 n) 0 ≡ n
number_network n h =
    let first : n / 2 ^ 24 ≡ n / 2 ^ 16 / 256 = omega arith in
    let high : number (n / 2 ^ 24 % 256) (n / 2 ^ 16 % 256) ≡ n / 2 ^ 16 = omega arith in
    let third : n / 2 ^ 8 % 256 ≡ n % 2 ^ 16 / 256 = omega arith in
    let low : number (n / 2 ^ 8 % 256) (n % 256) ≡ n % 2 ^ 16 = omega arith in
    let all : n / 2 ^ 16 * 2 ^ 16 + n % 2 ^ 16 ≡ n = omega arith in
    ap₂ (λ (x y : ℕ). x * 2 ^ 16 + y) high low ∙ all
