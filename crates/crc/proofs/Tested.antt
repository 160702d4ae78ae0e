-- The test that shows a table right, and a byte by a right table.
use mathlib.Core.Path.{◌≡◌, sym, ap, ap₂, ◌∙◌}
use mathlib.Core.List.{List}
use mathlib.Core.Bool.{true}
use Prim.Native.Nat.{ℕ, ◌+◌, ◌*◌, ◌/◌, ◌%◌, ◌<◌}
use native.Mathlib.Omega.{arith}
use lib.Arith.{digits_div, digits_mod}
use lib.ListN.{get_or}
use lib.Bits.{bit_xor}
use Rattle.exact.specs.Below.{table_below}
use Rattle.exact.proofs.Below.{entry_below}
use Rattle.crc.specs.Crc.{bits}
use Rattle.crc.specs.Table.{Right}
use Rattle.crc.proofs.Linear.{halves}

-- the entry at a place
abbrev rule : ℕ → ℕ
rule i = bits ((i / 16 + 1) * 4) (i % 16)

pub tested : (t : List ℕ) → table_below t rule 256 ≡ true → Right t
tested t all =
    record {
      entry = λ j k hj hk.
          entry_below t rule 256 (j * 16 + k) all (omega arith)
          ∙ ap₂ (λ (x y : ℕ). bits ((x + 1) * 4) y) (digits_div j hk) (digits_mod j hk);
    }

-- a byte, half by half
pub by_halves : (t : List ℕ) → Right t → (row y : ℕ) → row < 8 → y < 256
    → bit_xor (get_or t (row * 32 + 16 + y % 16) 0) (get_or t (row * 32 + y / 16) 0) ≡ bits ((row + 1) * 8) y
by_halves t right row y hr hy =
    let p : row * 32 + 16 + y % 16 ≡ (row * 2 + 1) * 16 + y % 16 = omega arith in
    let q : row * 32 + y / 16 ≡ row * 2 * 16 + y / 16 = omega arith in
    let m : (row * 2 + 1 + 1) * 4 ≡ 4 + (row * 8 + 4) = omega arith in
    let n : (row * 2 + 1) * 4 ≡ row * 8 + 4 = omega arith in
    let k : 4 + (row * 8 + 4) ≡ (row + 1) * 8 = omega arith in
    ap₂ (λ (u v : ℕ). bit_xor (get_or t u 0) (get_or t v 0)) p q
    ∙ ap₂ bit_xor
    (right.entry (row * 2 + 1) (y % 16) (omega arith) (omega arith) ∙ ap (λ (u : ℕ). bits u (y % 16)) m)
    (right.entry (row * 2) (y / 16) (omega arith) (omega arith) ∙ ap (λ (u : ℕ). bits u (y / 16)) n)
    ∙ sym (halves (row * 8 + 4) y)
    ∙ ap (λ (u : ℕ). bits u y) k
