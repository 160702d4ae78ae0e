-- The steps of the decimal verdict, by the tests that the code makes.
use mathlib.Core.Path.{◌≡◌}
use Prim.Native.Nat.{ℕ}
use borrow.Author.Tests.{eq-eqb, ne_eqb}
use Rattle.exact.specs.Machine.{done, dead}
use Rattle.decimal.specs.DecimalVerdict.{behind, digit, step_decimal}

module _ (bound n c : ℕ) where
  pub behind_end : (end : ℕ) → c ≡ end → step_decimal bound end (behind n) c ≡ done n
  behind_end end e = simp (eq-eqb c end e)

  pub behind_zero : (end : ℕ) → (c ≡ end → ⊥) → n ≡ 0 → step_decimal bound end (behind n) c ≡ dead
  behind_zero end h e = simp (ne_eqb c end h, eq-eqb n 0 e)

  pub behind-digit : (end : ℕ) → (c ≡ end → ⊥) → (n ≡ 0 → ⊥) → step_decimal bound end (behind n) c ≡ digit bound n c
  behind-digit end h e = simp (ne_eqb c end h, ne_eqb n 0 e)
