-- For proofs. What may follow the digits read so far. The leaf of decimal text, whose verdicts are exact, stands in proofs/DecimalParser.antt.
use Rattle.std.specs.Prelude.{◌≡◌, List, [], ℕ, ◌≤◌}
use Rattle.decimal.specs.Decimal.{Digits, value_on}
use Rattle.decimal.specs.DecimalVerdict.{At, start, behind}

-- ── what may follow ──
-- the digits f behind those that make m
pub record Tail (bound m : ℕ) (f : List ℕ) (n : ℕ) : Type 0 where
  pub digits : Digits f
  pub plain : m ≡ 0 → f ≡ []
  pub value : n ≡ value_on m f
  pub fits : n ≤ bound

abbrev pub Ok : ℕ → At → Type 0
Ok bound start = Unit {0}
Ok bound (behind m) = m ≤ bound
