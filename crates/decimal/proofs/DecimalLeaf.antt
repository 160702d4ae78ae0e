-- Lemmas on what specs/DecimalLeaf.antt defines.
use Rattle.std.specs.Prelude.{List, ℕ, ◌+◌, ◌*◌, ◌-◌, ◌≤◌, eqb, leb, length}
use Rattle.std.proofs.Common.{arith, leb-true}
use Rattle.exact.specs.Machine.{Move}
use Rattle.exact.specs.Pick.{pick_by}
use Rattle.exact.specs.Verdicts.{Within, Keeps, Few}
use Rattle.exact.proofs.Verdicts.{run_within, run_few}
use Rattle.decimal.specs.DecimalVerdict.{At, start, behind, digit, step_decimal, least_decimal, decimal_verdict}
use Rattle.decimal.specs.DecimalLeaf.{Ok}

-- ── whatever ends it, an accepted number is at most the bound, and a count at most 2 ──
module _ (bound end : ℕ) where
  abbrev Keep : Move At ℕ → Type 0
  Keep = Keeps (Ok bound) (λ (n : ℕ). n ≤ bound)

  digit_keeps : (n c : ℕ) → Keep (digit bound n c)
  digit_keeps n c =
      pick_by Keep (leb 48 c)
      (λ low.
      pick_by Keep (leb c 57) (λ high. pick_by Keep (leb (n * 10 + (c - 48)) bound) (λ fits. leb-true _ _ fits) (λ over. tt)) (λ high. tt))
      (λ low. tt)

  step_keeps : (q : At) (c : ℕ) → Ok bound q → Keep (step_decimal bound end q c)
  step_keeps start c ok = digit_keeps 0 c
  step_keeps (behind n) c ok =
      pick_by Keep (eqb c end) (λ t. ok) (λ t. pick_by Keep (eqb n 0) (λ z. tt) (λ z. digit_keeps n c))

  pub decimal_within : (k m : ℕ) (s : List ℕ) → Within (λ (n : ℕ). n ≤ bound) (length s) (decimal_verdict k m bound end s)
  decimal_within k m s = run_within (Ok bound) (λ (n : ℕ). n ≤ bound) k (step_decimal bound end) (least_decimal m) step_keeps s start tt

  pub decimal_few : (k m : ℕ) (s : List ℕ) → Few (2 + m) (decimal_verdict k m bound end s)
  decimal_few k m s = run_few (2 + m) k (step_decimal bound end) (least_decimal m) most s start
    where
      most : (q : At) → least_decimal m q ≤ 2 + m
      most start = omega arith
      most (behind n) = omega arith
