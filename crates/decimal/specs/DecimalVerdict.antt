-- The verdict on decimal text that a byte ends, byte by byte.
use Rattle.std.specs.Prelude.{List, ℕ, ◌+◌, ◌*◌, ◌-◌, eqb, leb}
use Rattle.exact.specs.Claim.{Verdict}
use Rattle.exact.specs.Machine.{Move, go, done, dead, run}
use Rattle.exact.specs.Pick.{pick}

-- nothing yet, or digits that make a number
pub data At : Type 0 where
  start : At
  behind : ℕ → At

-- a digit behind those that make n
abbrev pub digit : ℕ → ℕ → ℕ → Move At ℕ
digit bound n c =
    pick (leb 48 c) (pick (leb c 57) (pick (leb (n * 10 + (c - 48)) bound) (go (behind (n * 10 + (c - 48)))) dead) dead) dead

abbrev pub step_decimal : ℕ → ℕ → At → ℕ → Move At ℕ
step_decimal bound end start c = digit bound 0 c
step_decimal bound end (behind n) c = pick (eqb c end) (done n) (pick (eqb n 0) dead (digit bound n c))

-- a digit and the end, or the end, and then m
abbrev pub least_decimal : ℕ → At → ℕ
least_decimal m start = 2 + m
least_decimal m (behind n) = 1 + m

-- m is what is asked behind the number
abbrev pub decimal_verdict : (k m bound end : ℕ) → List ℕ → Verdict ℕ
decimal_verdict k m bound end s = run k (step_decimal bound end) (least_decimal m) s start
