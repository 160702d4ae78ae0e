-- Lemmas on what specs/Leasts.antt defines.
use Rattle.std.specs.Prelude.{List, ℕ, ◌+◌, ◌≤◌}
use native.Mathlib.Omega.{arith}
use Rattle.exact.specs.Machine.{run}
use Rattle.exact.specs.Verdicts.{Few}
use Rattle.exact.proofs.Verdicts.{run_few}
use Rattle.ip6.specs.Machine.{push, State, start, digits, behind, colon, gap, least, least_address, step}
use Rattle.ip6.specs.Leasts.{behind_most, digit_most}

least_most : (q : State) → least q ≤ 4
least_most start = omega arith
least_most (digits s n v) = let d = digit_most n in let b = behind_most (push s 0) in omega arith
least_most (behind s) = let b = behind_most s in omega arith
least_most (colon s) = omega arith
least_most (gap l) = omega arith

pub address_few : (k m end : ℕ) (s : List ℕ) → Few (4 + m) (run k (step end) (least_address m) s start)
address_few k m end s = run_few (4 + m) k (step end) (least_address m) (λ q. let h = least_most q in omega arith) s start
