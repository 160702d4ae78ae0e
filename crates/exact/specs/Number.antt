-- For proofs. The leaf of a 16-bit number in network order that keeps a rule.
use Rattle.std.specs.Prelude.{◌≡◌, Bool, true, List, ℕ, ◌<◌, Option, Some, None}
use Rattle.exact.specs.Pick.{pick}
use Rattle.exact.specs.Network.{network, number}

pub record Number (good : ℕ → Bool) (f : List ℕ) (n : ℕ) : Type 0 where
  pub split : f ≡ network n
  pub small : n < 65536
  pub fits : good n ≡ true

abbrev pub any : ℕ → Option ℕ
any c = Some c

abbrev pub low : (ℕ → Bool) → ℕ → ℕ → Option ℕ
low good h c = pick (good (number h c)) (Some (number h c)) None
