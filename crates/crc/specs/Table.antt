-- For proofs. The rule of the code's table, sixteen rows of sixteen entries: row j has what 4 * (j + 1) bits make of each register below 16.
use Rattle.std.specs.Prelude.{◌≡◌, List, ℕ, ◌+◌, ◌*◌, ◌<◌, get_or}
use Rattle.crc.specs.Crc.{bits}

pub record Right (t : List ℕ) : Type 0 where
  pub entry : (j k : ℕ) → j < 16 → k < 16 → get_or t (j * 16 + k) 0 ≡ bits ((j + 1) * 4) k
