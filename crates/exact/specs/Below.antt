-- For proofs. A test that is computed at every number below n holds at each of them; so does the rule of a table.
use Rattle.std.specs.Prelude.{Bool, true, ◌&&◌, List, ℕ, zero, suc, eqb, get_or}

abbrev pub all_below : (ℕ → Bool) → ℕ → Bool
all_below test zero = true
all_below test (suc n) = test n && all_below test n

-- the first n entries of the table t are what the rule says
abbrev pub table_below : List ℕ → (ℕ → ℕ) → ℕ → Bool
table_below t rule = all_below (λ i. eqb (get_or t i 0) (rule i))
