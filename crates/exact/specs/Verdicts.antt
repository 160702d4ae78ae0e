-- For proofs. What holds of a machine's verdict whatever field it is for: it speaks of no more bytes than there are, its value is one that
-- the steps allow, and its count none over a bound of the leasts.
use Rattle.std.specs.Prelude.{ℕ, ◌≤◌, ◌<◌}
use Rattle.exact.specs.Claim.{Verdict, accepted, more, refused}
use Rattle.exact.specs.Machine.{Move, go, done, dead}

-- of n bytes: a value with P, or a place in them
abbrev pub Within : {A : Type 0} → (A → Type 0) → ℕ → Verdict A → Type 0
Within P n (accepted a m) = P a × (m ≤ n)
Within P n (more m) = Unit {0}
Within P n (refused k p) = p < n

-- a step leads to good states, and to values with P
abbrev pub Keeps : {Q A : Type 0} → (Q → Type 0) → (A → Type 0) → Move Q A → Type 0
Keeps Ok P (go q) = Ok q
Keeps Ok P (done a) = P a
Keeps Ok P dead = Unit {0}

-- ── a count of at most b ──
abbrev pub Few : {A : Type 0} → ℕ → Verdict A → Type 0
Few b (accepted a n) = Unit {0}
Few b (more n) = n ≤ b
Few b (refused k p) = Unit {0}
