-- For proofs. Bytes that are judged as an area of their own length are accepted exactly if they are well-formed.
use Rattle.std.specs.Prelude.{ℕ}
use Rattle.exact.specs.Claim.{Verdict, accepted, more, refused}

-- the verdict accepts, whatever the value and the length
abbrev pub Accepted : Verdict ℕ → Type 0
Accepted (accepted a n) = Unit {0}
Accepted (more n) = ⊥
Accepted (refused k p) = ⊥
