-- For proofs. A copy over zeros is an address as a record holds it.
use Rattle.std.specs.Prelude.{List, ℕ, replicate}

-- an array of zeros
abbrev pub blank : List ℕ
blank = replicate 108 0
