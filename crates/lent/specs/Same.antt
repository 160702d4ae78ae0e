-- Whether two byte strings are the same.
use Rattle.std.specs.Prelude.{Bool, List, ℕ, eqb}
use Rattle.std.specs.Cmp.Lexicographic.{pointwise}

-- as many bytes, each the same
abbrev pub same : List ℕ → List ℕ → Bool
same = pointwise eqb
