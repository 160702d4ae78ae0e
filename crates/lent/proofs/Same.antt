-- Lemmas on what specs/Same.antt defines.
use Rattle.std.specs.Prelude.{◌≡◌, true, List, ◌↔◌, ℕ}
use Rattle.std.proofs.lemmas.Slice.Eq.{bytes_eq-Decides}
use Rattle.lent.specs.Same.{same}

pub same_equal : (a b : List ℕ) → (same a b ≡ true) ↔ (a ≡ b)
same_equal a b = bytes_eq-Decides a b
