-- Lemmas on what specs/Lengths.antt defines.
use Rattle.std.specs.Prelude.{◌≡◌, true, ◌⊎◌, ℕ, ◌+◌, ◌≤◌}
use Rattle.std.proofs.Common.{inl, inr, arith, eq-eqb, ne_eqb, le-leb}
use Rattle.fields.specs.Lengths.{fits}

pub either_fits : (a n : ℕ) → (n ≡ a) ⊎ (a + 3 ≤ n) → fits a n ≡ true
either_fits a n (inl e) = simp (eq-eqb n a e)
either_fits a n (inr h) =
    let other : n ≡ a → ⊥ = omega arith in
    simp (ne_eqb n a other, le-leb (a + 3) n h)
