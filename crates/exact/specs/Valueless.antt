-- A field that says nothing but that it is there: the number that a scan gives with it is 0.
use Rattle.std.specs.Prelude.{◌≡◌, List, ℕ}

abbrev pub Valueless : (List ℕ → Type 0) → List ℕ → ℕ → Type 0
Valueless Whole f a = Whole f × (a ≡ 0)
