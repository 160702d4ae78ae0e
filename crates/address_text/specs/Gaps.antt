-- For proofs. Where "::" can stand in a text: not among groups with colons, and in one place only between two lots of them.
use Rattle.std.specs.Prelude.{◌≡◌, List, [], ◌∷◌, ℕ}

-- ── groups with colons ──
abbrev pub NoColon : List ℕ → Type 0
NoColon [] = Unit {0}
NoColon (c ∷ f) = (c ≡ 58 → ⊥) × NoColon f
