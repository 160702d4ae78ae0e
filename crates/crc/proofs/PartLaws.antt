-- The register goes through parts: what is fed in two parts is what is fed as one.
use Rattle.std.specs.Prelude.{◌≡◌, refl, List, [], ◌∷◌, ◌++◌, ℕ}
use Rattle.crc.specs.Crc.{byte, register}

pub in_parts : (r : ℕ) (a b : List ℕ) → register r (a ++ b) ≡ register (register r a) b
unfolding register
in_parts r [] b = refl
in_parts r (x ∷ a) b = in_parts (byte r x) a b
