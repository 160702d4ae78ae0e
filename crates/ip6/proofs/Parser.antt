-- Lemmas on what specs/Parser.antt defines.
use Rattle.std.specs.Prelude.{◌≡◌, refl, List, [], ◌∷◌, ◌++◌, ℕ}
use Rattle.std.proofs.Common.{arith}
use Rattle.exact.specs.Ended.{Ended}
use Rattle.exact.proofs.Unique.{unique}
use Rattle.hex_digits.specs.Hex.{hex_of}
use Rattle.ip6.specs.Address.{Address, Ending}
use Rattle.ip6.specs.Parser.{ip6}

-- the space that ends an address in a line
pub space_ends : Ending 32
unfolding hex_of
space_ends = record { byte = omega arith; no_digit = λ h. omega arith; no_colon = λ h. omega arith }

-- a text says one address
pub address_one : (f vs ws : List ℕ) → Address f vs → Address f ws → vs ≡ ws
address_one f vs ws a b =
    let ended : (us : List ℕ) → Address f us → Ended Address 32 (f ++ 32 ∷ []) us = λ us l. record { text = f; split = refl; whole = l } in
    (unique (ip6 0 0 32 space_ends) (f ++ 32 ∷ []) ws (ended ws b) [] [] (f ++ 32 ∷ []) vs refl (ended vs a)).1
