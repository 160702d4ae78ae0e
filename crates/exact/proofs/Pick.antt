-- Lemmas on what specs/Pick.antt defines.
use Rattle.std.specs.Prelude.{◌≡◌, refl, Bool, true, false, ◌&&◌}
use Rattle.exact.specs.Pick.{never, pick}

-- two tests that hold together
pub both : (a b : Bool) → a && b ≡ true → (a ≡ true) × (b ≡ true)
both true b e = (refl, e)
both false b e = never e

-- a second test that fails
pub second_fails : {T : Type 0} (b : Bool) (x y : T) → pick (b && false) x y ≡ y
second_fails true x y = refl
second_fails false x y = refl
