-- Lemmas on what specs/Converting.antt defines.
use Rattle.std.specs.Prelude.{◌≡◌, refl, List, ◌∷◌, ◌++◌, ℕ, drop, get_or}
use Rattle.stored_form.specs.declared.StoredVersion.TheVariants.{One, Two}
use Rattle.stored_form.specs.Heads.{mark}
use Rattle.stored_form.specs.Converting.{converted}

-- "Moving forward sets absent": a zero is put behind the kind code
pub forward_bytes : (s : List ℕ) → converted One Two s ≡ mark ++ 0x00 ∷ 0x02 ∷ get_or s 5 0 ∷ 0x00 ∷ drop 6 s
unfolding converted
forward_bytes s = refl

-- and moving back leaves the state out
pub back_bytes : (s : List ℕ) → converted Two One s ≡ mark ++ 0x00 ∷ 0x01 ∷ get_or s 5 0 ∷ drop 7 s
unfolding converted
back_bytes s = refl
