-- What a walk shows: document 01, "Looking into TLVs".
use Rattle.std.specs.Prelude.{◌≡◌, List, [], ◌∷◌, ℕ, ◌+◌, length}
use Rattle.tlv.specs.Tlv.{Tlv}
use Rattle.tlv_step.specs.Step.{shown, end, step_at, value_of, place_after}

-- the steps from a place on, each from where the one before has left the walker, show these TLVs "in order, each once, then the end";
-- there the walker stays, so that it is shown again
abbrev pub Shows : List ℕ → ℕ → List Tlv → Type 0
Shows s at [] = (step_at s at ≡ end) × (place_after at (step_at s at) ≡ at)
Shows s at (t ∷ rest) =
    (step_at s at ≡ shown t.type (at + 3) (length t.value))
    × (value_of s (step_at s at) ≡ t.value)
    × Shows s (place_after at (step_at s at)) rest
