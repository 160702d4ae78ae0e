-- Lemmas on what proofs/FillRules.antt has.
use Rattle.std.specs.Prelude.{[], ◌∷◌, ◌↔◌, ℕ, ◌+◌, ◌*◌, ◌≤◌, ◌<◌}
use Rattle.tlv.specs.Tlv.{Completes}
use Rattle.tlv.proofs.Room.{high_byte_lem, some_low}
use Rattle.tlv.proofs.FillRules.{low_rule}

-- "its high length byte h is dead exactly if 256 × h exceeds R"
pub high_rule : (t h room : ℕ) → t < 256 → h < 256 → Completes (3 + room) (t ∷ h ∷ []) ↔ (256 * h ≤ room)
high_rule t h room type high = (
  λ c. (high_byte_lem t h room c.0 c.1).1,
  λ g.
      let l = some_low h room g in
      let c = (low_rule t h l.0 room type high l.1).1 l.2 in
      (l.0 ∷ c.0, c.1),
)
