-- Which bytes can begin an area of a given length: document 01, "The binary block".
use Rattle.std.specs.Prelude.{◌≡◌, [], ◌∷◌, ◌⊎◌, ◌↔◌, ℕ, ◌+◌, ◌-◌, ◌≤◌, ◌<◌}
use Rattle.exact.specs.Network.{number}
use Rattle.tlv.specs.Tlv.{Completes}
use Rattle.tlv.proofs.Room.{fill, filled_fillable, behind_fill, behind_fillable, head_open, head_shut, good_leaves, leaves_good}

-- "L must be A, or at least A + 3": what TLVs can fill is nothing, or at least three bytes
pub fill_rule : (n : ℕ) → Completes n [] ↔ ((n ≡ 0) ⊎ (3 ≤ n))
fill_rule n = (λ c. filled_fillable n c.0 c.1, fill n)

-- "a length is good exactly if it equals R or is at most R - 3"
pub low_rule : (t h l room : ℕ) → t < 256 → h < 256 → l < 256
    → Completes (3 + room) (t ∷ h ∷ l ∷ []) ↔ ((number h l ≡ room) ⊎ (number h l + 3 ≤ room))
low_rule t h l room type high low = (
  λ c.
      let a = head_open t h l room c.0 c.1 in
      leaves_good (number h l) room a.within (behind_fillable (number h l) (room - (number h l)) c.0 a.behind),
  λ g.
      let a = good_leaves (number h l) room g in
      let r = behind_fill (number h l) (room - (number h l)) a.1 in
      (r.0, head_shut t h l room r.0 (record { type = type; high = high; low = low; within = a.0; behind = r.1 })),
)
