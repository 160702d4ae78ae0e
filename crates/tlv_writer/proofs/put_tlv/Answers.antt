-- `put_tlv` goes by what `put` ensures of the head and of the value behind it.
use Rattle.std.proofs.Common.{ℕ, ◌+◌, ◌≤◌, ◌<◌, ◌≡◌, ap, ◌∙◌, List, [], ◌∷◌, arith, lt-ltb, le-leb, get_or, length}
use Rattle.exact.specs.Network.{network}
use Rattle.lent.specs.Placed.{placed}
use Rattle.lent.proofs.NetworkLaws.{be_bytes}
use Rattle.lent.proofs.PlacedLaws.{placed_then}
use Rattle.tlv.specs.Tlv.{tlv_bytes}
use Rattle.tlv_writer.specs.Put.{tlv_placed, place_behind}
use Rattle.tlv_writer.proofs.put_tlv.Goals.{After-put-2}
use Rattle.tlv_writer.proofs.put_tlv.Goals as goal

module _ (type : ℕ) (value : List ℕ) (at : ℕ) (d : List ℕ) where
  -- the place that is answered, and what the output then holds
  abbrev Puts : ℕ → List ℕ → Type 0
  Puts place after = (place ≡ place_behind type value at (length d)) × (after ≡ tlv_placed type value at d)

  both : (d₁ d₂ : List ℕ) → length value < 65536 → at + 3 + length value ≤ length d → d₁ ≡ placed (type ∷ network (length value)) at d
      → d₂ ≡ placed value (at + 3) d₁ → Puts (at + 3 + length value) d₂
  both d₁ d₂ small room e₁ e₂ =
      let short = lt-ltb (length value) 65536 small in (
        rw (short, le-leb (at + length (tlv_bytes type value)) (length d) (omega arith)) (omega arith),
        rw short (placed_then (type ∷ network (length value)) value d d₁ d₂ at (at + 3) e₁ e₂ (omega arith) (omega arith)),
      )

pub returns : goal.returns
returns c =
    let c₂ = (goal.at.returns c).After-put-2 in
    let x = c₂.args in
    let head =
    ap (λ (l : List ℕ). placed (x.tlv_type ∷ get_or l 0 0 ∷ get_or l 1 0 ∷ []) x.at x.out.now)
    (c₂.to_be_bytes.ensures ∙ be_bytes (length x.value.now) (omega arith))
    in
    both x.tlv_type x.value.now x.at x.out.now _ _ (omega arith) (omega arith) (c₂.put.ensures ∙ head) c₂.put-2.ensures
