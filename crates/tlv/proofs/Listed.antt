-- Lemmas on what specs/Listed.antt defines.
use Rattle.std.specs.Prelude.{◌≡◌, refl, List, [], ◌∷◌, ℕ, zero, suc, ◌/◌, ◌%◌, ◌≤◌, length}
use Rattle.std.proofs.Common.{ap, ap₂, ◌∙◌, arith, length-append, take_at, drop_at}
use Rattle.exact.specs.Network.{number}
use Rattle.tlv.specs.Tlv.{Tlv, written, Proper, Area}
use Rattle.tlv.specs.Listed.{tlvs_from, tlvs_of}

pub few : (tlvs : List Tlv) → length tlvs ≤ length (written tlvs)
few [] = omega arith
few (t ∷ rest) = let h = few rest in let e = length-append t.value (written rest) in omega arith

from_written : (n : ℕ) (tlvs : List Tlv) → Proper tlvs → length tlvs ≤ n → tlvs_from n (written tlvs) ≡ tlvs
from_written zero [] p h = refl
from_written zero (t ∷ rest) p h = absurd (omega arith)
from_written (suc n) [] p h = refl
from_written (suc n) (t ∷ rest) p h =
    let size : length t.value ≡ number (length t.value / 256) (length t.value % 256) = omega arith in
    ap₂ {B = List ℕ} (λ (v s : List ℕ). record { type = t.type; value = v } ∷ tlvs_from n s) (take_at t.value (written rest) _ size)
    (drop_at t.value (written rest) _ size)
    ∙ ap (λ (l : List Tlv). t ∷ l) (from_written n rest p.3 (omega arith))

-- it is the one that fills the area
pub tlvs_of_lem : (s : List ℕ) (tlvs : List Tlv) → Area s tlvs → tlvs_of s ≡ tlvs
tlvs_of_lem s tlvs a = ap tlvs_of a.0 ∙ from_written (length (written tlvs)) tlvs a.1 (few tlvs)
