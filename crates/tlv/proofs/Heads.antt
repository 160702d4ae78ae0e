-- Lemmas on what specs/Heads.antt defines.
use Rattle.std.specs.Prelude.{◌≡◌, refl, List, [], ◌∷◌, ◌++◌, ℕ, suc, ◌+◌, ◌/◌, ◌%◌, ◌≤◌, ◌<◌, length, get_or, take, drop}
use Rattle.std.proofs.Common.{sym, ap, ◌∙◌, arith, length-append, length-drop, take-append-drop, length-take-le, drop-cons, get_or-drop, drop-drop}
use Rattle.std.proofs.Math.Seq.{take-append_seam, drop-append_seam}
use Rattle.exact.specs.Claim.{AllBytes}
use Rattle.exact.proofs.Parser.{bytes_take, bytes_drop, byte_at}
use Rattle.exact.specs.Network.{number}
use Rattle.tlv.specs.Tlv.{Tlv, tlv_bytes, written, Area}
use Rattle.tlv.proofs.Laws.{one_area}
use Rattle.tlv.specs.Heads.{size_at, tlv_at}

pub size_bytes : (s : List ℕ) (at : ℕ) → size_at s at ≡ number (get_or s (at + 1) 0) (get_or s (at + 2) 0)
size_bytes s at = let e : at + 1 + 1 ≡ at + 2 = omega arith in ap (λ (i : ℕ). number (get_or s (at + 1) 0) (get_or s i 0)) e

module _ (s : List ℕ) (at : ℕ) (t : Tlv) (rest : List Tlv) (a : Area (drop at s) (t ∷ rest)) where
  head_byte : (i : ℕ) → get_or s (at + i) 0 ≡ get_or (written (t ∷ rest)) i 0
  head_byte i = sym (get_or-drop at s i 0) ∙ ap (λ (l : List ℕ). get_or l i 0) a.0

  behind_head : drop (at + 3) s ≡ t.value ++ written rest
  behind_head = sym (drop-drop 3 at s) ∙ ap (drop 3) a.0

  pub head_type : get_or s at 0 ≡ t.type
  head_type =
      let e : at + 0 ≡ at = omega arith in
      ap (λ (i : ℕ). get_or s i 0) (sym e) ∙ head_byte 0

  pub head_size : size_at s at ≡ length t.value
  head_size =
      let high = head_byte 1 in
      let low = head_byte 2 in
      omega (arith, size_bytes s at)

  pub head_room : at + 3 + length t.value ≤ length s
  head_room =
      let e = simp (length-drop, length-append) at (ap length a.0) in
      omega arith

  pub head_value : take (length t.value) (drop (at + 3) s) ≡ t.value
  head_value = rw behind_head (take-append_seam t.value (written rest))

  pub head_rest : Area (drop (at + 3 + length t.value) s) rest
  head_rest = (
    sym (drop-drop (length t.value) (at + 3) s) ∙ ap (drop (length t.value)) behind_head ∙ drop-append_seam t.value (written rest),
    a.1.3,
  )

-- at the end no TLV remains, and before it one does
pub none_left : (s : List ℕ) (at : ℕ) (tlvs : List Tlv) → length s ≤ at → Area (drop at s) tlvs → tlvs ≡ []
none_left s at [] h a = refl
none_left s at (t ∷ rest) h a = let e = head_room s at t rest a in absurd (omega arith)

pub some_left : (s : List ℕ) (at : ℕ) → at < length s → Area (drop at s) [] → ⊥
some_left s at h a = let e = simp length-drop at (ap length a.0) in omega arith

-- so where one does, it ends in the area
pub size_room : (s : List ℕ) (at : ℕ) (tlvs : List Tlv) → at < length s → Area (drop at s) tlvs → at + 3 + size_at s at ≤ length s
size_room s at [] h a = absurd (some_left s at h a)
size_room s at (t ∷ rest) h a =
    let e = head_size s at t rest a in
    let g = head_room s at t rest a in
    omega arith

module _ (s : List ℕ) (at : ℕ) (bytes : AllBytes s) (room : at + 3 + size_at s at ≤ length s) where
  pub tlv_size : length (tlv_at s at).value ≡ size_at s at
  tlv_size = length-take-le (size_at s at) (drop (at + 3) s) (simp length-drop (omega arith))

  pub tlv_area : Area (tlv_bytes (tlv_at s at).type (tlv_at s at).value) (tlv_at s at ∷ [])
  tlv_area =
      let all = bytes_take (size_at s at) (drop (at + 3) s) (bytes_drop (at + 3) s bytes) in
      let size = tlv_size in
      let high = byte_at s (at + 1) bytes in
      let low = byte_at s (at + 2) bytes in
      one_area (tlv_at s at) (byte_at s at bytes) all (omega (arith, size_bytes s at))

  byte_split : (i : ℕ) → at + i < length s → drop (at + i) s ≡ get_or s (at + i) 0 ∷ drop (at + suc i) s
  byte_split i h =
      let next : suc (at + i) ≡ at + suc i = omega arith in
      drop-cons s (at + i) 0 h ∙ ap (λ (n : ℕ). get_or s (at + i) 0 ∷ drop n s) next

  pub tlv_split : drop at s ≡ tlv_bytes (tlv_at s at).type (tlv_at s at).value ++ drop (at + 3 + size_at s at) s
  tlv_split =
      let here : at ≡ at + 0 = omega arith in
      let size = tlv_size in
      let first = byte_at s (at + 1) bytes in
      let second = byte_at s (at + 2) bytes in
      let high : get_or s (at + 1) 0 ≡ length (tlv_at s at).value / 256 = omega (arith, size_bytes s at) in
      let low : get_or s (at + 2) 0 ≡ length (tlv_at s at).value % 256 = omega (arith, size_bytes s at) in
      let type : get_or s (at + 0) 0 ≡ get_or s at 0 = ap (λ (n : ℕ). get_or s n 0) (sym here) in
      let rest : drop (at + 3) s ≡ (tlv_at s at).value ++ drop (at + 3 + size_at s at) s =
      sym (take-append-drop (size_at s at) (drop (at + 3) s)) ∙ ap (λ (l : List ℕ). (tlv_at s at).value ++ l) (drop-drop (size_at s at) (at + 3) s) in
      ap (λ (n : ℕ). drop n s) here
      ∙ byte_split 0 (omega arith)
      ∙ ap (λ (l : List ℕ). get_or s (at + 0) 0 ∷ l) (byte_split 1 (omega arith) ∙ ap (λ (l : List ℕ). get_or s (at + 1) 0 ∷ l) (byte_split 2 (omega arith)))
      ∙ (λ k. type k ∷ high k ∷ low k ∷ rest k)
