-- How long a header with a checksum is, and its parts put one behind the other: first with zeros for the checksum, then with it.
use mathlib.Core.Path.{◌≡◌, refl, sym, ap, ap₂, ◌∙◌}
use mathlib.Core.List.{List, ◌∷◌, ◌++◌, append_assoc, append-nil}
use Prim.Native.Nat.{ℕ, ◌+◌, ◌≤◌}
use native.Mathlib.Omega.{arith}
use lib.ListN.{length, take, drop, replicate, length-append}
use lib.Seq.{take_at}
use Rattle.exact.specs.Network.{network}
use Rattle.lent.specs.Placed.{placed}
use Rattle.lent.proofs.PlacedLaws.{placed_next, placed_then, placed_start, placed-length, placed_over}
use Rattle.tlv.specs.Tlv.{tlv_bytes}
use Rattle.record.specs.declared.Record.{Record}
use Rattle.record.specs.Kinds.{block_length}
use Rattle.record.specs.Records.{Sized}
use Rattle.address_block.specs.AddressBlock.{address_block}
use Rattle.address_block.proofs.AddressBlockLaws.{block_size}
use Rattle.head_writer.specs.Head.{head_of}
use Rattle.block_writer.specs.Written.{block_of, written_block, block_placed}
use Rattle.block_writer.proofs.WrittenLaws.{block_placed_lem}
use Rattle.checked_writer.specs.Written.{with_tlv}

module _ (r : Record) (area : List ℕ) (sized : Sized r) where
  -- with a value of four bytes
  pub tlv_length : (value : List ℕ) → length value ≡ 4 → length (block_of r (with_tlv area value)) ≡ block_length r.kind + length area + 7
  tlv_length value four =
      let a = block_size r sized.source sized.destination in
      let b = length-append (address_block r) (with_tlv area value) in
      let c = length-append area (tlv_bytes 0x03 value) in
      omega arith

  pub header_length : (value : List ℕ) → length value ≡ 4 → length (written_block r (with_tlv area value)) ≡ 16 + (block_length r.kind + length area + 7)
  unfolding written_block
  header_length value four = let e = tlv_length value four in omega arith

  module _ (k : ℕ) (size : k ≡ block_length r.kind + length area) where
    abbrev block : List ℕ
    block = head_of r.kind (k + 7) ++ block_of r area

    -- the header up to the checksum
    abbrev front : List ℕ
    front = block ++ (0x03 ∷ network 4)

    block_length_lem : length block ≡ 16 + k
    block_length_lem =
        let a = block_size r sized.source sized.destination in
        let b = length-append (address_block r) area in
        omega arith

    front_length : length front ≡ 19 + k
    front_length = let e = block_length_lem in let f = length-append block (0x03 ∷ network 4) in omega arith

    -- and the checksum behind it
    text : (value : List ℕ) → length value ≡ 4 → front ++ value ≡ written_block r (with_tlv area value)
    unfolding written_block
    text value four =
        let e : k + 7 ≡ length (block_of r (with_tlv area value)) = let l = tlv_length value four in omega arith in
        let parts : front ++ value ≡ head_of r.kind (k + 7) ++ (address_block r ++ (area ++ (0x03 ∷ network 4 ++ value))) = simp append_assoc in
        parts
        ∙ ap₂ (λ (m n : ℕ). head_of r.kind m ++ (address_block r ++ (area ++ (0x03 ∷ network n ++ value)))) e (sym four)

    module _ (d d₁ d₂ : List ℕ) (room : 23 + k ≤ length d) (e₁ : d₁ ≡ block_placed r (k + 7) area d) (e₂ : d₂ ≡ placed (tlv_bytes 0x03 (replicate 4 0)) (16 + k) d₁) where
      with_zeros : d₂ ≡ placed (front ++ replicate 4 0) 0 d
      with_zeros =
          let l = block_length_lem in
          placed_then block (tlv_bytes 0x03 (replicate 4 0)) d d₁ d₂ 0 (16 + k) (e₁ ∙ block_placed_lem r area sized (k + 7) d (omega arith)) e₂ (omega arith)
          (omega arith)
          ∙ ap (λ (t : List ℕ). placed t 0 d) (sym (append_assoc block (0x03 ∷ network 4) (replicate 4 0)))

      all_length : (value : List ℕ) → length value ≡ 4 → length (front ++ value) ≡ 23 + k
      all_length value four = let a = front_length in let b = length-append front value in omega arith

      -- what the checksum is taken of
      pub zeros_front : take (23 + k) d₂ ≡ written_block r (with_tlv area (replicate 4 0))
      zeros_front =
          let size = all_length (replicate 4 0) refl in
          ap (take (23 + k)) (placed_start (front ++ replicate 4 0) d d₂ (23 + k) with_zeros size room)
          ∙ take_at (front ++ replicate 4 0) (drop (23 + k) d) (23 + k) size
          ∙ text (replicate 4 0) refl

      -- what is written at last
      pub with_sum : (sum d₃ : List ℕ) → length sum ≡ 4 → d₃ ≡ placed sum (19 + k) d₂ → d₃ ≡ written_block r (with_tlv area sum) ++ drop (23 + k) d
      with_sum sum d₃ four e₃ =
          let l = front_length in
          let inside = placed-length front 0 d (omega arith) in
          let here : 19 + k ≡ 0 + length front = omega arith in
          let apart : d₂ ≡ placed (replicate 4 0) (0 + length front) (placed front 0 d) = with_zeros ∙ sym (placed_next front (replicate 4 0) 0 d (omega arith)) in
          let none_left : sum ++ drop (length sum) (replicate 4 0) ≡ sum = ap (λ (n : ℕ). sum ++ drop n (replicate 4 0)) four ∙ append-nil sum in
          placed_start (front ++ sum) d d₃ (23 + k)
          (e₃
          ∙ ap₂ (placed sum) here apart
          ∙ placed_over sum (replicate 4 0) (0 + length front) (placed front 0 d) (omega arith) (omega arith)
          ∙ ap (λ (t : List ℕ). placed t (0 + length front) (placed front 0 d)) none_left
          ∙ placed_next front sum 0 d (omega arith))
          (all_length sum four) room
          ∙ ap (λ (t : List ℕ). t ++ drop (23 + k) d) (text sum four)
