-- Lemmas on what specs/AcceptedTold.antt defines.
use Rattle.std.specs.Prelude.{◌≡◌, refl, Bool, true, false, List, [], ◌∷◌, ◌++◌, ℕ, ◌-◌, ◌≤◌, leb, length, take, drop}
use Rattle.std.proofs.Common.{sym, ap, ◌∙◌, subst, arith, leb-true, length-append, length-take-le}
use Rattle.exact.specs.Claim as Claim
use Rattle.exact.specs.Claim.{accepted, more, refused}
use Rattle.exact.specs.Network.{network}
use Rattle.exact.specs.Pick.{pick}
use Rattle.record.specs.declared.Record.{Record}
use Rattle.kind_code.specs.Codes.{code_of}
use Rattle.kind_code.specs.States.{state_byte}
use Rattle.header.specs.Header.{Header}
use Rattle.header.specs.Demand.{Judges}
use Rattle.fields.proofs.HeaderVerdict.{verdict}
use Rattle.fields.proofs.Exactness.{judges}
use Rattle.fields.proofs.Facts.{refusal_number, area_last, record_plain}
use Rattle.lent.specs.Buffers.{over}
use Rattle.lent.proofs.BufferLaws.{over-length}
use Rattle.numbers.specs.Numbers.{numbers_size}
use Rattle.connection.specs.Connection.{connection_size, connection_bytes}
use Rattle.read_interface.specs.ReadInterface.{spoken, room_for, ReadTold}
use Rattle.read_interface.specs.AcceptedTold.{all_but_state}

module _ (r : Record) (source : length r.source ≡ 108) (destination : length r.destination ≡ 108) where
  pub front_length : length (all_but_state r) ≡ 221
  front_length =
      let a = length-append (code_of r.kind ∷ []) r.source in
      let b = length-append ((code_of r.kind ∷ []) ++ r.source) r.destination in
      let c = length-append ((code_of r.kind ∷ []) ++ r.source ++ r.destination) (network r.source_port) in
      let d = length-append ((code_of r.kind ∷ []) ++ r.source ++ r.destination ++ network r.source_port) (network r.destination_port) in
      omega arith

  pub connection_length : length (connection_bytes r) ≡ connection_size
  connection_length = let e = front_length in let f = length-append (all_but_state r) (state_byte r.checksum ∷ []) in omega arith

room_both : (numbers connection : List ℕ) → room_for numbers connection ≡ true → (numbers_size ≤ length numbers) × (connection_size ≤ length connection)
room_both numbers connection e = by (leb numbers_size (length numbers)) refl e
  where
    by : (b : Bool) → leb numbers_size (length numbers) ≡ b → pick b (leb connection_size (length connection)) false ≡ true
        → (numbers_size ≤ length numbers) × (connection_size ≤ length connection)
    by true t e = (leb-true _ _ t, leb-true _ _ e)
    by false t e = let z : ◌≡◌ {A = ℕ} 0 1 = cc in absurd (omega arith)

module _ (s numbers connection : List ℕ) where
  -- what was told of an accepted header
  pub record AcceptedTold (n c : List ℕ) : Type 0 where
    pub header : Header
    pub size : ℕ
    pub is : verdict s ≡ accepted header size
    pub room : room_for numbers connection ≡ true
    pub numbers_told : n ≡ over (spoken (accepted header size)).numbers numbers
    pub connection_told : c ≡ over (connection_bytes header.«record») connection

  pub accepted_told : (n c : List ℕ) → ReadTold (spoken (verdict s)) numbers connection 0 n c → AcceptedTold n c
  accepted_told n c told = by (verdict s) refl (judges s) (room_for numbers connection) refl told
    where
      by : (v : Claim.Verdict Header) → verdict s ≡ v → Judges v s → (b : Bool) → room_for numbers connection ≡ b
          → ReadTold (spoken v) numbers connection 0 n c → AcceptedTold n c
      by v e j false r t = let z : ◌≡◌ {A = ℕ} 0 14 = t.0 ∙ ap (λ (b : Bool). pick b (spoken v).answer 14) r in absurd (omega arith)
      by (accepted h m) e j true r t =
          record {
            header = h;
            size = m;
            is = e;
            room = r;
            numbers_told = t.1 ∙ ap (λ (b : Bool). pick b (over (spoken (accepted h m)).numbers numbers) numbers) r;
            connection_told = t.2 ∙ ap (λ (b : Bool). pick b (over (connection_bytes h.«record») connection) connection) r;
          }
      by (more m) e j true r t = let z : ◌≡◌ {A = ℕ} 0 255 = t.0 ∙ ap (λ (b : Bool). pick b 255 14) r in absurd (omega arith)
      by (refused k p) e j true r t =
          let z : 0 ≡ k = t.0 ∙ ap (λ (b : Bool). pick b k 14) r in
          let h = refusal_number s k p j in
          absurd (omega arith)

  module _ (n c : List ℕ) (a : AcceptedTold n c) where
    abbrev h : Header
    h = a.header

    abbrev m : ℕ
    m = a.size

    pub whole : Judges (accepted h m) s
    whole = subst (λ (v : Claim.Verdict Header). Judges v s) a.is (judges s)

    -- "the TLV area is given too": the numbers tell where it starts in the header
    pub area_told : drop (m - length h.area) (take m s) ≡ h.area
    area_told =
        let size : length (take m s) ≡ m = length-take-le m s whole.0 in
        ap (λ (k : ℕ). drop (k - length h.area) (take m s)) (sym size) ∙ area_last (take m s) h whole.1

    pub sized : length (connection_bytes h.«record») ≡ connection_size
    sized = let k = record_plain (take m s) h whole.1 in connection_length h.«record» k.1 k.2

    pub long_numbers : 4 ≤ length n
    long_numbers = let r = room_both numbers connection a.room in let e = ap length a.numbers_told in omega arith

    pub long_connection : 222 ≤ length c
    long_connection =
        let r = room_both numbers connection a.room in
        let e = ap length a.connection_told in
        let l = over-length (connection_bytes h.«record») connection (omega (arith, sized)) in
        omega (arith, sized)
