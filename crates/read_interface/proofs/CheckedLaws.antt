-- What a checked reading makes of what the plain one has told: another answer than accepted stays; of an accepted header the state is put, or 23 is told.
use Rattle.std.specs.Prelude.{Option, Some, None}
use mathlib.Core.Path.{◌≡◌, refl, sym, ap, ap₂, ◌∙◌}
use mathlib.Core.Bool.{Bool, true, false}
use mathlib.Core.List.{List, [], ◌∷◌, ◌++◌, append_assoc}
use Prim.Native.Nat.{ℕ, ◌-◌}
use lib.ListN.{length, take, drop, set, length-append}
use lib.Seq.{set-append_seam}
use Rattle.exact.specs.Claim as Claim
use Rattle.exact.specs.Claim.{accepted, more, refused}
use Rattle.exact.specs.Pick.{pick}
use Rattle.tlv.specs.Test.{well_formed}
use Rattle.tlv.proofs.Test.{well_formed_tested}
use Rattle.tlv.specs.Listed.{tlvs_of}
use Rattle.record.specs.declared.Kind.TheVariants.{Unspecified}
use Rattle.record.specs.declared.Checksum.{Checksum}
use Rattle.record.specs.declared.Checksum.TheVariants.{Absent}
use Rattle.record.specs.declared.Record.{Record}
use Rattle.record.specs.Records.{with_checksum, bare}
use Rattle.kind_code.specs.States.{state_byte}
use Rattle.header.specs.Header.{Header, Whole}
use Rattle.fields.proofs.HeaderVerdict.{verdict}
use Rattle.fields.proofs.Facts.{area_filled, record_plain}
use Rattle.lent.specs.Buffers.{over, told_in}
use Rattle.lent.proofs.BufferLaws.{roomy, over-over}
use Rattle.numbers.specs.Numbers.{numbers_size}
use Rattle.connection.specs.Connection.{connection_size, connection_bytes}
use Rattle.checksum.specs.State.{state_in, state_from, by_state, state_on, checked_by, checked_verdict}
use Rattle.read_interface.specs.ReadInterface.{Spoken, spoken, spoken_checked, room_for, ReadTold}
use Rattle.read_interface.specs.AcceptedTold.{all_but_state}
use Rattle.read_interface.proofs.AcceptedTold.{front_length, connection_length, AcceptedTold, whole, area_told, sized, long_numbers, long_connection}
use Rattle.read_interface.proofs.ReadLaws.{told_as}

module _ (r : Record) (source : length r.source ≡ 108) (destination : length r.destination ≡ 108) where
  -- another state, put over the one that is there
  state_put : (k : Checksum) (connection : List ℕ)
      → set (over (connection_bytes r) connection) 221 (state_byte k) ≡ over (connection_bytes (with_checksum k r)) connection
  state_put k connection =
      let front = all_but_state r in
      let rest : ℕ → List ℕ = λ (b : ℕ). drop (length (front ++ (b ∷ []))) connection in
      let same : rest (state_byte r.checksum) ≡ rest (state_byte k) =
      ap (λ (n : ℕ). drop n connection) (length-append front (state_byte r.checksum ∷ []) ∙ sym (length-append front (state_byte k ∷ []))) in
      ap₂ (λ (l : List ℕ) (i : ℕ). set l i (state_byte k)) (append_assoc front (state_byte r.checksum ∷ []) (rest (state_byte r.checksum))) (sym (front_length r source destination))
      ∙ set-append_seam front (state_byte r.checksum) (rest (state_byte r.checksum)) (state_byte k)
      ∙ ap (λ (l : List ℕ). front ++ state_byte k ∷ l) same
      ∙ sym (append_assoc front (state_byte k ∷ []) (rest (state_byte k)))

bare-length : length (connection_bytes (bare Unspecified)) ≡ connection_size
bare-length = connection_length (bare Unspecified) refl refl

module _ (s numbers connection : List ℕ) where
  -- another answer than accepted stays
  pub passed_on : (answer : ℕ) (n c : List ℕ) → (answer ≡ 0 → ⊥) → ReadTold (spoken (verdict s)) numbers connection answer n c
      → ReadTold (spoken_checked (checked_verdict s)) numbers connection answer n c
  passed_on answer n c other = by (verdict s)
    where
      without_room : (x y : Spoken) (b : Bool) → room_for numbers connection ≡ b → pick b y.answer 14 ≡ pick b 0 14
          → ReadTold y numbers connection answer n c → ReadTold x numbers connection answer n c
      without_room x y true e z told = absurd (other (told.0 ∙ ap (λ (b : Bool). pick b y.answer 14) e ∙ z))
      without_room x y false e z told = (
        told.0 ∙ ap (λ (b : Bool). pick b y.answer 14) e ∙ ap (λ (b : Bool). pick b x.answer 14) (sym e),
        told.1 ∙ ap (λ (b : Bool). pick b (over y.numbers numbers) numbers) e ∙ ap (λ (b : Bool). pick b (over x.numbers numbers) numbers) (sym e),
        told.2
            ∙ ap (λ (b : Bool). pick b (over (connection_bytes y.«record») connection) connection) e
            ∙ ap (λ (b : Bool). pick b (over (connection_bytes x.«record») connection) connection) (sym e),
      )

      by : (v : Claim.Verdict Header) → ReadTold (spoken v) numbers connection answer n c
          → ReadTold (spoken_checked (checked_by v (state_on s v))) numbers connection answer n c
      by (accepted h m) told =
          without_room (spoken_checked (checked_by (accepted h m) (state_on s (accepted h m)))) (spoken (accepted h m)) (room_for numbers connection) refl refl told
      by (more m) told = told
      by (refused k p) told = told

  module _ (n c : List ℕ) (a : AcceptedTold s numbers connection n c) where
    abbrev h : Header
    h = a.header

    abbrev m : ℕ
    m = a.size

    here : Whole (take m s) h
    here = (whole s numbers connection n c a).1

    -- the state by where the numbers tell that the area starts
    pub state_told : state_from (take m s) (m - length h.area) ≡ state_on s (verdict s)
    state_told =
        ap (λ (x : List ℕ). pick (well_formed x) (state_in (take m s) (tlvs_of x)) (Some Absent)) (area_told s numbers connection n c a)
        ∙ ap (λ (b : Bool). pick b (state_in (take m s) (tlvs_of h.area)) (Some Absent)) ((well_formed_tested h.area).1 (area_filled (take m s) h here))
        ∙ ap (state_on s) (sym a.is)

    by_state_lem : (x : Option Checksum) → x ≡ state_on s (verdict s) → spoken_checked (checked_verdict s) ≡ spoken_checked (by_state h m x)
    by_state_lem x e =
        ap (λ (v : Claim.Verdict Header). spoken_checked (checked_by v (state_on s (verdict s)))) a.is
        ∙ ap (λ (y : Option Checksum). spoken_checked (by_state h m y)) (sym e)

    -- the state is put last
    pub state_written : (k : Checksum) (byte : ℕ) → byte ≡ state_byte k → Some k ≡ state_on s (verdict s)
        → ReadTold (spoken_checked (checked_verdict s)) numbers connection 0 n (set c 221 byte)
    state_written k byte is e =
        let x = by_state_lem (Some k) e in
        let kept = record_plain (take m s) h here in
        told_as (spoken_checked (checked_verdict s)) numbers connection 0 n (set c 221 byte) a.room (ap (λ (y : Spoken). y.answer) (sym x))
        (a.numbers_told ∙ ap (λ (y : Spoken). over y.numbers numbers) (sym x))
        (ap₂ (λ (l : List ℕ) (b : ℕ). set l 221 b) a.connection_told is
        ∙ state_put h.«record» kept.1 kept.2 k connection
        ∙ ap (λ (y : Spoken). over (connection_bytes y.«record») connection) (sym x))

    -- or 23 is told over what was
    pub wrong_written : (n' c' : List ℕ) → None ≡ state_on s (verdict s) → n' ≡ told_in numbers_size (0 ∷ 0 ∷ 0 ∷ 0 ∷ []) n
        → c' ≡ told_in connection_size (connection_bytes (bare Unspecified)) c → ReadTold (spoken_checked (checked_verdict s)) numbers connection 23 n' c'
    wrong_written n' c' e en ec =
        let x = by_state_lem None e in
        told_as (spoken_checked (checked_verdict s)) numbers connection 23 n' c' a.room (ap (λ (y : Spoken). y.answer) (sym x))
        (en
        ∙ sym (roomy numbers_size n _ _ (long_numbers s numbers connection n c a))
        ∙ ap (over (0 ∷ 0 ∷ 0 ∷ 0 ∷ [])) a.numbers_told
        ∙ over-over (0 ∷ 0 ∷ 0 ∷ 0 ∷ []) (spoken (accepted h m)).numbers numbers refl
        ∙ ap (λ (y : Spoken). over y.numbers numbers) (sym x))
        (ec
        ∙ sym (roomy connection_size c _ _ (long_connection s numbers connection n c a))
        ∙ ap (over (connection_bytes (bare Unspecified))) a.connection_told
        ∙ over-over (connection_bytes (bare Unspecified)) (connection_bytes h.«record») connection (bare-length ∙ sym (sized s numbers connection n c a))
        ∙ ap (λ (y : Spoken). over (connection_bytes y.«record») connection) (sym x))
