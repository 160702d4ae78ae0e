-- The verdict on the address block and the TLVs: more while the block is short, and else that on the TLVs, with the record that the
-- block says.
use mathlib.Core.Path.{◌≡◌, refl, sym, ap, ◌∙◌}
use mathlib.Core.List.{List}
use mathlib.Core.Bool.{true}
use Prim.Native.Nat.{ℕ, ◌+◌, ◌-◌, ◌≤◌, ◌<◌}
use native.Mathlib.Omega.{arith}
use lib.ListN.{length, take, drop, length-drop}
use Rattle.exact.specs.Claim.{Verdict, accepted, more, refused, AllBytes}
use Rattle.exact.specs.Field.{shift, flat}
use Rattle.exact.specs.Parser.{Parser, spell, reach}
use Rattle.exact.proofs.ParserLemmas.{just}
use Rattle.exact.proofs.Parser.{reach-le}
use Rattle.exact.specs.Byte.{count_verdict}
use Rattle.record.specs.declared.Kind.{Kind}
use Rattle.tlv.specs.RegionVerdict.{judge}
use Rattle.record.specs.Kinds.{address_length, port_length, block_length}
use Rattle.address_block.specs.AddressBlock.{block_record}
use Rattle.header.specs.Header.{Header}
use Rattle.fields.specs.LineFields.{Headers}
use Rattle.fields.specs.Lengths.{fits}
use Rattle.fields.proofs.LengthField.{fits_least}
use Rattle.fields.proofs.BlockFields.{area-least}
use Rattle.fields.specs.BlockFields.{blocked, address, port, port-least, area, from_area, asks_area, asks_port, asks_ports, asks_address, addresses}
use Rattle.answer.specs.Answers.{area_of}
use Rattle.exact.proofs.Stage.{on, stage_accepted}
use Rattle.block_body.proofs.Parts.{port_at, record_at, record_at_lem}
use Rattle.block_body.proofs.Takes.{Short, Takes, next, next_short, then_short, then_at, short_at}
use Rattle.block_body.proofs.Leaves.{takes_count, takes_spelled, takes_port, area_judged}
use Rattle.block_body.proofs.KindLaws.{block_kind}
use Rattle.block_body.proofs.AcceptedLaws.{whole_block, area_at}

reach-spell : (v : Verdict ℕ) (t : List ℕ) → reach (spell v t) ≡ reach v
reach-spell (accepted x n) t = refl
reach-spell (more n) t = refl
reach-spell (refused k p) t = refl

module _ (k : Kind) (n : ℕ) where
  takes_address : (m : ℕ) → Takes (address m k).verdict (address_length k) m (take (address_length k))
  takes_address m = takes_spelled (count_verdict 9 m (address_length k)) (address_length k) m (λ t. 0) (takes_count 9 m (address_length k))

  -- from each field on
  abbrev from_second_port : List ℕ → List ℕ → ℕ → List ℕ → Verdict Header
  from_second_port from to p = next (port (asks_area k n) k).verdict (λ q. (from_area k n from to p q).verdict)

  abbrev from_first_port : List ℕ → List ℕ → List ℕ → Verdict Header
  from_first_port from to = next (port (asks_port k n) k).verdict (from_second_port from to)

  abbrev from_destination : List ℕ → List ℕ → Verdict Header
  from_destination from = next (address (asks_ports k n) k).verdict (from_first_port from)

  pub addresses_short : Short (addresses k n).verdict (block_length k) (asks_area k n)
  addresses_short =
      let w = address_length k in
      let o = port_length k in
      let m = asks_area k n in
      let p = port-least (asks_port k n) k in
      let q = port-least (asks_area k n) k in
      then_short _ from_destination w (w + o + o) m (asks_address k n) (block_length k) (take w) (takes_address (asks_address k n)) (omega arith) (omega arith)
      (λ from.
      then_short _ (from_first_port from) w (o + o) m (asks_ports k n) (w + o + o) (take w) (takes_address (asks_ports k n)) (omega arith) (omega arith)
      (λ to.
      then_short _ (from_second_port from to) o o m (asks_port k n) (o + o) (port_at o) (takes_port (asks_port k n) k) (omega arith) (omega arith)
      (λ p. next_short _ (λ q. (from_area k n from to p q).verdict) o m (takes_port m k).short)))

  module _ (s : List ℕ) (b : AllBytes s) (at : ℕ) (whole : at + block_length k ≤ length s) where
    pub addresses_at : shift at ((addresses k n).verdict (drop at s))
        ≡ shift (at + block_length k) (next (area (block_length k) n).verdict (λ a t. accepted (blocked (record_at k at s) a) 0) (drop (at + block_length k) s))
    addresses_at =
        let w = address_length k in
        let o = port_length k in
        let from = take w (drop at s) in
        let to = take w (drop (at + w) s) in
        let p = port_at o (drop (at + w + w) s) in
        let q = port_at o (drop (at + w + w + o) s) in
        let sum : at + w + w + o + o ≡ at + block_length k = omega arith in
        then_at _ from_destination w (take w) (takes_address (asks_address k n)).full s b at (omega arith)
        ∙ then_at _ (from_first_port from) w (take w) (takes_address (asks_ports k n)).full s b (at + w) (omega arith)
        ∙ then_at _ (from_second_port from to) o (port_at o) (takes_port (asks_port k n) k).full s b (at + w + w) (omega arith)
        ∙ then_at _ (λ q. (from_area k n from to p q).verdict) o (port_at o) (takes_port (asks_area k n) k).full s b (at + w + w + o) (omega arith)
        ∙ ap (λ (j : ℕ). shift j ((from_area k n from to p q).verdict (drop j s))) sum

-- more while the address block is short: what is missing of the length
pub addresses_few : (k : Kind) (n : ℕ) (s : List ℕ) → AllBytes s → fits (block_length k) n ≡ true → 16 ≤ length s → length s < 16 + block_length k
    → more (16 + n - length s) ≡ shift 16 ((addresses k n).verdict (drop 16 s))
addresses_few k n s b fit head few =
    let a = block_length k in
    let sum : 16 + n - length s ≡ 16 + a - length s + asks_area k n = omega (arith, fits_least a n fit, area-least a n fit, few) in
    ap more sum ∙ short_at (addresses k n).verdict a (asks_area k n) (addresses_short k n) s b 16 head few

-- s has the address block of the kind k, of a bytes, and the length n fits it
pub record Reached (k : Kind) (n a : ℕ) (s : List ℕ) : Type 0 where
  pub bytes : AllBytes s
  pub block : a ≡ block_length k
  pub some : block_length k ≡ 0 → ⊥
  pub whole : 16 + a ≤ length s
  pub fit : fits (block_length k) n ≡ true

-- the TLVs behind it
module _ {k : Kind} {n a : ℕ} {s : List ℕ} (here : Reached k n a s) where
  abbrev said : Verdict Header
  said = shift 16 ((addresses k n).verdict (drop 16 s))

  abbrev behind : List ℕ
  behind = drop (16 + a) s

  abbrev tlvs : Parser (List ℕ) (flat 0)
  tlvs = area (block_length k) n

  abbrev says : List ℕ → Headers
  says t = just (flat 0) (blocked (record_at k 16 s) t)

  at_tlvs : shift (16 + a) (next tlvs.verdict (λ t. (says t).verdict) behind) ≡ said
  at_tlvs =
      let whole = here.whole in
      let block = here.block in
      ap (λ (m : ℕ). shift (16 + m) (next tlvs.verdict (λ t. (says t).verdict) (drop (16 + m) s))) block
      ∙ sym (addresses_at k n s here.bytes 16 (omega arith))

  spelt : (v : Verdict ℕ) → v ≡ judge 9 0 (n - a) behind → spell v behind ≡ tlvs.verdict behind
  spelt v e =
      ap (λ (w : Verdict ℕ). spell w behind) e
      ∙ ap (λ (m : ℕ). spell (judge 9 0 (n - m) behind) behind) here.block
      ∙ sym (area_judged (block_length k) n behind here.fit)

  pub tlvs_more : (j : ℕ) → more j ≡ judge 9 0 (n - a) behind → more j ≡ said
  tlvs_more j e = ap (on tlvs says s (16 + a)) (spelt (more j) e) ∙ at_tlvs

  pub tlvs_refused : (p : ℕ) → refused 9 p ≡ judge 9 0 (n - a) behind → refused 9 (16 + a + p) ≡ said
  tlvs_refused p e = ap (on tlvs says s (16 + a)) (spelt (refused 9 p) e) ∙ at_tlvs

  -- the TLV area is the part of the header behind the address block
  area_said : (m : ℕ) → area_of 2 k (take (16 + a + m) s) ≡ take m behind
  area_said m =
      (block_kind k here.some).0 (take (16 + a + m) s)
      ∙ ap (λ (j : ℕ). drop (16 + j) (take (16 + a + m) s)) (sym here.block)
      ∙ area_at s (16 + a) m here.whole

  pub tlvs_accepted : (v m : ℕ) → accepted v m ≡ judge 9 0 (n - a) behind
      → accepted (blocked (block_record k (drop 16 s)) (area_of 2 k (take (16 + a + m) s))) (16 + a + m) ≡ said
  tlvs_accepted v m e =
      whole_block s k (16 + a + m) (record_at k 16 s) (take m behind) (record_at_lem k 16 s) (area_said m)
      ∙ stage_accepted tlvs says s (16 + a) (take m behind) m _ (spelt (accepted v m) e) refl
      ∙ at_tlvs

  -- they lie in the bytes
  pub tlvs_inside : (v : Verdict ℕ) → v ≡ judge 9 0 (n - a) behind → 16 + a + reach v ≤ length s
  tlvs_inside v e =
      let far = reach-le tlvs behind (spell v behind) (spelt v e) in
      let same-far = reach-spell v behind in
      let left = length-drop (16 + a) s in
      let whole = here.whole in
      omega arith
