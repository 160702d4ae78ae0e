-- The header and its TLV area as parts of the bytes read, and the state of the header that they begin with.
use Rattle.std.specs.Prelude.{Some, Ok}
use mathlib.Core.Path.{◌≡◌, refl, ap, ap₂, ◌∙◌}
use mathlib.Core.Bool.{Bool, true, false}
use mathlib.Core.List.{List, []}
use Prim.Native.Nat.{ℕ, ◌+◌, ◌-◌, ◌≤◌, min}
use native.Mathlib.Omega.{arith}
use lib.Dec.{eqb}
use lib.ListN.{length, take, drop}
use lib.Seq.{take-add, drop_at, length-take-le}
use Rattle.exact.specs.Pick.{pick}
use Rattle.tlv.specs.Test.{well_formed}
use Rattle.tlv.proofs.Test.{well_formed_tested}
use Rattle.tlv.specs.Listed.{tlvs_of}
use Rattle.record.specs.declared.Kind.{Kind}
use Rattle.record.specs.declared.Kind.TheVariants.{Local, Unspecified, Ip4, Ip6, Unix}
use Rattle.record.specs.declared.Checksum.TheVariants.{Absent}
use Rattle.record.specs.Kinds.{block_length}
use Rattle.header.specs.Demand.{Judges}
use Rattle.fields.proofs.Facts.{area_filled}
use Rattle.answer.specs.declared.Header.{Header}
use Rattle.answer.specs.Answers.{block_area, area_of}
use Rattle.answer.specs.Headers.{told_header}
use Rattle.area.specs.Area.{span_start, span_end}
use Rattle.area.proofs.AreaLaws.{span_inside, span_part}
use Rattle.checksum.specs.State.{state_in, state_from, state_on}

-- a part of the bytes, cut at its end and then at its start
cut : (s : List ℕ) (m n : ℕ) → m ≤ n → n ≤ length s → drop m (take n s) ≡ take (n - m) (drop m s)
cut s m n h k =
    let e : n ≡ m + (n - m) = omega arith in
    ap (drop m) (ap (λ (j : ℕ). take j s) e ∙ take-add m (n - m) s)
    ∙ drop_at (take m s) (take (n - m) (drop m s)) m (length-take-le m s (omega arith))

module _ (s : List ℕ) where
  -- what ends with it is the header, or there is no TLV
  state_by : (n : ℕ) → n ≤ length s → (b : Bool) (kind : Kind)
      → state_in (take (pick b (pick (eqb (block_length kind) 0) 0 (min n (length s))) 0) s) (tlvs_of (pick b (block_area kind (take n s)) []))
      ≡ state_in (take n s) (tlvs_of (pick b (block_area kind (take n s)) []))
  state_by n h false kind = refl
  state_by n h true Local = refl
  state_by n h true Unspecified = refl
  state_by n h true (Ip4 t) = let e : min n (length s) ≡ n = omega arith in ap (λ (k : ℕ). state_in (take k s) (tlvs_of (block_area (Ip4 t) (take n s)))) e
  state_by n h true (Ip6 t) = let e : min n (length s) ≡ n = omega arith in ap (λ (k : ℕ). state_in (take k s) (tlvs_of (block_area (Ip6 t) (take n s)))) e
  state_by n h true (Unix t) = let e : min n (length s) ≡ n = omega arith in ap (λ (k : ℕ). state_in (take k s) (tlvs_of (block_area (Unix t) (take n s)))) e

  -- by the span of the area
  pub state_spanned : (h : Header) → Judges (told_header s (Ok h)) s → (start end : ℕ) → start ≡ span_start h.length h.version h.«record».kind (length s)
      → end ≡ span_end h.length h.version h.«record».kind (length s) → state_from (take end s) start ≡ state_on s (told_header s (Ok h))
  state_spanned h j start end from to =
      let kind = h.«record».kind in
      let n = h.length in
      let v = h.version in
      let inside = span_inside n v kind (length s) in
      let area_is : drop start (take end s) ≡ area_of v kind (take n s) =
      cut s start end (omega arith) (omega arith) ∙ ap₂ (λ (m n : ℕ). take (n - m) (drop m s)) from to ∙ span_part n v kind s in
      ap (λ (a : List ℕ). pick (well_formed a) (state_in (take end s) (tlvs_of a)) (Some Absent)) area_is
      ∙ ap (λ (b : Bool). pick b (state_in (take end s) (tlvs_of (area_of v kind (take n s)))) (Some Absent)) ((well_formed_tested (area_of v kind (take n s))).1 (area_filled (take n s) _ j.1))
      ∙ ap (λ (m : ℕ). state_in (take m s) (tlvs_of (area_of v kind (take n s)))) to
      ∙ state_by n j.0 (eqb v 2) kind
