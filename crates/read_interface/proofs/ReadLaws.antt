-- A header tells its numbers and its record, and bytes that are none the answer to them.
use mathlib.Core.Path.{◌≡◌, refl, sym, ap, ◌∙◌}
use mathlib.Core.Bool.{Bool, true, false}
use mathlib.Core.List.{List, [], ◌∷◌}
use Prim.Native.Nat.{ℕ, ◌-◌, ◌≤◌, ◌<◌}
use native.Mathlib.Omega.{arith}
use lib.ListN.{length, take, drop, length-take, length-drop}
use borrow.Author.Tests.{le-leb, lt-leb}
use Rattle.exact.specs.Claim as Claim
use Rattle.exact.specs.Pick.{pick}
use Rattle.std.specs.Prelude.{Ok}
use mathlib.Core.Path.{subst}
use Rattle.record.specs.declared.Kind.{Kind}
use Rattle.record.specs.declared.Kind.TheVariants.{Unspecified}
use Rattle.record.specs.Records.{bare}
use Rattle.header.specs.Header as Whole
use Rattle.answer.specs.declared.Header.{Header}
use Rattle.answer.specs.declared.Stop.{Stop}
use Rattle.answer.specs.declared.Stop.TheVariants.{More, Refused}
use Rattle.answer.specs.Answers.{area_of}
use Rattle.answer.specs.Headers.{told_header, told_stop}
use Rattle.area.specs.Area.{span_start, span_end}
use Rattle.area.proofs.AreaLaws.{span_inside, span_part}
use Rattle.numbers.specs.Numbers.{numbers_size, four_of, header_told, stop_told}
use Rattle.numbers.specs.declared.Told.{Told}
use Rattle.lent.specs.Buffers.{over, told_in}
use Rattle.lent.proofs.BufferLaws.{roomy}
use Rattle.connection.specs.Connection.{connection_size, connection_bytes}
use Rattle.read_interface.specs.ReadInterface.{Spoken, spoken, room_for, ReadTold}

-- ── a header tells its numbers ──
area_length : (n v : ℕ) (kind : Kind) (s : List ℕ)
    → length (area_of v kind (take n s)) ≡ span_end n v kind (length s) - span_start n v kind (length s)
area_length n v kind s =
    let inside = span_inside n v kind (length s) in
    let size : length (take (span_end n v kind (length s) - span_start n v kind (length s)) (drop (span_start n v kind (length s)) s)) ≡ span_end n v kind (length s) - span_start n v kind (length s) =
    simp (length-take, length-drop) (omega arith)
    in
    sym (ap length (span_part n v kind s)) ∙ size

told_numbers : (s : List ℕ) (h : Header) → four_of (header_told h.length h.version h.«record».kind (length s)) ≡ (spoken (told_header s (Ok h))).numbers
told_numbers s h = ap (λ (m : ℕ). h.length ∷ h.version ∷ (h.length - m) ∷ m ∷ []) (sym (area_length h.length h.version h.«record».kind s))

-- ── the room ──
pub room : (numbers connection : List ℕ) → numbers_size ≤ length numbers → connection_size ≤ length connection → room_for numbers connection ≡ true
room numbers connection h k = simp (le-leb numbers_size (length numbers) h, le-leb connection_size (length connection) k)

pub few_numbers : (numbers connection : List ℕ) → length numbers < numbers_size → room_for numbers connection ≡ false
few_numbers numbers connection h = simp (lt-leb numbers_size (length numbers) h)

pub short_connection : (numbers connection : List ℕ) → numbers_size ≤ length numbers → length connection < connection_size → room_for numbers connection ≡ false
short_connection numbers connection h k = simp (le-leb numbers_size (length numbers) h, lt-leb connection_size (length connection) k)

-- ── what is left ──
module _ (x : Spoken) (numbers connection : List ℕ) where
  abbrev Left : ℕ → List ℕ → List ℕ → Type 0
  Left = ReadTold x numbers connection

  pub untouched : room_for numbers connection ≡ false → Left 14 numbers connection
  untouched e = (
    ap (λ (b : Bool). pick b x.answer 14) (sym e),
    ap (λ (b : Bool). pick b (over x.numbers numbers) numbers) (sym e),
    ap (λ (b : Bool). pick b (over (connection_bytes x.«record») connection) connection) (sym e),
  )

  pub told_as : (answer : ℕ) (n c : List ℕ) → room_for numbers connection ≡ true → answer ≡ x.answer → n ≡ over x.numbers numbers
      → c ≡ over (connection_bytes x.«record») connection → Left answer n c
  told_as answer n c enough a en ec = (
    a ∙ ap (λ (b : Bool). pick b x.answer 14) (sym enough),
    en ∙ ap (λ (b : Bool). pick b (over x.numbers numbers) numbers) (sym enough),
    ec ∙ ap (λ (b : Bool). pick b (over (connection_bytes x.«record») connection) connection) (sym enough),
  )

module _ (s numbers connection n c : List ℕ) (h : numbers_size ≤ length numbers) (k : connection_size ≤ length connection) (t : Told)
    (en : n ≡ told_in numbers_size (four_of t) numbers) where
  -- what is told, where it is what the answer v says
  told_of : (v : Spoken) → four_of t ≡ v.numbers → c ≡ told_in connection_size (connection_bytes v.«record») connection → ReadTold v numbers connection v.answer n c
  told_of v e ec =
      told_as v numbers connection v.answer n c (room numbers connection h k) refl
      (en ∙ sym (roomy numbers_size numbers _ _ h) ∙ ap (λ (l : List ℕ). over l numbers) e)
      (ec ∙ sym (roomy connection_size connection _ _ k))

  pub written_header : (v : Claim.Verdict Whole.Header) (x : Header) → told_header s (Ok x) ≡ v → t ≡ header_told x.length x.version x.«record».kind (length s)
      → c ≡ told_in connection_size (connection_bytes x.«record») connection → ReadTold (spoken v) numbers connection 0 n c
  written_header v x e et ec =
      subst (λ (w : Claim.Verdict Whole.Header). ReadTold (spoken w) numbers connection 0 n c) e
      (told_of (spoken (told_header s (Ok x))) (ap four_of et ∙ told_numbers s x) ec)

  pub written_stop : (v : Claim.Verdict Whole.Header) (stop : Stop) → told_stop stop ≡ v → t ≡ stop_told stop
      → c ≡ told_in connection_size (connection_bytes (bare Unspecified)) connection → ReadTold (spoken v) numbers connection t.answer n c
  written_stop v stop e et ec =
      rw (ap (λ (u : Told). u.answer) et)
      (subst (λ (w : Claim.Verdict Whole.Header). ReadTold (spoken w) numbers connection (stop_told stop).answer n c) e (by stop et))
    where
      by : (stop : Stop) → t ≡ stop_told stop → ReadTold (spoken (told_stop stop)) numbers connection (stop_told stop).answer n c
      by (More m) et = told_of (spoken (told_stop (More m))) (ap four_of et) ec
      by (Refused r p) et = told_of (spoken (told_stop (Refused r p))) (ap four_of et) ec
