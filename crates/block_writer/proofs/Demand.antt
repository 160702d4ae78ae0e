-- Lemmas on what specs/Demand.antt defines.
use Rattle.std.specs.Prelude.{◌≡◌, refl, true, List, ◌++◌, ℕ, ◌≤◌, ◌<◌, length}
use Rattle.std.proofs.Common.{sym, ◌∙◌, subst, inr, arith, length-append, le-leb, lt-ltb}
use Rattle.std.proofs.Math.Seq.{take-append_seam}
use Rattle.exact.specs.Claim.{Verdict, accepted}
use Rattle.exact.specs.Pick.{never}
use Rattle.tlv.specs.Tlv.{Tlv, Area as AreaOf}
use Rattle.tlv.proofs.Laws.{area_one}
use Rattle.record.specs.declared.Record.{Record}
use Rattle.record.specs.Records.{Sized}
use Rattle.clean.specs.Unused.{plain_test}
use Rattle.clean.proofs.UnusedLaws.{plain_test_lem}
use Rattle.header.specs.Header.{Header, Whole}
use Rattle.header.specs.Demand.{Judges}
use Rattle.fields.specs.BlockFields.{blocked}
use Rattle.fields.proofs.Exactness.{judges_only}
use Rattle.fields.proofs.Facts.{header_length}
use Rattle.answer.specs.Answers.{WriteAnswer, wrote, refuses, output_after}
use Rattle.answer.proofs.OutputLaws.{not_wrote, written_front}
use Rattle.block_writer.specs.Areas.{area_test}
use Rattle.block_writer.proofs.AreaLaws.{area_test_lem}
use Rattle.block_writer.specs.Written.{block_of, written_block, CarriedByBlock, block_answer}
use Rattle.block_writer.proofs.OrderLaws.{in_order_lem}
use Rattle.block_writer.proofs.WholeBlock.{block_of_lem}
use Rattle.block_writer.specs.Demand.{Means, ReadsBack, ill_formed, too_large, too_short, unused, written}

module _ (r : Record) (area : List ℕ) (w : CarriedByBlock r area) where
  -- the block is a whole header that says the record, version 2 and the area
  pub block_whole : Whole (written_block r area) (blocked r area)
  block_whole = inr (block_of_lem r.kind r.source r.destination r.source_port r.destination_port r.checksum area w, refl)

  -- with any bytes behind it, it is accepted with that record, version 2, that area and its length
  pub block_read : (t : List ℕ) → Judges (accepted (blocked r area) (length (written_block r area))) (written_block r area ++ t)
  block_read t = (
    simp length-append (omega arith),
    subst (λ (f : List ℕ). Whole f (blocked r area)) (sym (take-append_seam (written_block r area) t)) block_whole,
  )

  -- and demand 3 allows no other answer
  pub block_only : (t : List ℕ) (v : Verdict Header) → Judges v (written_block r area ++ t) → v ≡ accepted (blocked r area) (length (written_block r area))
  block_only t v x =
      judges_only v (written_block r area ++ t) x ∙ sym (judges_only _ (written_block r area ++ t) (block_read t))

  -- it has at most 65,551 bytes
  pub block_longest : length (written_block r area) ≤ 65551
  block_longest = (header_length (written_block r area) (blocked r area) block_whole).1

pub answer_means : (r : Record) (area : List ℕ) (room : ℕ) → Sized r → Means r area room (block_answer r area room)
answer_means r area room sized =
    in_order_lem (Means r area room) (plain_test r) (area_test r.kind area) (length (block_of r area)) (length (written_block r area)) room
    (λ test. unused (λ plain. never (sym test ∙ (plain_test_lem r sized).1 plain)))
    (λ test other. ill_formed ((plain_test_lem r sized).0 test) (λ fits. never (sym other ∙ (area_test_lem r.kind area).1 fits)))
    (λ test fits large. too_large ((plain_test_lem r sized).0 test) ((area_test_lem r.kind area).0 fits) large)
    (λ test fits small short. too_short (carried test fits small) short) (λ test fits small room. written (carried test fits small) room)
  where
    carried : plain_test r ≡ true → area_test r.kind area ≡ true → length (block_of r area) < 65536 → CarriedByBlock r area
    carried test fits small =
        let f = (area_test_lem r.kind area).0 fits in
        record { sized = sized; plain = (plain_test_lem r sized).0 test; tlvs = f.0; beside = f.1; small = small }

-- it writes what version 2 can carry, where there is room
pub block_written : (r : Record) (area : List ℕ) (room : ℕ) → CarriedByBlock r area → length (written_block r area) ≤ room
    → block_answer r area room ≡ wrote (length (written_block r area))
block_written r area room w fits =
    rw (
      (plain_test_lem r w.sized).1 w.plain,
      (area_test_lem r.kind area).1 (w.tlvs, w.beside),
      lt-ltb (length (block_of r area)) 65536 w.small,
      le-leb (length (written_block r area)) room fits,
    )

-- what it accepts is what version 2 can carry, where there is room, and the answer is the length
pub block_accepted : (r : Record) (area : List ℕ) (room n : ℕ) → Sized r → block_answer r area room ≡ wrote n
    → CarriedByBlock r area × (length (written_block r area) ≡ n) × (n ≤ room)
block_accepted r area room n sized e = by (block_answer r area room) e (answer_means r area room sized)
  where
    by : (a : WriteAnswer) → a ≡ wrote n → Means r area room a → CarriedByBlock r area × (length (written_block r area) ≡ n) × (n ≤ room)
    by (refuses k) q m = not_wrote k n q
    by (wrote m) q (written w fits) = let size : length (written_block r area) ≡ n = cc in (w, size, omega arith)

-- the whole demand: whatever the writer accepts, what it wrote is read back as that record and that area, with any bytes behind it, and its length
-- is the answer
pub block_demand : (r : Record) (area : List ℕ) (room n : ℕ) → Sized r → block_answer r area room ≡ wrote n
    → (t : List ℕ) → Judges (accepted (blocked r area) n) (written_block r area ++ t)
block_demand r area room n sized e t =
    let a = block_accepted r area room n sized e in
    subst (λ (m : ℕ). Judges (accepted (blocked r area) m) (written_block r area ++ t)) a.1 (block_read r area a.0 t)

pub reads_back : (r : Record) (area before after : List ℕ) → Sized r
    → after ≡ output_after (block_answer r area (length before)) (written_block r area) before
    → ReadsBack r area (block_answer r area (length before)) after
reads_back r area before after sized output n is t =
    let size = (block_accepted r area (length before) n sized is).1 in
    let front = written_front (written_block r area) before after (block_answer r area (length before)) n is size output in
    subst (λ (f : List ℕ). Judges (accepted (blocked r area) n) (f ++ t)) (sym front) (block_demand r area (length before) n sized is t)

-- so the TLV list that is read is the one that was written
pub block_tlvs : (r : Record) (area : List ℕ) (room n : ℕ) → Sized r → block_answer r area room ≡ wrote n
    → (t : List ℕ) (h : Header) (m : ℕ) → Judges (accepted h m) (written_block r area ++ t)
    → (tlvs again : List Tlv) → AreaOf area tlvs → AreaOf h.area again → again ≡ tlvs
block_tlvs r area room n sized e t h m x tlvs again here there =
    let only = block_only r area (block_accepted r area room n sized e).0 t (accepted h m) x in
    let same : h ≡ blocked r area = cc in
    area_one area again tlvs (subst (λ (g : Header). AreaOf g.area again) same there) here
