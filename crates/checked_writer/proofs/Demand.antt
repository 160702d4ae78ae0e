-- Lemmas on what specs/Demand.antt defines.
use Rattle.std.specs.Prelude.{◌≡◌, Bool, true, false, ℕ, ◌≤◌, ◌<◌, length, replicate}
use Rattle.std.proofs.Math.Path.{refl, sym, ap, ap₂}
use Rattle.std.proofs.Common.{◌∙◌, subst, arith, length-append, le-leb, lt-ltb}
use mathlib.Core.List.{List, [], ◌∷◌, ◌++◌, append_assoc, append-nil}
use Rattle.std.proofs.Math.Seq.{take-append_seam}
use Rattle.exact.specs.Claim.{accepted}
use Rattle.exact.specs.Pick.{never}
use Rattle.tlv.specs.Tlv.{Tlv, tlv_bytes, written as written_tlvs, Area}
use Rattle.tlv.proofs.Laws.{one_area, written-append, area_append}
use Rattle.tlv.specs.Listed.{tlvs_of}
use Rattle.tlv.proofs.Listed.{tlvs_of_lem}
use Rattle.crc.specs.Crc.{checksum, stored}
use Rattle.record.specs.declared.Checksum.TheVariants.{Absent, Matched}
use Rattle.record.specs.declared.Record.{Record}
use Rattle.record.specs.Records.{Sized, with_checksum}
use Rattle.record.proofs.RecordLaws.{sized_with, plain_without}
use Rattle.clean.specs.Unused.{clean_test}
use Rattle.clean.proofs.UnusedLaws.{clean_test_lem}
use Rattle.address_block.specs.AddressBlock.{address_block}
use Rattle.header.specs.Demand.{Judges}
use Rattle.head_writer.specs.Head.{head_of}
use Rattle.fields.specs.BlockFields.{blocked}
use Rattle.answer.specs.Answers.{WriteAnswer, wrote, refuses, output_after}
use Rattle.answer.proofs.OutputLaws.{not_wrote, written_front, Within}
use Rattle.checksum.specs.Checksum.{values_of, zeroed, checksum_of, Right}
use Rattle.checksum.proofs.ChecksumLaws.{values_append, zeroed_one, checksum_parts}
use Rattle.checksum.specs.Checked.{judged, Checks, matched}
use Rattle.block_writer.specs.Written.{block_of, written_block, CarriedByBlock}
use Rattle.block_writer.proofs.OrderLaws.{in_order_lem, in_order_within, block_within}
use Rattle.block_writer.proofs.Demand.{block_read}
use Rattle.checked_writer.specs.Written.{with_tlv, checksum_for, checked_area, written_checked, request_test, CarriedChecked, checked_answer, header_answer}
use Rattle.checked_writer.proofs.RequestLaws.{request_test_lem}
use Rattle.checked_writer.specs.Demand.{Means, ReadsBack, no_request, too_large, too_short, unused, written}

module _ (r : Record) (area : List ℕ) (w : CarriedChecked r area) where
  abbrev tlvs : List Tlv
  tlvs = w.fits.tlvs.0

  abbrev sum : Tlv
  sum = record { type = 0x03; value = checksum_for r area }

  -- the area that is written, by its TLVs
  filled : Area (checked_area r area) (tlvs ++ sum ∷ [])
  filled =
      area_append area (tlv_bytes 0x03 (checksum_for r area)) tlvs (sum ∷ []) w.fits.tlvs.1
      (one_area sum (omega arith) (omega arith, (omega arith, (omega arith, (omega arith, tt)))) (omega arith))

  listed : tlvs_of (checked_area r area) ≡ tlvs ++ sum ∷ []
  listed = tlvs_of_lem (checked_area r area) (tlvs ++ sum ∷ []) filled

  none_before : values_of 0x03 tlvs ≡ []
  none_before = ap (values_of 0x03) (sym (tlvs_of_lem area tlvs w.fits.tlvs.1)) ∙ w.fits.none

  -- ── the checksum ──
  abbrev body : List ℕ
  body = head_of r.kind (length (block_of r (checked_area r area))) ++ address_block r

  -- both headers say the same length
  same_length : length (block_of r (checked_area r area)) ≡ length (block_of r (with_tlv area (replicate 4 0)))
  same_length =
      let a = length-append (address_block r) (checked_area r area) in
      let b = length-append (address_block r) (with_tlv area (replicate 4 0)) in
      let c = length-append area (tlv_bytes 0x03 (checksum_for r area)) in
      let d = length-append area (tlv_bytes 0x03 (replicate 4 0)) in
      omega arith

  parts : written_checked r area ≡ body ++ written_tlvs (tlvs ++ sum ∷ [])
  unfolding written_block
  parts =
      sym (append_assoc (head_of r.kind (length (block_of r (checked_area r area)))) (address_block r) (checked_area r area))
      ∙ ap (λ (l : List ℕ). body ++ l) filled.0

  zeros : body ++ written_tlvs (zeroed (tlvs ++ sum ∷ [])) ≡ written_block r (with_tlv area (replicate 4 0))
  unfolding written_block
  zeros =
      ap (λ (l : List Tlv). body ++ written_tlvs l) (zeroed_one tlvs [] sum none_before refl refl)
      ∙ ap (λ (l : List ℕ). body ++ l)
      (written-append tlvs _
      ∙ ap₂ (λ (x y : List ℕ). x ++ y) (sym w.fits.tlvs.1.0) (append-nil (tlv_bytes 0x03 (replicate 4 0))))
      ∙ append_assoc (head_of r.kind (length (block_of r (checked_area r area)))) (address_block r) (with_tlv area (replicate 4 0))
      ∙ ap (λ (n : ℕ). head_of r.kind n ++ block_of r (with_tlv area (replicate 4 0))) same_length

  right : Right (written_checked r area) (tlvs_of (checked_area r area))
  right =
      ap (values_of 0x03) listed
      ∙ values_append 0x03 tlvs (sum ∷ [])
      ∙ ap (λ (l : List (List ℕ)). l ++ checksum_for r area ∷ []) none_before
      ∙ ap (λ (v : List ℕ). v ∷ [])
      (sym
      (ap₂ checksum_of parts listed ∙ checksum_parts body (tlvs ++ sum ∷ []) ∙ ap (λ (l : List ℕ). stored (checksum l)) zeros))

  -- ── what a reader makes of it ──
  abbrev plainly : Record
  plainly = with_checksum Absent r

  carried : CarriedByBlock plainly (checked_area r area)
  carried =
      record {
        sized = sized_with Absent r w.sized;
        plain = plain_without r w.clean;
        tlvs = (tlvs ++ sum ∷ [], filled);
        beside = λ not. absurd (not w.fits.has);
        small = w.small;
      }

  same_text : written_block plainly (checked_area r area) ≡ written_checked r area
  unfolding written_block
  same_text = refl

  -- the plain reader gives the record with absent, the area and its length, with any bytes behind
  pub plain_read : (t : List ℕ) → Judges (accepted (blocked plainly (checked_area r area)) (length (written_checked r area))) (written_checked r area ++ t)
  plain_read t =
      subst (λ (f : List ℕ). Judges (accepted (blocked plainly (checked_area r area)) (length f)) (f ++ t)) same_text
      (block_read plainly (checked_area r area) carried t)

  -- a checked reading gives it with matched
  pub checked_read : (t : List ℕ)
      → Checks (written_checked r area ++ t) (judged (accepted (blocked (with_checksum Matched r) (checked_area r area)) (length (written_checked r area))))
  checked_read t =
      matched (blocked plainly (checked_area r area)) (length (written_checked r area)) (plain_read t) w.fits.has
      (subst (λ (f : List ℕ). Right f (tlvs_of (checked_area r area))) (sym (take-append_seam (written_checked r area) t)) right)

pub answer_means : (r : Record) (area : List ℕ) (room : ℕ) → Sized r → Means r area room (checked_answer r area room)
answer_means r area room sized =
    in_order_lem (Means r area room) (clean_test r) (request_test r.kind area) (length (block_of r (checked_area r area))) (length (written_checked r area)) room
    (λ test. unused (λ clean. never (sym test ∙ (clean_test_lem r sized).1 clean)))
    (λ test other. no_request ((clean_test_lem r sized).0 test) (λ fits. never (sym other ∙ (request_test_lem r.kind area).1 fits)))
    (λ test fits large. too_large ((clean_test_lem r sized).0 test) ((request_test_lem r.kind area).0 fits) large)
    (λ test fits small short. too_short (carries test fits small) short) (λ test fits small room. written (carries test fits small) room)
  where
    carries : clean_test r ≡ true → request_test r.kind area ≡ true → length (block_of r (checked_area r area)) < 65536 → CarriedChecked r area
    carries test fits small =
        record { sized = sized; clean = (clean_test_lem r sized).0 test; fits = (request_test_lem r.kind area).0 fits; small = small }

-- it writes what version 2 can carry with a checksum, where there is room
pub checked_written : (r : Record) (area : List ℕ) (room : ℕ) → CarriedChecked r area → length (written_checked r area) ≤ room
    → checked_answer r area room ≡ wrote (length (written_checked r area))
checked_written r area room w fits =
    rw (
      (clean_test_lem r w.sized).1 w.clean,
      (request_test_lem r.kind area).1 w.fits,
      lt-ltb (length (block_of r (checked_area r area))) 65536 w.small,
      le-leb (length (written_checked r area)) room fits,
    )

-- what it accepts is that, and the answer is the length
pub checked_accepted : (r : Record) (area : List ℕ) (room n : ℕ) → Sized r → checked_answer r area room ≡ wrote n
    → CarriedChecked r area × (length (written_checked r area) ≡ n) × (n ≤ room)
checked_accepted r area room n sized e = by (checked_answer r area room) e (answer_means r area room sized)
  where
    by : (a : WriteAnswer) → a ≡ wrote n → Means r area room a → CarriedChecked r area × (length (written_checked r area) ≡ n) × (n ≤ room)
    by (refuses k) q m = not_wrote k n q
    by (wrote m) q (written w fits) = let size : length (written_checked r area) ≡ n = cc in (w, size, omega arith)

pub reads_back : (r : Record) (area before after : List ℕ) → Sized r
    → after ≡ output_after (checked_answer r area (length before)) (written_checked r area) before
    → ReadsBack r area (checked_answer r area (length before)) after
reads_back r area before after sized output n is t =
    let a = checked_accepted r area (length before) n sized is in
    let front = written_front (written_checked r area) before after (checked_answer r area (length before)) n is a.1 output in
    subst (λ (f : List ℕ). Checks (f ++ t) (judged (accepted (blocked (with_checksum Matched r) (checked_area r area)) n))) (sym front)
    (subst (λ (m : ℕ). Checks (written_checked r area ++ t) (judged (accepted (blocked (with_checksum Matched r) (checked_area r area)) m))) a.1
    (checked_read r area a.0 t))

-- what is written fits the room
pub checked_within : (r : Record) (area : List ℕ) (room : ℕ) → Within room (checked_answer r area room)
checked_within r area = in_order_within (clean_test r) (request_test r.kind area) (length (block_of r (checked_area r area))) (length (written_checked r area))

pub header_within : (request : Bool) (r : Record) (area : List ℕ) (room : ℕ) → Within room (header_answer request r area room)
header_within true = checked_within
header_within false = block_within
