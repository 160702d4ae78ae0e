-- Lemmas on what specs/Demand.antt defines.
use Rattle.std.specs.Prelude.{◌≡◌, refl, true, List, [], ◌++◌, ℕ, ◌≤◌, leb, length}
use Rattle.std.proofs.Common.{sym, ap, ◌∙◌, subst, inl, arith, length-append, le-leb, leb-true, leb-false}
use Rattle.std.proofs.Math.Seq.{take-append_seam}
use Rattle.exact.specs.Claim.{accepted}
use Rattle.exact.specs.Pick.{pick_by, never}
use Rattle.record.specs.declared.Transport.TheVariants.{Stream, Datagram}
use Rattle.record.specs.declared.Kind.{Kind}
use Rattle.record.specs.declared.Kind.TheVariants.{Local, Unspecified, Ip4, Ip6, Unix}
use Rattle.record.specs.declared.Record.{Record}
use Rattle.record.specs.Records.{Sized}
use Rattle.clean.specs.Unused.{plain_test}
use Rattle.clean.proofs.UnusedLaws.{plain_test_lem}
use Rattle.header.specs.Header.{Header, Whole}
use Rattle.header.specs.Demand.{Judges}
use Rattle.fields.specs.LineFields.{lined}
use Rattle.fields.proofs.Exactness.{one_header}
use Rattle.answer.specs.Answers.{WriteAnswer, wrote, refuses, output_after}
use Rattle.answer.proofs.OutputLaws.{not_wrote, written_front, Within, fits_at_last}
use Rattle.line_text.specs.LineText.{written_line}
use Rattle.line_writer.specs.Written.{HasForm, unspecified, tcp4, tcp6, has_form, CarriedByLine, line_answer}
use Rattle.line_writer.proofs.LineLaws.{line_of}
use Rattle.line_writer.specs.Demand.{Means, ReadsBack, no_form, too_short, unused, written}

form_tested : (k : Kind) → has_form k ≡ true → HasForm k
form_tested Local e = never e
form_tested Unspecified e = unspecified
form_tested (Ip4 Stream) e = tcp4
form_tested (Ip4 Datagram) e = never e
form_tested (Ip6 Stream) e = tcp6
form_tested (Ip6 Datagram) e = never e
form_tested (Unix t) e = never e

form_test : (k : Kind) → HasForm k → has_form k ≡ true
form_test Local x = elim x [ ]
form_test Unspecified unspecified = refl
form_test (Ip4 Stream) tcp4 = refl
form_test (Ip4 Datagram) x = elim x [ ]
form_test (Ip6 Stream) tcp6 = refl
form_test (Ip6 Datagram) x = elim x [ ]
form_test (Unix t) x = elim x [ ]

-- the line is a whole header that says the record, with version 1 and no TLV area
pub line_whole : (r : Record) → CarriedByLine r → Whole (written_line r) (lined r)
unfolding written_line
line_whole r w = inl (line_of r.kind r refl (form_test r.kind w.form) w.sized w.plain, refl, refl)

-- with any bytes behind it, it is accepted with that record, version 1 and its length
pub line_read : (r : Record) → CarriedByLine r → (t : List ℕ) → Judges (accepted (lined r) (length (written_line r))) (written_line r ++ t)
line_read r w t = (
  simp length-append (omega arith),
  subst (λ (f : List ℕ). Whole f (lined r)) (sym (take-append_seam (written_line r) t)) (line_whole r w),
)

pub answer_means : (r : Record) (room : ℕ) → Sized r → Means r room (line_answer r room)
answer_means r room sized =
    let P : WriteAnswer → Type 0 = Means r room in
    pick_by P (has_form r.kind)
    (λ test.
    let form = form_tested r.kind test in
    pick_by P (plain_test r)
    (λ test.
    let carried : CarriedByLine r = record { sized = sized; form = form; plain = (plain_test_lem r sized).0 test } in
    pick_by P (leb (length (written_line r)) room) (λ t. written carried (leb-true _ _ t)) (λ t. too_short carried (leb-false _ _ t)))
    (λ test. unused form (λ plain. never (sym test ∙ (plain_test_lem r sized).1 plain))))
    (λ test. no_form (λ form. never (sym test ∙ form_test r.kind form)))

-- what is written fits the room
pub line_within : (r : Record) (room : ℕ) → Within room (line_answer r room)
line_within r room =
    pick_by (Within room) (has_form r.kind) (λ t. pick_by (Within room) (plain_test r) (λ t. fits_at_last _ room 14) (λ t. tt)) (λ t. tt)

-- it accepts only the records that version 1 can carry, where there is room, and answers the line's length
pub line_accepted : (r : Record) (room n : ℕ) → Sized r → line_answer r room ≡ wrote n → CarriedByLine r × (length (written_line r) ≡ n) × (n ≤ room)
line_accepted r room n sized e = by (line_answer r room) e (answer_means r room sized)
  where
    by : (a : WriteAnswer) → a ≡ wrote n → Means r room a → CarriedByLine r × (length (written_line r) ≡ n) × (n ≤ room)
    by (refuses k) q m = not_wrote k n q
    by (wrote k) q (written w fits) = let size : length (written_line r) ≡ n = cc in (w, size, omega arith)

-- and all of them
pub line_written : (r : Record) (room : ℕ) → CarriedByLine r → length (written_line r) ≤ room → line_answer r room ≡ wrote (length (written_line r))
line_written r room w fits = rw (form_test r.kind w.form, (plain_test_lem r w.sized).1 w.plain, le-leb _ _ fits)

-- the whole demand: whatever the writer accepts, what it wrote is read back as that record, with any bytes behind it, and its length is the answer
pub line_demand : (r : Record) (room n : ℕ) → Sized r → line_answer r room ≡ wrote n → (t : List ℕ) → Judges (accepted (lined r) n) (written_line r ++ t)
line_demand r room n sized e t =
    let a = line_accepted r room n sized e in
    subst (λ (m : ℕ). Judges (accepted (lined r) m) (written_line r ++ t)) a.1 (line_read r a.0 t)

pub reads_back : (r : Record) (before after : List ℕ) → Sized r → after ≡ output_after (line_answer r (length before)) (written_line r) before
    → ReadsBack r (line_answer r (length before)) after
reads_back r before after sized output n is t =
    let size = (line_accepted r (length before) n sized is).1 in
    let front = written_front (written_line r) before after (line_answer r (length before)) n is size output in
    subst (λ (f : List ℕ). Judges (accepted (lined r) n) (f ++ t)) (sym front) (line_demand r (length before) n sized is t)

-- "Log tools compare our lines as strings" (document 02, K3): the same line is the same record
pub same_line : (r other : Record) → CarriedByLine r → CarriedByLine other → written_line r ≡ written_line other → r ≡ other
same_line r other w w' e =
    let whole = subst (λ (f : List ℕ). Whole f (lined other)) (sym e) (line_whole other w') in
    ap (λ (h : Header). h.«record») (one_header (written_line r) (written_line r) [] [] (lined other) (lined r) refl whole (line_whole r w)).1
