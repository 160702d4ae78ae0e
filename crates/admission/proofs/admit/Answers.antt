-- `is_good_table` tests the table, `read` ensures the verdict, and `admit_header` what the profile makes of it.
use Rattle.std.specs.Prelude.{Result, Ok, Err}
use Rattle.std.proofs.Common.{◌≡◌, refl, sym, ap, ap₂, ◌∙◌, subst, Bool, true, false, List, [], ℕ, ◌+◌, eqb, length, take, drop, length-take-le}
use Rattle.std.proofs.lemmas.Result.{err_from_is_err_and}
use Rattle.exact.specs.Claim as Claim
use Rattle.exact.specs.Pick.{pick}
use Rattle.record.specs.declared.Transport.TheVariants.{Stream, Datagram}
use Rattle.record.specs.declared.Kind.{Kind}
use Rattle.record.specs.declared.Kind.TheVariants.{Local, Unspecified, Ip4, Ip6, Unix}
use Rattle.record.specs.Kinds.{block_length}
use Rattle.header.specs.Header as Whole
use Rattle.fields.proofs.HeaderVerdict.{verdict}
use Rattle.answer.specs.declared.Header.{Header}
use Rattle.answer.specs.declared.Stop.{Stop}
use Rattle.answer.specs.declared.Stop.TheVariants.{More, Refused}
use Rattle.answer.specs.Answers.{block_area, area_of}
use Rattle.reader.specs.Read.{Reads}
use Rattle.prefix_table.specs.Table.{rows_of}
use Rattle.prefix_table.specs.TableTests.{good_table}
use Rattle.profile.specs.Profile.{Admission, denied, origin_of, by_origin, by_version, source_level}
use Rattle.admission.specs.Admits.{Admits, admission_by, admission}
use Rattle.admission.specs.Answers.{told_stop}
use Rattle.admission.proofs.Demand.{admits}
use Rattle.admission.proofs.admit.Goals as goal

promise : (table s : List ℕ) (a : Admission) → a ≡ admission table s → (a ≡ admission table s) × Admits table s a
promise table s a e = (e, subst (Admits table s) (sym e) (admits table s))

-- the area from 16 + A on is the header's, where it is looked at
area_seen : (version : ℕ) (kind : Kind) (f : List ℕ) (n level : ℕ)
    → by_version version (origin_of kind) (drop (16 + block_length kind) f) n level ≡ by_version version (origin_of kind) (area_of version kind f) n level
area_seen version kind f n level = by (eqb version 2)
  where
    of_kind : (k : Kind) → by_origin (origin_of k) (drop (16 + block_length k) f) n level ≡ by_origin (origin_of k) (block_area k f) n level
    of_kind Local = refl
    of_kind Unspecified = refl
    of_kind (Ip4 Stream) = refl
    of_kind (Ip4 Datagram) = refl
    of_kind (Ip6 Stream) = refl
    of_kind (Ip6 Datagram) = refl
    of_kind (Unix t) = refl

    by : (b : Bool) → pick b (by_origin (origin_of kind) (drop (16 + block_length kind) f) n level) (denied 30) ≡ pick b (by_origin (origin_of kind) (pick b (block_area kind f) []) n level) (denied 30)
    by true = of_kind kind
    by false = refl

module _ (table bytes : List ℕ) (good : good_table table ≡ true) where
  -- the answer by the verdict
  by_verdict : (v : Claim.Verdict Whole.Header) → v ≡ verdict bytes → admission_by (rows_of table) v ≡ admission table bytes
  by_verdict v e = ap (admission_by (rows_of table)) e ∙ ap (λ (b : Bool). pick b (admission_by (rows_of table) (verdict bytes)) (denied 34)) (sym good)

  -- where there is no whole header
  by_stop : (e : Stop) → Reads bytes (Err e) → told_stop e ≡ admission table bytes
  by_stop (More n) r = by_verdict _ r.answers
  by_stop (Refused k p) r = by_verdict _ r.answers

  -- and by the parts of one
  by_parts : (h : Header) → Reads bytes (Ok h) → (header : List ℕ) (at : ℕ) → header ≡ take h.length bytes → at ≡ 16 + block_length h.«record».kind
      → by_version h.version (origin_of h.«record».kind) (drop at header) (length header) (source_level (rows_of table) (origin_of h.«record».kind) h.«record».source)
      ≡ admission table bytes
  by_parts h r header at is place =
      let n = h.length in
      let kind = h.«record».kind in
      let level = source_level (rows_of table) (origin_of kind) h.«record».source in
      let size = length-take-le n bytes r.judged.0 in
      ap₂ (λ (f : List ℕ) (i : ℕ). by_version h.version (origin_of kind) (drop i f) (length f) level) is place
      ∙ ap (λ (m : ℕ). by_version h.version (origin_of kind) (drop (16 + block_length kind) (take n bytes)) m level) size
      ∙ area_seen h.version kind (take n bytes) n level
      ∙ by_verdict _ r.answers

pub returns-then-bad : goal.returns-then-bad
returns-then-bad c =
    let bad : good_table c.args.table.now ≡ false = sym c.is_good_table-good.ensures ∙ c.if-bad.true in
    promise _ _ (denied 34) (rw bad)

pub returns-in_err-read : goal.returns-in_err-read
returns-in_err-read c =
    let p = err_from_is_err_and c.from_residual.result c.from_residual.ensures.1 in
    let good : good_table c.args.table.now ≡ true = sym c.is_good_table-good.ensures ∙ c.if-bad.false in
    rw (p.1, p.2) (promise _ _ _ (by_stop c.args.table.now c.args.bytes.now good _ c.in_err-read.ensures))

pub returns-in_err-admitted : goal.returns-in_err-admitted
returns-in_err-admitted c =
    let p = err_from_is_err_and c.from_residual-in_err-admitted.result c.from_residual-in_err-admitted.ensures.1 in
    let good : good_table c.args.table.now ≡ true = sym c.is_good_table-good.ensures ∙ c.if-bad.false in
    let parts =
    by_parts c.args.table.now c.args.bytes.now good c.in_ok-read.read c.in_ok-read.ensures _ _ c.front-header.ensures.2
    (ap (λ (m : ℕ). 16 + m) c.block_length-at.ensures)
    in
    rw (p.1, p.2) (promise _ _ _ (c.in_err-admitted.ensures ∙ parts))

pub returns : goal.returns
returns c =
    let good : good_table c.args.table.now ≡ true = sym c.is_good_table-good.ensures ∙ c.if-bad.false in
    let parts =
    by_parts c.args.table.now c.args.bytes.now good c.in_ok-read.read c.in_ok-read.ensures _ _ c.front-header.ensures.2
    (ap (λ (m : ℕ). 16 + m) c.block_length-at.ensures)
    in
    promise _ _ _ (c.in_ok-admitted.ensures ∙ parts)
