-- The TLV list of what is written: what the version 2 writer wrote, read, and its TLV area walked from place 0, shows the TLVs that were
-- written, each once, then the end.
use Rattle.std.specs.Prelude.{◌≡◌, refl, List, ◌++◌, ℕ, take, Result, Ok, Err}
use Rattle.std.proofs.Common.{sym, ap, ◌∙◌, subst, arith}
use Rattle.exact.specs.Claim.{accepted}
use Rattle.tlv.specs.Tlv.{Tlv, Area}
use Rattle.record.specs.declared.Record.{Record}
use Rattle.header.specs.Header as Whole
use Rattle.fields.specs.BlockFields.{blocked}
use Rattle.fields.proofs.Exactness.{judges_only}
use Rattle.answer.specs.declared.Header.{Header}
use Rattle.answer.specs.declared.Stop.{Stop}
use Rattle.answer.specs.declared.Stop.TheVariants.{More, Refused}
use Rattle.answer.specs.Answers.{WriteAnswer, wrote, area_of}
use Rattle.answer.specs.Headers.{told_header}
use Rattle.reader.specs.Read.{Reads}
use Rattle.area.specs.Area.{header_area}
use Rattle.block_writer.specs.Demand.{ReadsBack}
use Rattle.tlv_step.specs.Walk.{Shows}
use Rattle.tlv_step.proofs.Laws.{walk_shows}

-- what is read as this whole header is a header, with its area
read_as : (s : List ℕ) (r : Result Header Stop) (h : Whole.Header) (n : ℕ) → told_header s r ≡ accepted h n
    → (x : Header) × (r ≡ Ok x) × (header_area x s ≡ h.area)
read_as s (Ok x) h n e =
    let said : Whole.Header = record { «record» = x.«record»; version = x.version; area = area_of x.version x.«record».kind (take x.length s) } in
    let same : said ≡ h = cc in
    (x, refl, ap (λ (y : Whole.Header). y.area) same)
read_as s (Err (More m)) h n e = let z : ◌≡◌ {A = ℕ} 0 1 = cc in absurd (omega arith)
read_as s (Err (Refused k p)) h n e = let z : ◌≡◌ {A = ℕ} 0 1 = cc in absurd (omega arith)

-- answer and output: what `write_block` answers for the record r and the area, and what it leaves, as it promises them (`ReadsBack`).
-- reading: what `read` answers to the bytes written, with any bytes behind them (`Reads`). It is a header, and the steps over its TLV area, which
-- `tlv_area` gives, show the TLVs of the area that was written.
pub tlvs_read_back : (r : Record) (area output : List ℕ) (answer : WriteAnswer) → ReadsBack r area answer output
    → (n : ℕ) → answer ≡ wrote n → (t : List ℕ) (reading : Result Header Stop) → Reads (take n output ++ t) reading
    → (tlvs : List Tlv) → Area area tlvs
    → (header : Header) × (reading ≡ Ok header) × Shows (header_area header (take n output ++ t)) 0 tlvs
tlvs_read_back r area output answer back n is t reading reads tlvs a =
    let s = take n output ++ t in
    let said : told_header s reading ≡ accepted (blocked r area) n = reads.answers ∙ sym (judges_only _ s (back n is t)) in
    let found = read_as s reading (blocked r area) n said in
    (found.0, found.1, subst (λ (b : List ℕ). Shows b 0 tlvs) (sym found.2) ((walk_shows area tlvs).0 a))
