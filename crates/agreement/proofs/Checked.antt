-- What the version 2 writer wrote with a checksum, read by a checked reading with any bytes behind it, is the same record with matched, and
-- the same area with the checksum at its end.
use Rattle.std.specs.Prelude.{◌≡◌, List, ◌++◌, ℕ, take, Result}
use Rattle.std.proofs.Common.{sym, ◌∙◌}
use Rattle.exact.specs.Claim.{accepted}
use Rattle.record.specs.declared.Checksum.TheVariants.{Matched}
use Rattle.record.specs.declared.Record.{Record}
use Rattle.record.specs.Records.{with_checksum}
use Rattle.fields.specs.BlockFields.{blocked}
use Rattle.answer.specs.Answers.{WriteAnswer, wrote}
use Rattle.checksum.specs.Checked.{judged}
use Rattle.checksum.specs.State.{checked_verdict}
use Rattle.checksum.proofs.Demand.{checks_only}
use Rattle.answer.specs.declared.Header.{Header}
use Rattle.checked_reader.specs.declared.CheckedStop.{CheckedStop}
use Rattle.checked_reader.specs.CheckedReading.{told_checked}
use Rattle.checked_writer.specs.Written.{checked_area}
use Rattle.checked_writer.specs.Demand.{ReadsBack}

-- answer and output: what `write_checked` answers for the record r and the area, and what it leaves, as it promises them (`ReadsBack`).
-- reading: what `read_checked` answers to the bytes written, as it promises it
pub checked_read_back : (r : Record) (area output : List ℕ) (answer : WriteAnswer) → ReadsBack r area answer output
    → (n : ℕ) → answer ≡ wrote n → (t : List ℕ) (reading : Result Header CheckedStop)
    → told_checked (take n output ++ t) reading ≡ checked_verdict (take n output ++ t)
    → told_checked (take n output ++ t) reading ≡ judged (accepted (blocked (with_checksum Matched r) (checked_area r area)) n)
checked_read_back r area output answer back n is t reading told = told ∙ sym (checks_only (take n output ++ t) _ (back n is t))
