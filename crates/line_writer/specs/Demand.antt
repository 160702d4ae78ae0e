-- Demand 2 of document 01 for version 1: what the writer writes reads back as the record, and it refuses exactly the records that version 1 cannot carry
-- and the outputs that are too short.
use Rattle.std.specs.Prelude.{◌≡◌, List, ◌++◌, ℕ, ◌≤◌, ◌<◌, length, take}
use Rattle.exact.specs.Claim.{accepted}
use Rattle.record.specs.declared.Record.{Record}
use Rattle.record.specs.Records.{Plain}
use Rattle.header.specs.Demand.{Judges}
use Rattle.fields.specs.LineFields.{lined}
use Rattle.answer.specs.Answers.{WriteAnswer, wrote, refuses}
use Rattle.line_text.specs.LineText.{written_line}
use Rattle.line_writer.specs.Written.{HasForm, CarriedByLine}

-- what each answer means: "Writers check 10, 11, 12, 13, 14 in this order"
pub data Means (r : Record) (room : ℕ) : WriteAnswer → Type 0 where
  no_form : (HasForm r.kind → ⊥) → Means r room (refuses 10)
  unused : HasForm r.kind → (Plain r → ⊥) → Means r room (refuses 11)
  too_short : CarriedByLine r → room < length (written_line r) → Means r room (refuses 14)
  written : CarriedByLine r → length (written_line r) ≤ room → Means r room (wrote (length (written_line r)))

-- the same of an output: the n bytes that the writer answers, with any bytes behind them, are accepted with the record
abbrev pub ReadsBack : Record → WriteAnswer → List ℕ → Type 0
ReadsBack r answer output = (n : ℕ) → answer ≡ wrote n → (t : List ℕ) → Judges (accepted (lined r) n) (take n output ++ t)
