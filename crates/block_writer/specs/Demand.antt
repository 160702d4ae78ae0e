-- Demand 2 of document 01 for version 2: what the writer writes reads back as the record and the TLV area, and it refuses exactly what version 2
-- cannot carry and the outputs that are too short.
use Rattle.std.specs.Prelude.{◌≡◌, List, ◌++◌, ℕ, ◌≤◌, ◌<◌, length, take}
use Rattle.exact.specs.Claim.{accepted}
use Rattle.record.specs.declared.Record.{Record}
use Rattle.record.specs.Records.{Plain}
use Rattle.header.specs.Demand.{Judges}
use Rattle.fields.specs.BlockFields.{blocked}
use Rattle.answer.specs.Answers.{WriteAnswer, wrote, refuses}
use Rattle.block_writer.specs.Areas.{AreaFits}
use Rattle.block_writer.specs.Written.{block_of, written_block, CarriedByBlock}

-- what each answer means: "Writers check 10, 11, 12, 13, 14 in this order"; 10 is never given
pub data Means (r : Record) (area : List ℕ) (room : ℕ) : WriteAnswer → Type 0 where
  unused : (Plain r → ⊥) → Means r area room (refuses 11)
  ill_formed : Plain r → (AreaFits r.kind area → ⊥) → Means r area room (refuses 12)
  too_large : Plain r → AreaFits r.kind area → 65536 ≤ length (block_of r area) → Means r area room (refuses 13)
  too_short : CarriedByBlock r area → room < length (written_block r area) → Means r area room (refuses 14)
  written : CarriedByBlock r area → length (written_block r area) ≤ room → Means r area room (wrote (length (written_block r area)))

-- the same of an output: the n bytes that the writer answers, with any bytes behind them, are accepted with the record and the area
abbrev pub ReadsBack : Record → List ℕ → WriteAnswer → List ℕ → Type 0
ReadsBack r area answer output = (n : ℕ) → answer ≡ wrote n → (t : List ℕ) → Judges (accepted (blocked r area) n) (take n output ++ t)
