-- What the writer with a checksum writes is, by a checked reading, the same record with matched and the same area with seven bytes at its end (document
-- 02, K6); and it refuses exactly what version 2 cannot carry with a checksum and the outputs that are too short.
use Rattle.std.specs.Prelude.{◌≡◌, ℕ, ◌≤◌, ◌<◌, length, take}
use mathlib.Core.List.{List, ◌++◌}
use Rattle.exact.specs.Claim.{accepted}
use Rattle.record.specs.declared.Checksum.TheVariants.{Matched}
use Rattle.record.specs.declared.Record.{Record}
use Rattle.record.specs.Records.{Clean, with_checksum}
use Rattle.fields.specs.BlockFields.{blocked}
use Rattle.answer.specs.Answers.{WriteAnswer, wrote, refuses}
use Rattle.checksum.specs.Checked.{judged, Checks}
use Rattle.block_writer.specs.Written.{block_of}
use Rattle.checked_writer.specs.Written.{checked_area, written_checked, RequestFits, CarriedChecked}

-- what each answer means: "Writers check 10, 11, 12, 13, 14 in this order" (document 01); 10 is never given
pub data Means (r : Record) (area : List ℕ) (room : ℕ) : WriteAnswer → Type 0 where
  unused : (Clean r → ⊥) → Means r area room (refuses 11)
  no_request : Clean r → (RequestFits r.kind area → ⊥) → Means r area room (refuses 12)
  too_large : Clean r → RequestFits r.kind area → 65536 ≤ length (block_of r (checked_area r area)) → Means r area room (refuses 13)
  too_short : CarriedChecked r area → room < length (written_checked r area) → Means r area room (refuses 14)
  written : CarriedChecked r area → length (written_checked r area) ≤ room → Means r area room (wrote (length (written_checked r area)))

-- "a checked reading gives matched": of the n bytes that the writer answers, with any bytes behind them, it gives the same record with matched, and the
-- same area with the checksum at its end
abbrev pub ReadsBack : Record → List ℕ → WriteAnswer → List ℕ → Type 0
ReadsBack r area answer output =
    (n : ℕ) → answer ≡ wrote n → (t : List ℕ) → Checks (take n output ++ t) (judged (accepted (blocked (with_checksum Matched r) (checked_area r area)) n))
