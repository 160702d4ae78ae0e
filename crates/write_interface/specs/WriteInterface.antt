-- What the C functions that write answer and leave (include/dawnhawse.h).
use Rattle.std.specs.Prelude.{◌≡◌, List, ℕ, length, Result, Ok, Err}
use Rattle.record.specs.declared.Record.{Record}
use Rattle.answer.specs.Answers.{WriteAnswer, refuses, output_after}
use Rattle.stored_form.specs.declared.StoredVersion.{StoredVersion}
use Rattle.stored_form.specs.Converting.{converted, convert_answer}
use Rattle.request.specs.declared.RequestError.{RequestError}
use Rattle.request.specs.Request.{error_number, request, asked_record}
use Rattle.numbers.specs.Numbers.{room_beside, written_number, numbers_after}

-- the number of a request that is refused; else the writer's answer
abbrev pub asked_answer : (answer_for : Record → (room : ℕ) → WriteAnswer) → Result Record RequestError → (room : ℕ) → WriteAnswer
asked_answer answer_for (Ok r) room = answer_for r room
asked_answer answer_for (Err e) room = refuses (error_number e)

-- a C function that writes a text has answered as a writer does
pub record Writes (w : WriteAnswer) (text output numbers : List ℕ) (answer : ℕ) (output_left numbers_left : List ℕ) : Type 0 where
  pub answers : answer ≡ written_number w
  pub writes : output_left ≡ output_after w text output
  pub tells : numbers_left ≡ numbers_after w numbers

-- what is left of the output and the numbers where a connection asks for a writer's text
abbrev pub WritesAsked : (answer_for : Record → (room : ℕ) → WriteAnswer) (text : Record → List ℕ) (connection output numbers : List ℕ)
    → ℕ → (output_left numbers_left : List ℕ) → Type 0
WritesAsked answer_for text connection output numbers =
    Writes (asked_answer answer_for (request connection) (room_beside (length numbers) (length output))) (text (asked_record (request connection))) output numbers

-- and where stored bytes are moved to another version
abbrev pub WritesConverted : (from to : StoredVersion) (bytes output numbers : List ℕ) → ℕ → (output_left numbers_left : List ℕ) → Type 0
WritesConverted from to bytes output numbers =
    Writes (convert_answer from to bytes (room_beside (length numbers) (length output))) (converted from to bytes) output numbers
