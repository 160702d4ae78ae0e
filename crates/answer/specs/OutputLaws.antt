-- For proofs. What a writer promises of its answer and of the output.
use Rattle.std.specs.Prelude.{◌≡◌, List, ℕ, Result}
use Rattle.answer.specs.declared.Fault.{Fault}
use Rattle.answer.specs.Answers.{WriteAnswer, told_written, output_after}

-- its answer and its output are as defined, and so the answer means what it should and what was written reads back
abbrev pub Promised : (answer : WriteAnswer) (text before : List ℕ) (Means : WriteAnswer → Type 0) (Back : WriteAnswer → List ℕ → Type 0) → Result ℕ Fault → List ℕ → Type 0
Promised answer text before Means Back w after =
    (told_written w ≡ answer) × (after ≡ output_after answer text before) × Means (told_written w) × Back (told_written w) after
