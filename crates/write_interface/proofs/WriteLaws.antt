-- What is left of a request, and of what a writer wrote into the part of the output that it may use.
use mathlib.Core.Path.{◌≡◌, sym, ap, ◌∙◌, subst}
use mathlib.Core.List.{List, ◌++◌, append_assoc}
use Prim.Native.Nat.{ℕ, ◌≤◌}
use native.Mathlib.Omega.{arith}
use lib.Dec.{leb}
use lib.ListN.{length, take, drop, take-append-drop, length-take}
use Rattle.std.specs.Prelude.{Result, Ok}
use lib.Seq.{drop-append-le, length-take-le}
use Rattle.exact.specs.Pick.{pick_by}
use Rattle.record.specs.declared.Record.{Record}
use Rattle.answer.specs.declared.Fault.{Fault}
use Rattle.answer.specs.Answers.{WriteAnswer, wrote, refuses, told_written, output_after}
use Rattle.answer.proofs.OutputLaws.{Within}
use Rattle.request.specs.declared.RequestError.{RequestError}
use Rattle.request.specs.Request.{asked_record}
use Rattle.numbers.specs.Numbers.{numbers_size, room_beside, written_number, numbers_after}
use Rattle.write_interface.specs.WriteInterface.{asked_answer, Writes}

-- ── what a writer leaves of a part of the output ──
-- the part that is left for the output
pub room_inside : (numbers output : ℕ) → room_beside numbers output ≤ output
room_inside numbers output = pick_by (λ (r : ℕ). r ≤ output) (leb numbers_size numbers) (λ t. omega arith) (λ t. omega arith)

-- a writer that wrote into the first bytes of an output has written the output
part_output : (w : WriteAnswer) (text output : List ℕ) (room : ℕ) → room ≤ length output → Within room w
    → output_after w text (take room output) ++ drop room output ≡ output_after w text output
part_output (refuses k) text output room inside within = take-append-drop room output
part_output (wrote n) text output room inside within =
    let size = length-take room output in
    append_assoc text (drop n (take room output)) (drop room output)
    ∙ ap (λ (l : List ℕ). text ++ l) (sym (drop-append-le n (take room output) (drop room output) (omega arith)) ∙ ap (drop n) (take-append-drop room output))

-- ── what a C function leaves of a writer's answer ──
-- told: what the writer answered over the part of the output that it may use, whose bytes it left as `part`
pub told_part : (answer_in : ℕ → WriteAnswer) (text output numbers : List ℕ) → ((m : ℕ) → Within m (answer_in m)) → (told : WriteAnswer) (beside : ℕ) (part : List ℕ)
    {answer : ℕ} {n : List ℕ} → beside ≡ room_beside (length numbers) (length output)
    → told ≡ answer_in (length (take beside output))
    → part ≡ output_after (answer_in (length (take beside output))) text (take beside output)
    → (answer ≡ written_number told) × (n ≡ numbers_after told numbers)
    → Writes (answer_in (room_beside (length numbers) (length output))) text output numbers answer (part ++ drop beside output) n
told_part answer_in text output numbers within told beside part same is left tells =
    let inside = room_inside (length numbers) (length output) in
    let size : length (take beside output) ≡ beside = length-take-le beside output (omega arith) in
    let answered = is ∙ ap answer_in (size ∙ same) in
    record {
      answers = tells.0 ∙ ap written_number answered;
      writes = ap (λ (l : List ℕ). l ++ drop beside output) (left ∙ ap (λ (m : ℕ). output_after (answer_in m) text (take beside output)) size)
          ∙ part_output (answer_in beside) text output beside (omega arith) (within beside)
          ∙ ap (λ (m : ℕ). output_after (answer_in m) text output) same;
      tells = tells.1 ∙ ap (λ (w : WriteAnswer). numbers_after w numbers) answered;
    }

-- ── what is left of a request ──
module _ (answer_for : Record → ℕ → WriteAnswer) (text : Record → List ℕ) (output numbers : List ℕ) where
  abbrev room : ℕ
  room = room_beside (length numbers) (length output)

  abbrev Left : Result Record RequestError → ℕ → List ℕ → List ℕ → Type 0
  Left x answer o n = Writes (asked_answer answer_for x room) (text (asked_record x)) output numbers answer o n

  pub passed_on : {x : Result Record RequestError} {r : Record} (within : (r : Record) (m : ℕ) → Within m (answer_for r m)) (w : Result ℕ Fault)
      (beside : ℕ) (part : List ℕ) {answer : ℕ} {n : List ℕ} → Ok r ≡ x → beside ≡ room
      → told_written w ≡ answer_for r (length (take beside output))
      → part ≡ output_after (answer_for r (length (take beside output))) (text r) (take beside output)
      → (answer ≡ written_number (told_written w)) × (n ≡ numbers_after (told_written w) numbers)
      → Left x answer (part ++ drop beside output) n
  passed_on {r = r} within w beside part {answer} {n} is same told left tells =
      subst (λ (y : Result Record RequestError). Left y answer (part ++ drop beside output) n) is
      (told_part (answer_for r) (text r) output numbers (within r) (told_written w) beside part same told left tells)

-- ── the part that a writer may use ──
module _ (numbers output : List ℕ) (beside : ℕ) (same : beside ≡ room_beside (length numbers) (length output)) where
  pub part_inside : beside ≤ length output
  part_inside = let inside = room_inside (length numbers) (length output) in omega arith

  pub part_size : beside ≡ length (take beside output)
  part_size = sym (length-take-le beside output part_inside)
