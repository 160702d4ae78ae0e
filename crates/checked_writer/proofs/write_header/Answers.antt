-- Each writer by the request.
use Rattle.std.proofs.Common.{◌≡◌, sym, ap, ◌∙◌, Bool, List, ℕ, length}
use Rattle.std.specs.Prelude.{Result}
use Rattle.record.specs.declared.Record.{Record}
use Rattle.answer.specs.declared.Fault.{Fault}
use Rattle.answer.specs.Answers.{told_written, output_after}
use Rattle.checked_writer.specs.Written.{header_text, header_answer}
use Rattle.checked_writer.proofs.write_header.Goals.{After-write_block, After-write_checked}
use Rattle.checked_writer.proofs.write_header.Goals as goal

-- what the writer of one request leaves is what is promised for it
by_request : (request b : Bool) → request ≡ b → (r : Record) (area before after : List ℕ) (w : Result ℕ Fault)
    → told_written w ≡ header_answer b r area (length before) → after ≡ output_after (header_answer b r area (length before)) (header_text b r area) before
    → (told_written w ≡ header_answer request r area (length before))
    × (after ≡ output_after (header_answer request r area (length before)) (header_text request r area) before)
by_request request b e r area before after w told output = (
  told ∙ ap (λ (x : Bool). header_answer x r area (length before)) (sym e),
  output ∙ ap (λ (x : Bool). output_after (header_answer x r area (length before)) (header_text x r area) before) (sym e),
)

pub returns-then-request : goal.returns-then-request
returns-then-request c =
    let w = (goal.at.returns-then-request c).After-write_checked in
    let x = w.args in
    by_request x.request _ w.if-request.true x.from x.area.now x.out.now _ w.write_checked.result w.write_checked.ensures.0
    w.write_checked.ensures.1

pub returns-else-request : goal.returns-else-request
returns-else-request c =
    let w = (goal.at.returns-else-request c).After-write_block in
    let x = w.args in
    by_request x.request _ w.if-request.false x.from x.area.now x.out.now _ w.write_block.result w.write_block.ensures.0
    w.write_block.ensures.1
