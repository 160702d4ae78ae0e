-- A refusal leaves the output as it was; else the text is put at its front.
use Rattle.std.proofs.Common.{◌≡◌, sym, ap, ◌∙◌, List, ℕ, ◌≤◌, arith, length, take, length-take, replicate}
use Rattle.std.proofs.lemmas.Result.{err_from_is_err_and}
use Rattle.record.specs.declared.Record.{Record}
use Rattle.record.specs.Records.{Sized}
use Rattle.lent.specs.Placed.{placed}
use Rattle.lent.proofs.PlacedLaws.{placed_start}
use Rattle.record.proofs.InMemory.{in_memory}
use Rattle.draft.specs.Drafts.{drafted, appended, text_of}
use Rattle.draft.proofs.DraftLaws.{adds_first, draft_size, draft_says, draft_room}
use Rattle.answer.specs.Answers.{wrote}
use Rattle.answer.proofs.OutputLaws.{refused, written}
use Rattle.line_text.specs.LineText.{written_line}
use Rattle.line_writer.specs.Written.{line_answer}
use Rattle.line_writer.proofs.LineLaws.{written_fits}
use Rattle.line_writer.specs.Demand.{Means, ReadsBack}
use Rattle.line_writer.proofs.Demand.{answer_means, line_accepted, reads_back}
use Rattle.line_writer.proofs.write_line.Goals.{After-push_line}
use Rattle.line_writer.proofs.write_line.Goals as goal

-- ── the text ──
module _ (c : After-push_line) where
  abbrev the_record : Record
  the_record = c.args.from

  abbrev end : ℕ
  end = c.push_line.new.draft.length

  composed : text_of c.push_line.new.draft ≡ appended (drafted (replicate 104 0) 0) (written_line the_record)
  composed = adds_first c.over-draft.ensures.text c.push_line.ensures

  sized : Sized the_record
  sized = in_memory the_record _ c.well_formed.0

  size : end ≡ length (written_line the_record)
  size = let l = written_fits the_record sized in draft_size _ (written_line the_record) composed (omega arith)

  room : end ≤ length c.push_line.new.draft.bytes.now
  room = let l = written_fits the_record sized in draft_room _ (written_line the_record) composed (omega arith)

  says : take end c.push_line.new.draft.bytes.now ≡ written_line the_record
  says = let l = written_fits the_record sized in draft_says _ (written_line the_record) composed (omega arith)

pub check-requires : goal.check-requires
check-requires c = size (goal.at.check-requires c).After-push_line

pub returns-in_err-check : goal.returns-in_err-check
returns-in_err-check c =
    let r = c.args.from in
    let out = c.args.out.now in
    let s = in_memory r _ c.well_formed.0 in
    let p = err_from_is_err_and c.from_residual.result c.from_residual.ensures.1 in
    rw (p.1, p.2)
    (refused (line_answer r (length out)) (written_line r) out (Means r (length out)) (ReadsBack r) (answer_means r (length out) s)
    (λ after. reads_back r out after s) _ c.in_err-check.ensures)

pub slice_bounds-put-end : goal.slice_bounds-put-end
slice_bounds-put-end c = let r = room (goal.at.slice_bounds-put-end c).After-push_line in omega (arith, length-take c.push_line.new.draft.length c.push_line.new.draft.bytes.now)

pub returns : goal.returns
returns c =
    let d = (goal.at.returns c).After-push_line in
    let r = c.args.from in
    let out = c.args.out.now in
    let s = sized d in
    let a = line_accepted r (length out) _ s (sym c.in_ok-check.ensures) in
    let n : c.push_line.new.draft.length ≡ c.in_ok-check.field-0 = size d ∙ a.1 in
    written (line_answer r (length out)) (written_line r) out (Means r (length out)) (ReadsBack r) (answer_means r (length out) s)
    (λ after. reads_back r out after s) _ (ap wrote n ∙ c.in_ok-check.ensures) _
    (placed_start (written_line r) out _ c.push_line.new.draft.length (c.put.ensures ∙ ap (λ (t : List ℕ). placed t 0 out) (says d)) (sym (size d)) (omega (arith, n, a.2)))
