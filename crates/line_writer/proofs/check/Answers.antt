-- The tests are made in the order of `line_answer`.
use Rattle.std.proofs.Common.{◌≤◌, ◌<◌, sym, ap, ◌∙◌, arith, le-leb, length}
use borrow.Author.Tests.{lt-leb}
use Rattle.answer.specs.Answers.{wrote}
use Rattle.line_text.specs.LineText.{written_line}
use Rattle.line_writer.proofs.check.Goals as goal

pub returns-then-not-has_form : goal.returns-then-not-has_form
returns-then-not-has_form c = simp (sym c.has_form.ensures ∙ c.if-not-has_form.true)

pub returns-then-not-plain : goal.returns-then-not-plain
returns-then-not-plain c = simp (sym c.has_form.ensures ∙ c.if-not-has_form.false, sym c.plain.ensures.0 ∙ c.if-not-plain.true)

pub returns-then-room-n : goal.returns-then-room-n
returns-then-room-n c =
    let size = c.requires in
    let short : c.args.room < length (written_line c.args.from) = omega arith in
    simp (sym c.has_form.ensures ∙ c.if-not-has_form.false, sym c.plain.ensures.0 ∙ c.if-not-plain.false, lt-leb _ _ short)

pub returns : goal.returns
returns c =
    let size = c.requires in
    let long : length (written_line c.args.from) ≤ c.args.room = omega arith in
    ap wrote size ∙ simp (sym c.has_form.ensures ∙ c.if-not-has_form.false, sym c.plain.ensures.0 ∙ c.if-not-plain.false, le-leb _ _ long)
