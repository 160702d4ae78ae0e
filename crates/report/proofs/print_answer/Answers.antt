-- The line lies within the text.
use Rattle.std.proofs.Common.{sym, subst, ℕ, take, length-take-le}
use Rattle.std.specs.Prelude.{OnErr}
use Rattle.std.specs.Io.KnownBytes.{Appends}
use Rattle.draft.proofs.DraftLaws.{adds_first, draft_says, draft_room}
use Rattle.report.proofs.print_answer.Goals as goal

pub slice_bounds-write_whole-end : goal.slice_bounds-write_whole-end
slice_bounds-write_whole-end g c =
    let room = draft_room _ _ (adds_first c.over-draft.ensures.text c.push_answer.ensures.line) c.push_answer.ensures.fits in
    sym (length-take-le _ _ room)

pub returns-clause-written : goal.returns-clause-written
returns-clause-written g c =
    let says = draft_says _ _ (adds_first c.over-draft.ensures.text c.push_answer.ensures.line) c.push_answer.ensures.fits in
    rw says at c.write_whole.ensures.written

pub returns-clause-failed : goal.returns-clause-failed
returns-clause-failed g c =
    let says = draft_says _ _ (adds_first c.over-draft.ensures.text c.push_answer.ensures.line) c.push_answer.ensures.fits in
    let put = Appends (g.W.Write.contents c.args.writer.now) (g.W.Write.contents c.write_whole.new.writer) in
    subst (λ l. OnErr c.write_whole.result ((n : ℕ) × put (take n l))) says c.write_whole.ensures.failed
