-- `request` ensures what is asked, the form's `write` what is written, and `tell_written` its numbers.
use Rattle.std.proofs.Common.{sym, ◌∙◌}
use Rattle.write_interface.proofs.WriteLaws.{passed_on}
use Rattle.write_interface.proofs.write.Goals as goal

pub returns : goal.returns
returns g c =
    let x = c.args in
    passed_on (g.F.Form.answer x.form.now) (g.F.Form.text x.form.now) x.out.now x.numbers.now (g.met.F.Form.within x.form.now) c.write.result
    c.room_beside-room.result c.write.new.out (sym c.in-Ok.is ∙ c.request.ensures) c.room_beside-room.ensures
    c.write.ensures.answered c.write.ensures.left c.tell_written.ensures
