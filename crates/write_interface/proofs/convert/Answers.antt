-- `convert` ensures what is written, and `tell_converted` its numbers.
use Rattle.std.proofs.Common.{ℕ, length}
use Rattle.stored_form.specs.declared.StoredVersion.{StoredVersion}
use Rattle.stored_form.specs.Loading.{LoadAnswer, loads, no_record, load_answer}
use Rattle.stored_form.specs.Converting.{converted, convert_by, convert_answer, told_converted}
use Rattle.answer.proofs.OutputLaws.{Within}
use Rattle.stored_form.proofs.RoundTrip.{kept_within}
use Rattle.write_interface.proofs.WriteLaws.{told_part}
use Rattle.write_interface.proofs.convert.Goals.{After-convert, After-tell_converted}
use Rattle.write_interface.proofs.convert.Goals as goal

within : (l : LoadAnswer) (to : StoredVersion) (size room : ℕ) → Within room (convert_by l to size room)
within (loads r) to size room = kept_within to r.checksum size room
within (no_record k) to size room = tt

pub returns : goal.returns
returns c =
    let told = (goal.at.returns c).After-tell_converted in
    let written = (goal.at.After-tell_converted told).After-convert in
    let x = written.args in
    let s = x.bytes.now in
    told_part (convert_answer x.from x.to s) (converted x.from x.to s) x.out.now x.numbers.now
    (within (load_answer x.from s) x.to (length (converted x.from x.to s))) (told_converted written.convert.result) written.room_beside-room.result
    written.convert.new.out written.room_beside-room.ensures written.convert.ensures.0 written.convert.ensures.1 told.tell_converted.ensures
