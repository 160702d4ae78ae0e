-- Each part is put behind the one before it.
use Rattle.draft.proofs.DraftLaws.{adds_more}
use Rattle.line_text.proofs.push_tcp_line.Goals as goal

pub returns : goal.returns
returns c =
    let source = adds_more (rw c.opening.ensures at c.push_word.ensures) c.push_address.ensures in
    let destination = adds_more (adds_more source c.push.ensures) c.push_address-2.ensures in
    let source_port = adds_more (adds_more destination c.push-2.ensures) (rw c.from.ensures at c.push_number.ensures) in
    let destination_port = adds_more (adds_more source_port c.push-3.ensures) (rw c.from-2.ensures at c.push_number-2.ensures) in
    adds_more destination_port c.push_word-2.ensures
