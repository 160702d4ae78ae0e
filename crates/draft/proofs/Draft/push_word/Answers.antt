-- One byte more is put.
use Rattle.std.proofs.lemmas.List.{take_more}
use Rattle.draft.proofs.DraftLaws.{adds_none, adds_more}
use Rattle.draft.proofs.Draft.push_word.Goals as goal

pub loop-byte-init : goal.loop-byte-init
loop-byte-init c = adds_none c.args.self.now

pub loop-byte-preserved : goal.loop-byte-preserved
loop-byte-preserved c =
    rw (take_more c.args.word.now c.loop-byte.byte-index 0 c.loop-byte-test.true) (adds_more c.loop-byte.invariant c.push.ensures)
