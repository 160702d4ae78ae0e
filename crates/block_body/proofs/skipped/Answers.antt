-- The length decides: more while the block is short.
use Rattle.std.proofs.Common.{◌+◌, ◌∙◌, []}
use Rattle.record.specs.Records.{bare}
use Rattle.block_body.proofs.Takes.{bytes_of}
use Rattle.block_body.proofs.KindLaws.{bare_kind}
use Rattle.block_body.proofs.AcceptedLaws.{whole_block}
use Rattle.block_body.proofs.SkippedLaws.{skipped_short, skipped_whole}
use Rattle.block_body.proofs.skipped.Goals as goal

pub returns-then-s-end : goal.returns-then-s-end
returns-then-s-end c =
    skipped_short (bare c.args.kind) c.args.size c.args.s.now (bytes_of c.args.s.now c.type_inv.s) c.requires.whole c.if-s-end.true

pub returns : goal.returns
returns c =
    let x = c.args in
    let none = bare_kind x.kind c.requires.none in
    whole_block x.s.now x.kind (16 + x.size) (bare x.kind) [] (none.2 _) (none.0 _)
    ∙ skipped_whole (bare x.kind) x.size x.s.now (bytes_of x.s.now c.type_inv.s) c.if-s-end.false
