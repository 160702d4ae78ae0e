-- Eight bytes, looked up as two fours.
use Rattle.std.proofs.Common.{rules}
use Rattle.crc.proofs.Turn.{by_fours}
use Rattle.crc.proofs.eight.Goals as goal

pub returns : goal.returns
returns c = by_fours c.args.state c.args.bytes.now (search rules) c.four.ensures c.four-second.ensures
