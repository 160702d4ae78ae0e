-- Four octets, and zeros behind them.
use Rattle.std.proofs.Common.{arith}
use Rattle.line_address.proofs.AddressLaws.{four}
use Rattle.line_address.proofs.padded.Goals as goal

pub returns : goal.returns
returns c = four c.args.octets (omega arith)
