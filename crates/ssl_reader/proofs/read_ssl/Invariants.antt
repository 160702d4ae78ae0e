use Rattle.std.proofs.Common.{◌-◌, length}
use Rattle.ssl_reader.proofs.Turn.{Passing}
use Rattle.ssl_reader.proofs.read_ssl.Given as goal

abbrev pub invariant-loop-tlv : goal.invariant-loop-tlv
invariant-loop-tlv l = Passing l.value l.pieces l.at

abbrev pub decreases-loop-tlv : goal.decreases-loop-tlv
decreases-loop-tlv l = length l.value - l.at
