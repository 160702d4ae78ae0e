use Rattle.std.proofs.Common.{◌≡◌, ◌+◌, ◌≤◌, length}
use Rattle.tlv.specs.Listed.{tlvs_of}
use Rattle.tlv_step.specs.Left.{tlvs_left}
use Rattle.tlv_count.specs.Count.{count_of}
use Rattle.tlv_count.proofs.CountLeft.{count_left}
use Rattle.tlv_count.proofs.count_of.Given as goal

abbrev pub invariant-loop-tlv : goal.invariant-loop-tlv
invariant-loop-tlv l =
    record {
      counted : l.count + count_left l.wanted (tlvs_left l.tlv-iterator) ≡ count_of l.wanted (tlvs_of l.area);
      few : count_of l.wanted (tlvs_of l.area) ≤ length l.area;
    }
