use Rattle.std.proofs.Common.{◌≡◌, ◌≤◌}
use Rattle.tlv_step.specs.Left.{tlvs_left}
use Rattle.lookup.specs.Lookup.{lookup_of}
use Rattle.lookup.proofs.Seek.{seek}
use Rattle.lookup.proofs.lookup.Given as goal

abbrev pub invariant-loop-tlv : goal.invariant-loop-tlv
invariant-loop-tlv l =
    record {
      sought : seek l.wanted l.limit l.count (tlvs_left l.tlv-iterator) ≡ lookup_of l.area l.wanted l.limit;
      within : l.count ≤ l.limit;
    }
