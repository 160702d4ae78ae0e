-- Where one is counted the lookup finds it.
use Rattle.std.proofs.Common.{◌≡◌, arith, length}
use Rattle.std.proofs.lemmas.Grind.{common_steps}
use Rattle.lookup.specs.Lookup.{absent, gave_up, without, lookup_of}
use Rattle.tlv_count.specs.Count.{counted, count_in}
use Rattle.unique_id.proofs.Counted.{not_absent, not_given_up}
use Rattle.unique_id.proofs.unique_id.Goals as goal

pub returns-in-Absent : goal.returns-in-Absent
returns-in-Absent c =
    let area = c.args.area.now in
    let one : counted 1 ≡ count_in 0x05 area = grind (arith, common_steps) in
    let looked_up : without absent c.in_ok-examined.examined.count ≡ lookup_of area 0x05 (length area) = grind (arith, common_steps) in
    absurd (not_absent area one c.in_ok-examined.examined.count looked_up)

pub returns-in-GaveUp : goal.returns-in-GaveUp
returns-in-GaveUp c =
    let area = c.args.area.now in
    let one : counted 1 ≡ count_in 0x05 area = grind (arith, common_steps) in
    let looked_up : without gave_up c.in_ok-examined.examined.count ≡ lookup_of area 0x05 (length area) = grind (arith, common_steps) in
    absurd (not_given_up area one c.in_ok-examined.examined.count looked_up)
