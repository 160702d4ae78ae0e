-- The first 0x03 TLV that the lookup finds says what the checksum does; where it finds none, there is none or TLVs do not fill the area.
use Rattle.std.specs.Prelude.{Some, Ok}
use Rattle.std.proofs.Common.{rules, ◌≡◌, sym, ap, ◌∙◌, subst, List, ◌++◌, ℕ, arith, take, take-append-drop}
use Rattle.exact.specs.Pick.{pick}
use Rattle.tlv.specs.Test.{well_formed}
use Rattle.tlv.specs.Listed.{tlvs_of}
use Rattle.lookup.specs.declared.Answer.{Answer}
use Rattle.lookup.specs.declared.Answer.TheVariants.{Found, Absent, GaveUp}
use Rattle.lookup.specs.declared.Examined.{Examined}
use Rattle.lookup.specs.Lookup.{Finding, found, absent, gave_up, Lookup, told_answer}
use Rattle.record.specs.declared.Checksum.TheVariants.{Absent as NoChecksum}
use Rattle.checksum.specs.State.{state_in, state_from}
use Rattle.checked_reader.specs.First.{LastPart, FirstAt}
use Rattle.checked_reader.proofs.FirstLaws.{found_here, absent_here}
use Rattle.checked_reader.proofs.check_header.Goals.{In-Ok}
use Rattle.checked_reader.proofs.check_header.Goals as goal

absent_not_found : absent ≡ found → ⊥
absent_not_found e = let z : ◌≡◌ {A = ℕ} 0 1 = cc in omega arith

gave_up_not_found : gave_up ≡ found → ⊥
gave_up_not_found e = let z : ◌≡◌ {A = ℕ} 0 1 = cc in omega arith

-- where TLVs fill the area
module _ (c : In-Ok) where
  abbrev header : List ℕ
  header = c.args.header.now

  abbrev area : List ℕ
  area = c.behind-area.result.now

  abbrev examined : Examined
  examined = c.in-Ok.field-0

  last : LastPart header area
  last = (
    take c.args.start header,
    sym (take-append-drop c.args.start header) ∙ ap (λ (l : List ℕ). take c.args.start header ++ l) (sym c.behind-area.ensures.2),
  )

  abbrev outcome : Answer → Finding
  outcome a = (told_answer examined.count a).outcome

  -- the state by the area that was cut is the one that is promised
  none_there : (a : Answer) → examined.answer ≡ a → (outcome a ≡ found → ⊥) → Some NoChecksum ≡ state_from header c.args.start
  none_there a is other =
      absent_here area (Ok examined) c.in-Ok.ensures header (λ e. other (sym (ap outcome is) ∙ e))
      ∙ ap (λ (l : List ℕ). pick (well_formed l) (state_in header (tlvs_of l)) (Some NoChecksum)) c.behind-area.ensures.2

pub check_value-requires : goal.check_value-requires
check_value-requires c =
    let d = (goal.at.check_value-requires c).In-Ok in
    let v = c.in-Found.value in
    let is : (examined d).answer ≡ Found v = search rules in
    subst (λ (l : Lookup). FirstAt (header d) (area d) l.start l.length) (ap (told_answer (examined d).count) is)
    (found_here (area d) (Ok (examined d)) d.in-Ok.ensures (header d) (last d) (ap (outcome d) is))

pub returns-in-Absent : goal.returns-in-Absent
returns-in-Absent c =
    let d = (goal.at.returns-in-Absent c).In-Ok in
    let is : (examined d).answer ≡ Absent = search rules in
    none_there d Absent is absent_not_found

pub returns-in-GaveUp : goal.returns-in-GaveUp
returns-in-GaveUp c =
    let d = (goal.at.returns-in-GaveUp c).In-Ok in
    let is : (examined d).answer ≡ GaveUp = search rules in
    none_there d GaveUp is gave_up_not_found
