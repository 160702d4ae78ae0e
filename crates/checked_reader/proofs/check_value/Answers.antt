-- The three ways of a wrong checksum in turn, and else it matches.
use Rattle.std.specs.Prelude.{Some, None}
use Rattle.std.proofs.Common.{◌≡◌, refl, sym, ap, ◌∙◌, Bool, true, false, arith, drop, ◌+◌}
use Rattle.exact.specs.Pick.{pick}
use Rattle.tlv.specs.Listed.{tlvs_of}
use Rattle.tlv_count.specs.Count.{none_test}
use Rattle.record.specs.declared.Checksum.TheVariants.{Matched}
use Rattle.checksum.specs.State.{state_in}
use Rattle.checked_reader.proofs.FirstLaws.{inside, within, another, odd_size, one_value}
use Rattle.checked_reader.proofs.check_value.Goals.{After-has_none, After-is_right, Start}
use Rattle.checked_reader.proofs.check_value.Goals as goal

pub returns-then-odd : goal.returns-then-odd
returns-then-odd c =
    let x = c.args in
    sym (odd_size x.header.now x.area.now x.start x.size c.requires (λ four. omega (arith, c.if-odd.true)))

pub overflow_add-start : goal.overflow_add-start
overflow_add-start c =
    let x = c.args in
    let h = inside x.header.now x.area.now x.start x.size c.requires in
    omega arith

-- whether another 0x03 TLV follows
module _ (c : After-has_none) where
  abbrev start : Start
  start = (goal.at.After-has_none c).Start

  tested : none_test 0x03 (drop (start.args.start + start.args.size) start.args.area.now) ≡ c.has_none.result
  tested = sym (c.has_none.ensures ∙ ap (none_test 0x03) c.behind.ensures.2)

pub returns-then-not-has_none : goal.returns-then-not-has_none
returns-then-not-has_none c =
    let d = (goal.at.returns-then-not-has_none c).After-has_none in
    let x = (start d).args in
    sym
    (another x.header.now x.area.now x.start x.size (start d).requires (tested d ∙ c.if-not-has_none.true))

pub overflow_sub-header : goal.overflow_sub-header
overflow_sub-header c =
    let d = (goal.at.overflow_sub-header c).After-has_none in
    let x = (start d).args in
    within x.header.now x.area.now x.start x.size (start d).requires

pub overflow_add-header : goal.overflow_add-header
overflow_add-header c =
    let d = (goal.at.overflow_add-header c).After-has_none in
    let x = (start d).args in
    let h = inside x.header.now x.area.now x.start x.size (start d).requires in
    let g = within x.header.now x.area.now x.start x.size (start d).requires in
    omega arith

module _ (c : After-is_right) where
  abbrev d : After-has_none
  d = (goal.at.After-is_right c).After-has_none

  said : (b : Bool) → c.is_right.result ≡ b → pick b (Some Matched) None ≡ state_in (start d).args.header.now (tlvs_of (start d).args.area.now)
  said b e =
      let x = (start d).args in
      ap (λ (y : Bool). pick y (Some Matched) None) (sym e ∙ c.is_right.ensures)
      ∙ sym
      (one_value x.header.now x.area.now x.start x.size (start d).requires (omega (arith, d.if-odd.false))
      (tested d ∙ c.if-not-has_none.false) _ refl)

pub returns-then-is_right : goal.returns-then-is_right
returns-then-is_right c = said (goal.at.returns-then-is_right c).After-is_right true c.if-is_right.true

pub returns-else-is_right : goal.returns-else-is_right
returns-else-is_right c = said (goal.at.returns-else-is_right c).After-is_right false c.if-is_right.false
