-- The text goes by the length of the longest run, as `groups_text` does.
use Rattle.std.proofs.Common.{◌≡◌, sym, ap, ◌∙◌, ◌+◌, ◌-◌, ◌<◌, arith, take, drop, length-drop, take_all}
use Rattle.draft.proofs.DraftLaws.{adds_more}
use Rattle.zero_run.specs.declared.Run.{Run}
use Rattle.zero_run.specs.ZeroRun.{longest_run}
use Rattle.zero_run.proofs.RunLaws.{some_is, none_is}
use Rattle.address_text.proofs.AddressLaws.{text_shortened, text_full, replaced_two, replaced_few}
use Rattle.address_text.proofs.push_groups.Goals.{in_default-via-in-Some+else-is_replaced, in_default-via-in_default}
use Rattle.address_text.proofs.push_groups.Goals as goal

pub returns-in-Some : goal.returns-in-Some
returns-in-Some c =
    let groups = c.args.groups in
    let run = c.in-Some.run' in
    let is = some_is (longest_run groups) run (sym c.longest_run.ensures.longest ∙ c.in-Some.is) in
    let count = ap (λ (r : Run). r.count) is.0 in
    let two = replaced_two run (sym c.is_replaced.ensures ∙ c.if-is_replaced.true) in
    let behind = drop (run.before + run.count) groups in
    let size = length-drop (run.before + run.count) groups in
    let whole : take (8 - (run.before + run.count)) behind ≡ behind = take_all _ behind (omega arith) in
    rw (text_shortened groups (omega arith), is.0, ← whole) (adds_more (adds_more c.push_numbers.ensures c.push_word.ensures) c.push_numbers-in-Some.ensures)

pub returns-in_default : goal.returns-in_default
returns-in_default c =
    let groups = c.args.groups in
    let few : (longest_run groups).count < 2 =
    elim c.in_default.branch [
      | in_default-via-in-Some+else-is_replaced w ↦
          let is = some_is (longest_run groups) w.in-Some.run' (sym c.longest_run.ensures.longest ∙ w.in-Some.is) in
          let count = ap (λ (r : Run). r.count) is.0 in
          let one = replaced_few w.in-Some.run' (sym w.is_replaced.ensures ∙ w.if-is_replaced.false) in
          omega arith
      | in_default-via-in_default w ↦
          let none = none_is (longest_run groups) (sym c.longest_run.ensures.longest ∙ w.in_default.is) in omega arith
    ]
    in
    rw (text_full groups few) c.push_numbers-in_default.ensures
