-- The tests are made in the order of `store_answer`; the stored form of a record in memory is as long as its version and kind say.
use Rattle.std.proofs.Common.{◌+◌, ◌≤◌, ◌<◌, ◌≡◌, sym, ap, ◌∙◌, arith, le-leb, length}
use borrow.Author.Tests.{lt-leb}
use Rattle.address_block.proofs.AddressBlockLaws.{address_fits, port_fits}
use Rattle.record.proofs.InMemory.{in_memory}
use Rattle.answer.specs.Answers.{wrote}
use Rattle.stored_form.proofs.HeadLaws.{seven_at_most}
use Rattle.stored_form.specs.Stored.{stored}
use Rattle.stored_form.proofs.RoundTrip.{stored-length}
use Rattle.store.proofs.check.Goals.{After-block_length}
use Rattle.store.proofs.check.Goals as goal

pub returns-then-not-clean : goal.returns-then-not-clean
returns-then-not-clean c = simp (sym c.clean.ensures.0 ∙ c.if-not-clean.true)

pub returns-then-not-keeps : goal.returns-then-not-keeps
returns-then-not-keeps c = simp (sym c.clean.ensures.0 ∙ c.if-not-clean.false, sym c.keeps.ensures ∙ c.if-not-keeps.true)

pub overflow_add-n : goal.overflow_add-n
overflow_add-n c =
    let a = address_fits c.args.from.kind in
    let p = port_fits c.args.from.kind in
    let v = seven_at_most c.args.version in
    let h = c.head_length.ensures in
    let e = c.block_length.ensures in
    omega arith

size : (c : After-block_length) → c.head_length.result + c.block_length.result ≡ length (stored c.args.version c.args.from)
size c =
    let l = stored-length c.args.version c.args.from (in_memory c.args.from _ c.well_formed.0) in
    let h = c.head_length.ensures in
    let e = c.block_length.ensures in
    omega arith

pub returns-then-room-n : goal.returns-then-room-n
returns-then-room-n c =
    let e = size (goal.at.returns-then-room-n c).After-block_length in
    let short : c.args.room < length (stored c.args.version c.args.from) = omega arith in
    simp (sym c.clean.ensures.0 ∙ c.if-not-clean.false, sym c.keeps.ensures ∙ c.if-not-keeps.false, lt-leb _ _ short)

pub returns : goal.returns
returns c =
    let e = size (goal.at.returns c).After-block_length in
    let long : length (stored c.args.version c.args.from) ≤ c.args.room = omega arith in
    ap wrote e ∙ simp (sym c.clean.ensures.0 ∙ c.if-not-clean.false, sym c.keeps.ensures ∙ c.if-not-keeps.false, le-leb _ _ long)
