-- Each answer is that of the kind's fields behind the length.
use Rattle.std.proofs.Common.{ℕ, sym, ap, ◌∙◌, drop}
use Rattle.std.proofs.lemmas.Result.{err_from_is_err_and}
use Rattle.exact.specs.Claim.{more}
use Rattle.exact.specs.Field.{shift}
use Rattle.record.specs.Kinds.{block_length}
use Rattle.record.specs.Records.{bare}
use Rattle.fields.specs.BlockFields.{addresses, skipped_bytes}
use Rattle.fields.specs.Lengths.{fits}
use Rattle.answer.specs.Headers.{told_stop}
use Rattle.block_body.specs.Shortest.{shortest}
use Rattle.block_body.proofs.Takes.{bytes_of}
use Rattle.block_body.proofs.KindLaws.{few, without, fitting}
use Rattle.block_body.proofs.from_length.Goals as goal

pub returns-in_err-size : goal.returns-in_err-size
returns-in_err-size c =
    let x = c.args in
    let short = c.in_err-size.ensures.short in
    let p = err_from_is_err_and c.from_residual.result c.from_residual.ensures.1 in
    rw (p.1, p.2)
    (ap told_stop short.1
    ∙ ap (λ (a : ℕ). more (shortest a x.s.now)) c.block_length-block.ensures
    ∙ few x.s.now (bytes_of x.s.now c.type_inv.s) x.kind short.0)

pub returns-then-block-eq0 : goal.returns-then-block-eq0
returns-then-block-eq0 c =
    let x = c.args in
    let whole = c.in_ok-size.ensures.whole in
    c.skipped.ensures
    ∙ ap (λ (n : ℕ). shift 16 ((skipped_bytes (bare x.kind) n).verdict (drop 16 x.s.now))) whole.1
    ∙ without x.s.now (bytes_of x.s.now c.type_inv.s) x.kind (sym c.block_length-block.ensures ∙ c.if-block-eq0.true) whole.0

pub returns-then-fits : goal.returns-then-fits
returns-then-fits c =
    let x = c.args in
    let whole = c.in_ok-size.ensures.whole in
    c.addresses.ensures
    ∙ ap (λ (n : ℕ). shift 16 ((addresses x.kind n).verdict (drop 16 x.s.now))) whole.1
    ∙ fitting x.s.now (bytes_of x.s.now c.type_inv.s) x.kind (λ z. c.if-block-eq0.false (c.block_length-block.ensures ∙ z)) whole.0
    (ap (fits (block_length x.kind)) (sym whole.1) ∙ ap (λ (a : ℕ). fits a c.in_ok-size.size) (sym c.block_length-block.ensures) ∙ sym c.fits.ensures ∙ c.if-fits.true)
