-- The first byte tells the version, and each version's reader answers its field's verdict.
use Rattle.std.proofs.Common.{◌∙◌}
use Rattle.std.specs.Prelude.{Ok, Err}
use Rattle.std.proofs.lemmas.Result.{err_from_is_err_and}
use Rattle.answer.specs.declared.Sight.TheVariants.{Line, Block}
use Rattle.answer.specs.declared.Stop.TheVariants.{More}
use Rattle.reader.proofs.ReadLaws.{sees_as, none_yet, of_line, of_block}
use Rattle.reader.proofs.sight.Goals as goal

pub returns-in-None : goal.returns-in-None
returns-in-None c = sees_as (Err (More 15)) (none_yet c.args.s.now c.in-None.ensures.value) tt

pub returns-then-text : goal.returns-then-text
returns-then-text c =
    sees_as (Ok (Line c.in_ok-line-in-Some.field-0))
    (c.in_ok-line-in-Some.ensures.verdict ∙ of_line c.args.s.now _ c.in-Some.ensures.value c.if-text.true)
    c.in_ok-line-in-Some.ensures.padded

pub returns-in_ok-block-in-Some : goal.returns-in_ok-block-in-Some
returns-in_ok-block-in-Some c =
    sees_as (Ok (Block c.in_ok-block-in-Some.field-0))
    (c.in_ok-block-in-Some.ensures ∙ of_block c.args.s.now _ c.in-Some.ensures.value c.if-text.false) tt

pub returns-in_err-line-in-Some : goal.returns-in_err-line-in-Some
returns-in_err-line-in-Some c =
    let p = err_from_is_err_and c.from_residual.result c.from_residual.ensures.1 in
    rw (p.1, p.2)
    (sees_as (Err c.in_err-line-in-Some.field-0.0)
    (c.in_err-line-in-Some.ensures.verdict ∙ of_line c.args.s.now _ c.in-Some.ensures.value c.if-text.true) tt)

pub returns-in_err-block-in-Some : goal.returns-in_err-block-in-Some
returns-in_err-block-in-Some c =
    let p = err_from_is_err_and c.from_residual-in_err-block-in-Some.result c.from_residual-in_err-block-in-Some.ensures.1 in
    rw (p.1, p.2)
    (sees_as (Err c.in_err-block-in-Some.field-0.0)
    (c.in_err-block-in-Some.ensures ∙ of_block c.args.s.now _ c.in-Some.ensures.value c.if-text.false) tt)
