-- The signature is a literal field of twelve bytes, and byte 12 follows.
use Rattle.std.proofs.Common.{ℕ, ◌≡◌, sym, ap, ◌∙◌, List, arith, Result, Ok, Err}
use Rattle.std.proofs.lemmas.Result.{err_from_is_err_and}
use Rattle.exact.proofs.LiteralLaws.{literal_few}
use Rattle.exact.proofs.Parser.{bytes_of}
use Rattle.exact.proofs.Verdicts.{few_count}
use Rattle.exact.specs.Scans.{present}
use Rattle.exact.specs.declared.Scan.{Scan}
use Rattle.exact.specs.declared.Scan.TheVariants.{Accepted}
use Rattle.record.specs.declared.Kind.{Kind}
use Rattle.header.specs.Block.{signature}
use Rattle.fields.specs.BlockFields.{signature_field}
use Rattle.fields.proofs.BlockFields.{block}
use Rattle.answer.specs.declared.Stop.{Stop}
use Rattle.block.specs.KindAt.{kind_at}
use Rattle.block.proofs.KindLaws.{onward, kind_said}
use Rattle.block.proofs.SignatureLaws.{on, behind_signature}
use Rattle.block.proofs.block.Goals.{After-literal}
use Rattle.block.proofs.block.Goals as goal

module _ (c : After-literal) where
  abbrev text : List ℕ
  text = c.args.s.now

  found : (x : Scan (Unit {0})) → c.literal.result ≡ x → present 1 4 x ≡ signature_field.verdict text
  found x e = ap (present 1 4) (sym e) ∙ c.literal.ensures.verdict 1 4

  -- behind a whole signature
  behind : (r : Result Kind Stop) (v : Unit {0}) (n : ℕ) → c.literal.result ≡ Accepted v n → r ≡ kind_at text → onward text r ≡ block.verdict text
  behind r v n e h =
      ap (onward text) h ∙ kind_said text (bytes_of text c.type_inv.s) ∙ behind_signature text 0 n (found (Accepted v n) e)

pub overflow_add-result : goal.overflow_add-result
overflow_add-result c =
    let ran = (goal.at.overflow_add-result c).After-literal in
    omega (arith, few_count 16 (found ran _ c.in-More.is) (literal_few 1 4 0 signature (text ran)))

pub returns-in-More : goal.returns-in-More
returns-in-More c = let ran = (goal.at.returns-in-More c).After-literal in ap (on (text ran)) (found ran _ c.in-More.is)

pub returns-in-Refused : goal.returns-in-Refused
returns-in-Refused c = let ran = (goal.at.returns-in-Refused c).After-literal in ap (on (text ran)) (found ran _ c.in-Refused.is)

pub returns-in_err-kind-in-Accepted : goal.returns-in_err-kind-in-Accepted
returns-in_err-kind-in-Accepted c =
    let ran = (goal.at.returns-in_err-kind-in-Accepted c).After-literal in
    let p = err_from_is_err_and c.from_residual.result c.from_residual.ensures.1 in
    rw (p.1, p.2) (behind ran (Err c.in_err-kind-in-Accepted.field-0.0) _ _ c.in-Accepted.is c.in_err-kind-in-Accepted.ensures)

pub returns-in_ok-kind-in-Accepted : goal.returns-in_ok-kind-in-Accepted
returns-in_ok-kind-in-Accepted c =
    let ran = (goal.at.returns-in_ok-kind-in-Accepted c).After-literal in
    c.from_length.ensures ∙ behind ran (Ok c.in_ok-kind-in-Accepted.kind) _ _ c.in-Accepted.is c.in_ok-kind-in-Accepted.ensures
