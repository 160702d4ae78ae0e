-- `read` ensures the verdict and `check_header` the state; the answer is the one that is claimed.
use Rattle.std.specs.Prelude.{Option, Ok, Err}
use Rattle.std.proofs.Common.{◌≡◌, sym, ap, ◌∙◌, subst, List, ℕ, length, take}
use Rattle.std.proofs.lemmas.Result.{err_from_is_err_and}
use Rattle.record.specs.declared.Checksum.{Checksum}
use Rattle.answer.specs.declared.Header.{Header}
use Rattle.answer.specs.declared.Stop.{Stop}
use Rattle.answer.specs.declared.Stop.TheVariants.{More, Refused}
use Rattle.answer.specs.Headers.{told_stop, told_header}
use Rattle.area.specs.Area.{span_start, span_end}
use Rattle.reader.specs.Read.{Reads}
use Rattle.checksum.specs.Checked.{CheckedVerdict, judged, Checks}
use Rattle.checksum.specs.State.{state_from, state_on, checked_by, checked_verdict}
use Rattle.checksum.proofs.Demand.{checks}
use Rattle.checked_reader.proofs.SpanLaws.{state_spanned}
use Rattle.checked_reader.proofs.read_checked.Goals as goal

module _ (s : List ℕ) where
  -- what is answered is claimed
  claimed : (x : CheckedVerdict) → x ≡ checked_verdict s → Checks s x
  claimed x e = subst (Checks s) (sym e) (checks s)

  -- where there is no whole header
  by_stop : (e : Stop) → Reads s (Err e) → judged (told_stop e) ≡ checked_verdict s
  by_stop (More n) r = ap (λ v. checked_by v (state_on s v)) r.answers
  by_stop (Refused k p) r = ap (λ v. checked_by v (state_on s v)) r.answers

  -- the state of one
  module _ (h : Header) (r : Reads s (Ok h)) (state : Option Checksum) (start end : ℕ)
      (from : start ≡ span_start h.length h.version h.«record».kind (length s)) (to : end ≡ span_end h.length h.version h.«record».kind (length s))
      (said : state ≡ state_from (take end s) start) where
    by_state_lem : checked_by (told_header s (Ok h)) state ≡ checked_verdict s
    by_state_lem =
        ap (checked_by (told_header s (Ok h)))
        (said ∙ state_spanned s h r.judged start end from to)
        ∙ ap (λ v. checked_by v (state_on s v)) r.answers

pub returns-in_err-header-clause-told : goal.returns-in_err-header-clause-told
returns-in_err-header-clause-told c =
    let p = err_from_is_err_and c.from_residual.result c.from_residual.ensures.1 in
    rw (p.1, p.2) (by_stop c.args.s.now _ c.in_err-header.ensures)

pub returns-in_err-header-clause-claim : goal.returns-in_err-header-clause-claim
returns-in_err-header-clause-claim c =
    let p = err_from_is_err_and c.from_residual.result c.from_residual.ensures.1 in
    rw (p.1, p.2) (claimed c.args.s.now _ (by_stop c.args.s.now _ c.in_err-header.ensures))

pub returns-in-Some-clause-told : goal.returns-in-Some-clause-told
returns-in-Some-clause-told c =
    rw c.with_checksum.ensures
    (by_state_lem c.args.s.now c.in_ok-header.header c.in_ok-header.ensures _ _ _ c.span_of-area.ensures.start c.span_of-area.ensures.end
    (sym c.in-Some.is ∙ c.check_header.ensures ∙ ap (λ (f : List ℕ). state_from f c.span_of-area.result.start) c.front.ensures.2))

pub returns-in-Some-clause-claim : goal.returns-in-Some-clause-claim
returns-in-Some-clause-claim c = claimed c.args.s.now _ (returns-in-Some-clause-told c)

pub returns-in-None-clause-told : goal.returns-in-None-clause-told
returns-in-None-clause-told c =
    by_state_lem c.args.s.now c.in_ok-header.header c.in_ok-header.ensures _ _ _ c.span_of-area.ensures.start c.span_of-area.ensures.end
    (sym c.in-None.is ∙ c.check_header.ensures ∙ ap (λ (f : List ℕ). state_from f c.span_of-area.result.start) c.front.ensures.2)

pub returns-in-None-clause-claim : goal.returns-in-None-clause-claim
returns-in-None-clause-claim c = claimed c.args.s.now _ (returns-in-None-clause-told c)
