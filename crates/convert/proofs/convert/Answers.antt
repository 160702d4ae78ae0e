-- What `load` refuses is answered with its number; else `store` answers and writes as it is defined for moving, since the bytes are a stored form.
use Rattle.std.proofs.Common.{ℕ, ◌≡◌, sym, ap, ap₂, ◌∙◌, subst, List, length}
use Rattle.std.specs.Prelude.{Result, Ok, Err}
use Rattle.std.proofs.lemmas.Result.{err_from_is_err_and}
use Rattle.exact.specs.Claim.{AllBytes}
use Rattle.exact.proofs.Parser.{bytes_of}
use Rattle.record.specs.declared.Record.{Record}
use Rattle.answer.specs.declared.Fault.{Fault}
use Rattle.answer.specs.Answers.{WriteAnswer, told_written, output_after}
use Rattle.stored_form.specs.declared.Flaw.{Flaw}
use Rattle.stored_form.specs.declared.StoredVersion.{StoredVersion}
use Rattle.stored_form.specs.declared.ConvertError.{ConvertError}
use Rattle.stored_form.specs.declared.ConvertError.TheVariants.{Invalid, Refused}
use Rattle.stored_form.specs.Stored.{stored, store_answer}
use Rattle.stored_form.specs.Loading.{LoadAnswer, told_loaded, load_answer}
use Rattle.stored_form.proofs.RoundTrip.{load_again}
use Rattle.stored_form.specs.Converting.{converted, convert_by, convert_answer, told_converted, LoadThenStore, GoesBack}
use Rattle.stored_form.proofs.Moving.{converted-stored, answer_stored, load_then_store, goes_back}
use Rattle.convert.proofs.convert.Goals as goal

module _ (from to : StoredVersion) (s out : List ℕ) (bytes : AllBytes s) where
  abbrev answer : WriteAnswer
  answer = convert_answer from to s (length out)

  abbrev text : List ℕ
  text = converted from to s

  -- an answer and an output as defined are what is promised
  promise : (x : Result ℕ ConvertError) (after : List ℕ) → told_converted x ≡ answer → after ≡ output_after answer text out
      → (told_converted x ≡ answer) × (after ≡ output_after answer text out) × LoadThenStore from to s out (told_converted x) after
      × GoesBack from to s (told_converted x) after
  promise x after told output = (
    told,
    output,
    subst (λ (a : WriteAnswer). LoadThenStore from to s out a after) (sym told) (load_then_store from to s bytes out after output),
    subst (λ (a : WriteAnswer). GoesBack from to s a after) (sym told) (goes_back from to s bytes out after output),
  )

  invalid : (flaw : Flaw) → told_loaded (Err flaw) ≡ load_answer from s → told_converted (Err (Invalid flaw)) ≡ answer
  invalid flaw loaded = ap (λ (l : LoadAnswer). convert_by l to (length text) (length out)) loaded

  -- what the writer of the other version answers and leaves of the record that is loaded
  module _ (r : Record) (loaded : told_loaded (Ok r) ≡ load_answer from s) where
    same : answer ≡ store_answer to r (length out)
    same = answer_stored from to s r (load_again from s bytes r (sym loaded)) (length out)

    left : (after : List ℕ) → after ≡ output_after (store_answer to r (length out)) (stored to r) out → after ≡ output_after answer text out
    left after o =
        o
        ∙ sym (ap₂ (λ (a : WriteAnswer) (t : List ℕ). output_after a t out) same (converted-stored from to s r (load_again from s bytes r (sym loaded))))

pub returns-in_err-loaded : goal.returns-in_err-loaded
returns-in_err-loaded c =
    let x = c.args in
    let bytes = bytes_of x.s.now c.type_inv.s in
    let flaw = c.in_err-loaded.field-0.0 in
    let p = err_from_is_err_and c.from_residual.result c.from_residual.ensures.1 in
    let told = invalid x.from x.to x.s.now x.out.now bytes flaw c.in_err-loaded.ensures.0 in
    rw (p.1, p.2)
    (promise x.from x.to x.s.now x.out.now bytes (Err (Invalid flaw)) x.out.now told
    (ap (λ (a : WriteAnswer). output_after a (converted x.from x.to x.s.now) x.out.now) told))

pub returns-in_err-n : goal.returns-in_err-n
returns-in_err-n c =
    let x = c.args in
    let bytes = bytes_of x.s.now c.type_inv.s in
    let r = c.in_ok-loaded.loaded in
    let p = err_from_is_err_and c.from_residual-in_err-n.result c.from_residual-in_err-n.ensures.1 in
    let loaded = c.in_ok-loaded.ensures.0 in
    rw (p.1, p.2)
    (promise x.from x.to x.s.now x.out.now bytes (Err (Refused c.in_err-n.field-0.0)) _
    (c.in_err-n.ensures.0 ∙ sym (same x.from x.to x.s.now x.out.now bytes r loaded))
    (left x.from x.to x.s.now x.out.now bytes r loaded _ c.in_err-n.ensures.1))

pub returns : goal.returns
returns c =
    let x = c.args in
    let bytes = bytes_of x.s.now c.type_inv.s in
    let r = c.in_ok-loaded.loaded in
    let loaded = c.in_ok-loaded.ensures.0 in
    promise x.from x.to x.s.now x.out.now bytes (Ok c.in_ok-n.n) _ (c.in_ok-n.ensures.0 ∙ sym (same x.from x.to x.s.now x.out.now bytes r loaded))
    (left x.from x.to x.s.now x.out.now bytes r loaded _ c.in_ok-n.ensures.1)
