-- Each answer is the machine's, at the byte i behind the number n and where the bytes end; and a verdict of the machine has its claim.
use Rattle.std.proofs.Common.{rules, ℕ, ◌≡◌, sym, ap, ◌∙◌, arith}
use Rattle.std.proofs.lemmas.Grind.{common_steps}
use Rattle.exact.specs.Claim.{Verdict, Claim}
use Rattle.exact.specs.Ended.{Ended}
use Rattle.exact.proofs.MachineLaws.{from_end, from-go, from-done, from-dead}
use Rattle.exact.proofs.Theorem.{leaf_claims}
use Rattle.decimal.specs.Decimal.{Digit, Decimal}
use Rattle.decimal.specs.DecimalVerdict.{decimal_verdict}
use Rattle.decimal.proofs.DecimalParser.{decimal}
use Rattle.decimal.proofs.Steps.{behind_end, behind_zero, behind-digit}
use Rattle.decimal.specs.Grows.{move_of}
use Rattle.decimal.proofs.decimal.Goals.{Start}
use Rattle.decimal.proofs.decimal.Goals as goal

claimed : (c : Start) {v : ℕ → ℕ → Verdict ℕ} → ((k m : ℕ) → v k m ≡ decimal_verdict k m c.args.bound c.args.end c.args.s.now)
    → (k : ℕ) → (Digit c.args.end → ⊥) → Claim (Ended (Decimal c.args.bound) c.args.end) (λ u. k) (v k 0) c.args.s.now
claimed c e k apart =
    let a = c.args in
    let p = decimal k 0 a.bound a.end apart c.ranges.end.fits in
    leaf_claims k (Ended (Decimal a.bound) a.end) p.bytes a.s.now (e k 0) (p.exact a.s.now)

pub returns-in_default-clause-verdict : goal.returns-in_default-clause-verdict
returns-in_default-clause-verdict c = grind (arith, common_steps)

pub returns-in_default-clause-claim : goal.returns-in_default-clause-claim
returns-in_default-clause-claim c = claimed (goal.at.returns-in_default-clause-claim c).Start (returns-in_default-clause-verdict c)

pub returns-in_default-grow-clause-verdict : goal.returns-in_default-grow-clause-verdict
returns-in_default-grow-clause-verdict c = grind (arith, common_steps)

pub returns-in_default-grow-clause-claim : goal.returns-in_default-grow-clause-claim
returns-in_default-grow-clause-claim c = claimed (goal.at.returns-in_default-grow-clause-claim c).Start (returns-in_default-grow-clause-verdict c)

pub returns-then-c-end-clause-verdict : goal.returns-then-c-end-clause-verdict
returns-then-c-end-clause-verdict c k m =
    sym (c.loop-i.invariant.1 k m ∙ from-done k _ _ _ _ _ c.loop-i.n c.loop-i-test.true (behind_end _ _ _ _ c.if-c-end.true))

pub returns-then-c-end-clause-claim : goal.returns-then-c-end-clause-claim
returns-then-c-end-clause-claim c = claimed (goal.at.returns-then-c-end-clause-claim c).Start (returns-then-c-end-clause-verdict c)

pub returns-then-zero-clause-verdict : goal.returns-then-zero-clause-verdict
returns-then-zero-clause-verdict c k m =
    sym (c.loop-i.invariant.1 k m ∙ from-dead k _ _ _ _ _ c.loop-i-test.true (behind_zero _ _ _ _ c.if-c-end.false c.if-zero.true))

pub returns-then-zero-clause-claim : goal.returns-then-zero-clause-claim
returns-then-zero-clause-claim c = claimed (goal.at.returns-then-zero-clause-claim c).Start (returns-then-zero-clause-verdict c)

pub returns-in_default-grow-2-clause-verdict : goal.returns-in_default-grow-2-clause-verdict
returns-in_default-grow-2-clause-verdict c k m =
    sym
    (c.loop-i.invariant.1 k m
    ∙ from-dead k _ _ _ _ _ c.loop-i-test.true (behind-digit _ _ _ _ c.if-c-end.false c.if-zero.false ∙ sym c.grow-in-loop-i.ensures.leads ∙ ap move_of c.in_default-grow-2.is))

pub returns-in_default-grow-2-clause-claim : goal.returns-in_default-grow-2-clause-claim
returns-in_default-grow-2-clause-claim c = claimed (goal.at.returns-in_default-grow-2-clause-claim c).Start (returns-in_default-grow-2-clause-verdict c)

pub loop-i-preserved : goal.loop-i-preserved
loop-i-preserved c =
    let move = behind-digit _ _ _ _ c.if-c-end.false c.if-zero.false ∙ sym c.grow-in-loop-i.ensures.leads ∙ ap move_of c.in-Some-grow-2.is in
    (search rules, λ k m. c.loop-i.invariant.1 k m ∙ from-go k _ _ _ _ _ _ c.loop-i-test.true move)

pub returns-clause-verdict : goal.returns-clause-verdict
returns-clause-verdict c k m = sym (c.loop-i.invariant.1 k m ∙ from_end k _ _ _ _ _ c.loop-i-test.false)

pub returns-clause-claim : goal.returns-clause-claim
returns-clause-claim c = claimed (goal.at.returns-clause-claim c).Start (returns-clause-verdict c)
