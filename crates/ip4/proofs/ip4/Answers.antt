-- An octet is what `decimal` finds: a turn passes it, or answers with it; and a verdict has its claim.
use Rattle.std.proofs.Common.{rules, ℕ, ◌+◌, ◌*◌, ◌<◌, ◌-◌, ◌≡◌, refl, sym, ap, ◌∙◌, Bool, List, [], ◌∷◌, arith, drop, length-set, eq-eqb, ne_eqb}
use Rattle.exact.specs.declared.Scan.{Scan}
use Rattle.exact.specs.declared.Scan.TheVariants.{Accepted, More, Refused}
use Rattle.exact.specs.Claim.{Verdict, more, Claim}
use Rattle.exact.specs.Ended.{Ended}
use Rattle.exact.specs.Pick.{pick}
use Rattle.exact.specs.Scans.{told}
use Rattle.exact.proofs.Parser.{tail_all}
use Rattle.exact.proofs.Theorem.{leaf_claims}
use Rattle.decimal.specs.Decimal.{Digit}
use Rattle.decimal.specs.DecimalVerdict.{decimal_verdict}
use Rattle.ip4.specs.Ip4.{Address}
use Rattle.ip4.specs.Ip4Verdict.{end_of, ip4_verdict}
use Rattle.ip4.proofs.Ip4Parser.{ip4}
use Rattle.ip4.proofs.Turn.{octets_start, octets_end, octet_more, octet_refused, octet_accepted}
use Rattle.ip4.proofs.ip4.Goals.{After-decimal, Start, else-i-lt3, then-i-lt3}
use Rattle.ip4.proofs.ip4.Goals as goal

claimed : (c : Start) {v : ℕ → ℕ → Verdict (List ℕ)} → ((k m : ℕ) → v k m ≡ ip4_verdict k m c.args.end c.args.s.now)
    → (k : ℕ) → (Digit c.args.end → ⊥) → Claim (Ended Address c.args.end) (λ u. k) (v k 0) c.args.s.now
claimed c e k apart =
    let a = c.args in
    let p = ip4 k 0 a.end apart c.ranges.end.fits in
    leaf_claims k (Ended Address a.end) p.bytes a.s.now (e k 0) (p.exact a.s.now)

-- a turn of the loop, behind its call
module _ (l : After-decimal) where
  abbrev text : List ℕ
  text = l.args.s.now

  abbrev end : ℕ
  end = l.args.end

  abbrev octets : List ℕ
  octets = l.loop-i.octets

  abbrev at : ℕ
  at = l.loop-i.at

  abbrev i : ℕ
  i = l.loop-i.i

  inside : i < 4
  inside = omega arith

  stop_is : l.if-i-lt3.stop ≡ end_of end (3 - i)
  stop_is =
      elim l.if-i-lt3.branch [ then-i-lt3 w ↦ let h = w.if-i-lt3.true in w.stop-is ∙ ap (λ (b : Bool). pick b end 46) (sym (ne_eqb (3 - i) 0 (omega arith))) | else-i-lt3 w ↦ let h = w.if-i-lt3.false in w.stop-is ∙ ap (λ (b : Bool). pick b end 46) (sym (eq-eqb (3 - i) 0 (omega arith))) ]

  said : (k m : ℕ) (r : Scan ℕ) → l.decimal.result ≡ r → told k m r ≡ decimal_verdict k m 255 (end_of end (3 - i)) (drop at text)
  said k m r e =
      ap (told k m) (sym e) ∙ l.decimal.ensures.verdict k m
      ∙ ap (λ (s : List ℕ). decimal_verdict k m 255 l.if-i-lt3.stop s) (tail_all at text)
      ∙ ap (λ (c : ℕ). decimal_verdict k m 255 c (drop at text)) stop_is

pub loop-i-init : goal.loop-i-init
loop-i-init c = (refl, omega arith, λ k m. octets_start k m _ _ (0 ∷ 0 ∷ 0 ∷ 0 ∷ []))

pub returns-in-More-clause-verdict : goal.returns-in-More-clause-verdict
returns-in-More-clause-verdict c k m =
    let t = (goal.at.returns-in-More-clause-verdict c).After-decimal in
    let least : ℕ = c.in-More.least in
    ap more (omega arith)
    ∙ octet_more k m (end t) (text t) (i t) (octets t) (at t) (inside t) (least + (2 * (3 - i t) + m)) (said t k _ (More least) c.in-More.is)
    ∙ sym (c.loop-i.invariant.2 k m)

pub returns-in-More-clause-claim : goal.returns-in-More-clause-claim
returns-in-More-clause-claim c = claimed (goal.at.returns-in-More-clause-claim c).Start (returns-in-More-clause-verdict c)

pub returns-in-Refused-clause-verdict : goal.returns-in-Refused-clause-verdict
returns-in-Refused-clause-verdict c k m =
    let t = (goal.at.returns-in-Refused-clause-verdict c).After-decimal in
    let place : ℕ = c.in-Refused.place in
    octet_refused k m (end t) (text t) (i t) (octets t) (at t) (inside t) place (said t k _ (Refused place) c.in-Refused.is)
    ∙ sym (c.loop-i.invariant.2 k m)

pub returns-in-Refused-clause-claim : goal.returns-in-Refused-clause-claim
returns-in-Refused-clause-claim c = claimed (goal.at.returns-in-Refused-clause-claim c).Start (returns-in-Refused-clause-verdict c)

pub loop-i-preserved : goal.loop-i-preserved
loop-i-preserved c =
    let t = (goal.at.loop-i-preserved c).After-decimal in
    let n : ℕ = c.in-Accepted.n in
    let size : ℕ = c.in-Accepted.size in
    let found = c.in-Accepted.is in (
      length-set (octets t) (i t) n ∙ c.loop-i.invariant.0,
      search rules,
      λ k m.
          c.loop-i.invariant.2 k m
          ∙ octet_accepted k m (end t) (text t) (i t) (octets t) (at t) (inside t) n size c.loop-i.invariant.0 (said t k _ (Accepted n size) found),
    )

pub returns-clause-verdict : goal.returns-clause-verdict
returns-clause-verdict c k m = octets_end k m _ _ c.loop-i.i c.loop-i.octets c.loop-i.at (omega arith) c.loop-i.invariant.0 ∙ sym (c.loop-i.invariant.2 k m)

pub returns-clause-claim : goal.returns-clause-claim
returns-clause-claim c = claimed (goal.at.returns-clause-claim c).Start (returns-clause-verdict c)
