use Rattle.std.proofs.Common.{ℕ, ◌+◌, ◌≤◌, ◌<◌, ◌-◌, ◌≡◌, sym, ap, ◌∙◌, Bool, true, false, List, arith, eqb, length, get_or, eq-eqb, ne_eqb}
use Rattle.exact.specs.Claim.{Verdict, more, refused, Claim}
use Rattle.exact.specs.Valueless.{Valueless}
use Rattle.exact.proofs.Theorem.{leaf_claims}
use Rattle.exact.proofs.MachineLaws.{from_start, from_end, from-go, from-done, from-dead}
use Rattle.exact.specs.Machine.{from}
use Rattle.exact.specs.Pick.{pick}
use Rattle.line_end.specs.Line.{FirstEnd}
use Rattle.line_end.specs.LineVerdict.{line, least, pass, step_line, least_line, line_verdict}
use Rattle.line_end.proofs.LineParser.{line_end}
use Rattle.line_end.proofs.LineLeaf.{lf_ends, passes_by, pass-go, pass-dead}
use Rattle.line_end.proofs.line_end.Goals.{At-loop-i, Joined-c-eq13, Start, else-c-eq13, else-cr-2, then-c-eq13, then-cr-2+else-c-eq10}
use Rattle.line_end.proofs.line_end.Goals as goal

-- a verdict, with its claim
module _ (c : Start) where
  abbrev whole : List ℕ
  whole = c.args.s.now

  abbrev most : ℕ
  most = c.args.limit

  answered : {v : ℕ → ℕ → Verdict ℕ} → ((k m : ℕ) → v k m ≡ line_verdict k m most whole)
      → ((k m : ℕ) → v k m ≡ line_verdict k m most whole) × ((k : ℕ) → 2 ≤ most → Claim (Valueless (FirstEnd most)) (λ u. k) (v k 0) whole)
  answered e = (e, λ k h. let p = line_end k 0 most h in leaf_claims k (Valueless (FirstEnd most)) p.bytes whole (e k 0) (p.exact whole))

-- a turn that does not end the line
abbrev Turn : Type 0
Turn = Joined-c-eq13

module _ (l : Turn) where
  abbrev so_far : At-loop-i
  so_far = (goal.at.Joined-c-eq13 l).At-loop-i

  abbrev text : List ℕ
  text = whole (goal.at.At-loop-i so_far).Start

  abbrev limit : ℕ
  limit = most (goal.at.At-loop-i so_far).Start

  abbrev at : ℕ
  at = so_far.loop-i.i

  abbrev byte : ℕ
  byte = get_or text at 0

  inside : at < length text
  inside = l.if-s-i.false

  -- the last byte was not CR, or this one is not LF
  no_end : so_far.loop-i.cr ≡ true → byte ≡ 10 → ⊥
  no_end t e =
      elim l.if-cr-2.branch [ then-cr-2+else-c-eq10 w ↦ w.if-c-eq10.false e | else-cr-2 w ↦ let h = w.if-cr-2.false in let z : ◌≡◌ {A = ℕ} 0 1 = cc in omega arith ]

  is_least : l.if-c-eq13.least ≡ least (eqb byte 13)
  is_least =
      elim l.if-c-eq13.branch [ then-c-eq13 w ↦ w.least-is ∙ ap least (sym (eq-eqb byte 13 w.if-c-eq13.true)) | else-c-eq13 w ↦ w.least-is ∙ ap least (sym (ne_eqb byte 13 w.if-c-eq13.false)) ]

  stays : 2 ≤ l.if-c-eq13.least
  stays = elim l.if-c-eq13.branch [ then-c-eq13 w ↦ let h = w.least-is in omega arith | else-c-eq13 w ↦ let h = w.least-is in omega arith ]

  here : step_line (line so_far.loop-i.cr (limit - at)) byte ≡ pass (eqb byte 13) (limit - at) byte
  here = passes_by so_far.loop-i.cr (limit - at) byte no_end

  module _ (k m : ℕ) where
    dies : limit - at < l.if-c-eq13.least → refused k at ≡ line_verdict k m limit text
    dies h =
        sym
        (so_far.loop-i.invariant.2 k m
        ∙ from-dead k step_line (least_line m) text at _ inside (here ∙ pass-dead (eqb byte 13) (limit - at) byte (let e = is_least in omega arith)))

    goes : l.if-c-eq13.least ≤ limit - at → line_verdict k m limit text ≡ from k step_line (least_line m) text (at + 1) (line (eqb byte 13) (limit - (at + 1)))
    goes h =
        so_far.loop-i.invariant.2 k m
        ∙ from-go k step_line (least_line m) text at _ _ inside
        (here ∙ pass-go (eqb byte 13) (limit - at) byte (omega (arith, l.type_inv.s at)) (let e = is_least in omega arith))
        ∙ ap (λ (n : ℕ). from k step_line (least_line m) text (at + 1) (line (eqb byte 13) n)) (omega arith)

pub loop-i-init : goal.loop-i-init
loop-i-init c = (
  omega arith,
  omega arith,
  λ k m. ap (λ (n : ℕ). line_verdict k m n c.args.s.now) (omega arith) ∙ from_start k step_line (least_line m) c.args.s.now (line false (c.args.limit - 0)),
)

-- the bytes end: LF is asked behind CR, else CR and LF
module _ (so_far : At-loop-i) where
  ends : length (whole (goal.at.At-loop-i so_far).Start) ≤ so_far.loop-i.i → (n : ℕ) → pick so_far.loop-i.cr 1 2 ≡ n
      → (k m : ℕ) → more (n + m) ≡ line_verdict k m (most (goal.at.At-loop-i so_far).Start) (whole (goal.at.At-loop-i so_far).Start)
  ends h n e k m =
      sym (so_far.loop-i.invariant.2 k m ∙ from_end k step_line (least_line m) _ _ _ h ∙ ap (λ (j : ℕ). more (j + m)) e)

pub returns-then-cr : goal.returns-then-cr
returns-then-cr c =
    let so_far = (goal.at.returns-then-cr c).At-loop-i in
    let it = answered (goal.at.At-loop-i so_far).Start (ends so_far c.if-s-i.true 1 (ap (λ (b : Bool). pick b 1 2) c.if-cr.true)) in
    record { verdict = it.0; claim = it.1; inside = omega arith }

pub returns-else-cr : goal.returns-else-cr
returns-else-cr c =
    let so_far = (goal.at.returns-else-cr c).At-loop-i in
    let it = answered (goal.at.At-loop-i so_far).Start (ends so_far c.if-s-i.true 2 (ap (λ (b : Bool). pick b 1 2) c.if-cr.false)) in
    record { verdict = it.0; claim = it.1; inside = omega arith }

pub returns-then-limit-i : goal.returns-then-limit-i
returns-then-limit-i c =
    let it = answered (goal.at.At-loop-i (so_far (goal.at.returns-then-limit-i c).Joined-c-eq13)).Start (λ k m. dies (goal.at.returns-then-limit-i c).Joined-c-eq13 k m c.if-limit-i.true) in
    record { verdict = it.0; claim = it.1; inside = omega arith }

pub loop-i-smaller : goal.loop-i-smaller
loop-i-smaller c = let h = inside (goal.at.loop-i-smaller c).Joined-c-eq13 in omega arith

pub loop-i-preserved : goal.loop-i-preserved
loop-i-preserved c = (let h = inside (goal.at.loop-i-preserved c).Joined-c-eq13 in omega arith, let h = stays (goal.at.loop-i-preserved c).Joined-c-eq13 in let g = c.if-limit-i.false in omega arith, λ k m. goes (goal.at.loop-i-preserved c).Joined-c-eq13 k m c.if-limit-i.false)

pub returns : goal.returns
returns c =
    let so_far = (goal.at.returns c).At-loop-i in
    let it = answered (goal.at.At-loop-i so_far).Start
    (λ k m.
    sym
    (so_far.loop-i.invariant.2 k m
    ∙ from-done k step_line (least_line m) (whole (goal.at.At-loop-i so_far).Start) so_far.loop-i.i _ 0 c.if-s-i.false
    (lf_ends _ _ _ c.if-cr-2.true c.if-c-eq10.true))) in
    record { verdict = it.0; claim = it.1; inside = omega arith }
