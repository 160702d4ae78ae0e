use Rattle.std.proofs.Common.{◌≡◌, refl, sym, ap, ◌∙◌, false, ℕ, ◌-◌, ◌/◌, ◌%◌, ◌^◌, arith, eqb-true, eq-eqb, get_or, below_more}
use Rattle.exact.specs.Pick.{never}
use Rattle.address_bits.proofs.BitTests.{same_tested}
use Rattle.address_bits.proofs.BitLaws.{as_tested, bytes_same, same_whole, same_end}
use Rattle.address_bits.proofs.same_bits.Goals as goal

-- a byte that differs
pub returns-then-byte_at : goal.returns-then-byte_at
returns-then-byte_at c =
    let x = c.args in
    let first : c.byte_at.result ≡ get_or x.one.now c.loop-i.i 0 = c.byte_at.ensures in
    let second : c.byte_at-in-loop-i.result ≡ get_or x.other.now c.loop-i.i 0 = c.byte_at-in-loop-i.ensures in
    as_tested false _ (same_tested x.one.now x.other.now x.bits) (λ e. never e)
    (λ same.
    let is = same_whole x.one.now x.other.now x.bits c.loop-i.i (omega arith) (omega arith) same (omega arith) in
    absurd (c.if-byte_at.true (first ∙ is ∙ sym second)))

pub loop-i-preserved : goal.loop-i-preserved
loop-i-preserved c = below_more _ _ c.loop-i.invariant (sym c.byte_at.ensures ∙ c.if-byte_at.false ∙ c.byte_at-in-loop-i.ensures)

-- all whole bytes are equal: what is left of the bits decides
pub returns : goal.returns
returns c =
    let x = c.args in
    let first : c.byte_at-2.result ≡ get_or x.one.now (x.bits / 8) 0 = c.byte_at-2.ensures in
    let second : c.byte_at-3.result ≡ get_or x.other.now (x.bits / 8) 0 = c.byte_at-3.ensures in
    let quotient : ℕ → ℕ = λ (y : ℕ). y / 2 ^ (8 - x.bits % 8) in
    as_tested _ _ (same_tested x.one.now x.other.now x.bits)
    (λ e.
    bytes_same x.one.now x.other.now x.bits (λ i h. c.loop-i.invariant i (omega arith))
    (ap quotient (sym first) ∙ eqb-true _ _ e ∙ ap quotient second))
    (λ same.
    eq-eqb _ _
    (ap quotient first
    ∙ same_end x.one.now x.other.now x.bits (x.bits / 8) (omega arith) (omega arith) same refl
    ∙ ap quotient (sym second)))
