use Rattle.std.proofs.Common.{◌≡◌, refl, sym, ap₂, ◌∙◌, true, false, List, ℕ, ◌-◌, ◌*◌, ◌/◌, ◌%◌, ◌^◌, ◌≤◌, ◌<◌, arith, get_or, shl_exact, below_more}
use Rattle.exact.specs.Pick.{never}
use Rattle.address_bits.proofs.BitTests.{clear_tested}
use Rattle.address_bits.proofs.BitLaws.{as_tested, power, bytes_clear, clear_end, clear_behind}
use Rattle.address_bits.proofs.clear_bits.Goals as goal

-- a power of two in sixteen bits
unit : (k : ℕ) → k ≤ 8 → 1 * 2 ^ k % 65536 ≡ 2 ^ k
unit k h = let e = shl_exact {a = 1} 1 k 16 (omega arith) (omega arith) in let one : 1 * 2 ^ k ≡ 2 ^ k = omega arith in e ∙ one

unit_some : (k : ℕ) → k ≤ 8 → 0 < 1 * 2 ^ k % 65536
unit_some k h = rw (unit k h) (power k)

-- no prefix is longer than an address
pub returns-then-bits-ge128 : goal.returns-then-bits-ge128
returns-then-bits-ge128 c =
    let x = c.args in
    as_tested true _ (clear_tested x.address.now x.bits) (λ e i h l. absurd (omega arith)) (λ clear. refl)

module _ (address : List ℕ) (bits y : ℕ) (first : y ≡ get_or address (bits / 8) 0) where
  end : y % (1 * 2 ^ (8 - bits % 8) % 65536) ≡ get_or address (bits / 8) 0 % 2 ^ (8 - bits % 8)
  end = ap₂ (λ (x m : ℕ). x % m) first (unit (8 - bits % 8) (omega arith))

pub nonzero_rem-byte_at : goal.nonzero_rem-byte_at
nonzero_rem-byte_at c = unit_some _ (omega arith)

pub returns-then-byte_at-behind-ne0 : goal.returns-then-byte_at-behind-ne0
returns-then-byte_at-behind-ne0 c =
    let s = c.args.address.now in
    let bits = c.args.bits in
    as_tested false _ (clear_tested s bits) (λ e. never e)
    (λ clear. absurd (c.if-byte_at-behind-ne0.true (end s bits c.byte_at.result c.byte_at.ensures ∙ clear_end s bits clear (bits / 8) (omega arith) refl)))

pub returns-then-byte_at-ne0 : goal.returns-then-byte_at-ne0
returns-then-byte_at-ne0 c =
    let s = c.args.address.now in
    let e : c.byte_at-in-loop-i.result ≡ get_or s c.loop-i.i 0 = c.byte_at-in-loop-i.ensures in
    as_tested false _ (clear_tested s c.args.bits) (λ e. never e)
    (λ clear. absurd (c.if-byte_at-ne0.true (e ∙ clear_behind s c.args.bits clear c.loop-i.i (omega arith) (omega arith) (omega arith))))

pub loop-i-preserved : goal.loop-i-preserved
loop-i-preserved c = below_more _ _ c.loop-i.invariant (λ more. sym c.byte_at-in-loop-i.ensures ∙ c.if-byte_at-ne0.false)

pub returns : goal.returns
returns c =
    let s = c.args.address.now in
    let bits = c.args.bits in
    let last = sym (end s bits c.byte_at.result c.byte_at.ensures) ∙ c.if-byte_at-behind-ne0.false in
    as_tested true _ (clear_tested s bits)
    (λ e. bytes_clear s bits last (λ i more less. c.loop-i.invariant i (omega arith) more)) (λ clear. refl)
