-- The tests of bits say what they are named for.
use Rattle.std.specs.Prelude.{◌≡◌, refl, Bool, true, false, List, ◌↔◌, ℕ, zero, suc, ◌+◌, ◌-◌, ◌<◌, eqb}
use Rattle.std.proofs.Common.{sym, ap, ◌∙◌, arith, eqb-true, eq-eqb}
use Rattle.std.proofs.lemmas.Bool.{eqb-false}
use Rattle.exact.proofs.Pick.{both}
use Rattle.address_bits.specs.Bits.{bit_at, SameBits, ClearBits, same_bits, zero_bits, clear_bits}

-- an index below suc b is b or below it
below : (P : ℕ → Type 0) (b : ℕ) → P b → ((i : ℕ) → i < b → P i) → (i : ℕ) → i < suc b → P i
below P b last front i h = by (eqb i b) refl
  where
    by : (c : Bool) → eqb i b ≡ c → P i
    by true e = rw (eqb-true i b e) last
    by false e = let other = eqb-false i b e in front i (omega arith)

module _ (one other : List ℕ) where
  same_bits_lem : (b : ℕ) → same_bits b one other ≡ true → SameBits b one other
  same_bits_lem zero e i h = absurd (omega arith)
  same_bits_lem (suc b) e i h =
      let t = both (eqb (bit_at one b) (bit_at other b)) (same_bits b one other) e in
      below (λ (i : ℕ). bit_at one i ≡ bit_at other i) b (eqb-true (bit_at one b) (bit_at other b) t.0) (same_bits_lem b t.1) i h

  bits_same : (b : ℕ) → SameBits b one other → same_bits b one other ≡ true
  bits_same zero s = refl
  bits_same (suc b) s =
      rw (eq-eqb (bit_at one b) (bit_at other b) (s b (omega arith)), bits_same b (λ i h. s i (omega arith)))

  pub same_tested : (b : ℕ) → (same_bits b one other ≡ true) ↔ SameBits b one other
  same_tested b = (same_bits_lem b, bits_same b)

module _ (address : List ℕ) (b : ℕ) where
  zero_bits_lem : (n : ℕ) → zero_bits b n address ≡ true → (j : ℕ) → j < n → bit_at address (b + j) ≡ 0
  zero_bits_lem zero e j h = absurd (omega arith)
  zero_bits_lem (suc n) e j h =
      let t = both (eqb (bit_at address (b + n)) 0) (zero_bits b n address) e in
      below (λ (j : ℕ). bit_at address (b + j) ≡ 0) n (eqb-true (bit_at address (b + n)) 0 t.0) (zero_bits_lem n t.1) j h

  bits_zero : (n : ℕ) → ((j : ℕ) → j < n → bit_at address (b + j) ≡ 0) → zero_bits b n address ≡ true
  bits_zero zero z = refl
  bits_zero (suc n) z =
      rw (eq-eqb (bit_at address (b + n)) 0 (z n (omega arith)), bits_zero n (λ j h. z j (omega arith)))

  pub clear_tested : (clear_bits b address ≡ true) ↔ ClearBits b address
  clear_tested = (
    λ e i h k.
        let place : b + (i - b) ≡ i = omega arith in
        ap (bit_at address) (sym place) ∙ zero_bits_lem (128 - b) e (i - b) (omega arith),
    λ c. bits_zero (128 - b) (λ j h. c (b + j) (omega arith) (omega arith)),
  )
