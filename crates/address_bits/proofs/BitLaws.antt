-- Lemmas on what specs/BitLaws.antt defines.
use Rattle.std.specs.Prelude.{◌≡◌, refl, Bool, true, false, List, ◌↔◌, ℕ, zero, suc, ◌+◌, ◌-◌, ◌*◌, ◌/◌, ◌%◌, ◌^◌, ◌≤◌, ◌<◌, leb, get_or}
use Rattle.std.proofs.Common.{sym, ap, ◌∙◌, arith, leb-true, leb-false, shr-shr}
use Rattle.std.proofs.lemmas.Nat.{mod-pow-add}
use Rattle.exact.specs.Pick.{never}
use Rattle.address_bits.specs.Bits.{bit_at, SameBits, ClearBits}
use Rattle.address_bits.specs.BitLaws.{bit}

-- an answer that is true exactly where a test is
pub as_tested : {P : Type 0} (r t : Bool) → (t ≡ true) ↔ P → (r ≡ true → P) → (P → r ≡ true) → r ≡ t
as_tested true t tested right all = sym (tested.1 (right refl))
as_tested false true tested right all = never (all (tested.0 refl))
as_tested false false tested right all = refl

-- ── the first bits ──
-- a quotient with one bit less
half : (x k : ℕ) → k < 8 → x / 2 ^ (8 - k) ≡ x / 2 ^ (7 - k) / 2
half x k h =
    let e : 8 - k ≡ 7 - k + 1 = omega arith in
    ap (λ (m : ℕ). x / 2 ^ m) e ∙ sym (shr-shr x (7 - k) 1)

module _ (x y : ℕ) where
  pub first_bits : (k : ℕ) → k ≤ 8 → x / 2 ^ (8 - k) ≡ y / 2 ^ (8 - k) → (j : ℕ) → j < k → bit x j ≡ bit y j
  first_bits zero h e j l = absurd (omega arith)
  first_bits (suc k) h e j l =
      let place : 8 - suc k ≡ 7 - k = omega arith in
      let same : x / 2 ^ (7 - k) ≡ y / 2 ^ (7 - k) = rw place at e in
      let front = half x k (omega arith) ∙ ap (λ (q : ℕ). q / 2) same ∙ sym (half y k (omega arith)) in
      by (leb k j) refl same (λ g. first_bits k (omega arith) front j g)
    where
      by : (c : Bool) → leb k j ≡ c → x / 2 ^ (7 - k) ≡ y / 2 ^ (7 - k) → (j < k → bit x j ≡ bit y j) → bit x j ≡ bit y j
      by true c same before =
          let at : j ≡ k = let g = leb-true k j c in omega arith in
          rw at (ap (λ (q : ℕ). q % 2) same)
      by false c same before = before (leb-false k j c)

  pub by_first_bits : (k : ℕ) → k ≤ 8 → x < 256 → y < 256 → ((j : ℕ) → j < k → bit x j ≡ bit y j) → x / 2 ^ (8 - k) ≡ y / 2 ^ (8 - k)
  by_first_bits zero h s t all = omega arith
  by_first_bits (suc k) h s t all =
      let place : 8 - suc k ≡ 7 - k = omega arith in
      let front = by_first_bits k (omega arith) s t (λ j l. all j (omega arith)) in
      let last = all k (omega arith) in
      let p = half x k (omega arith) in
      let q = half y k (omega arith) in
      rw place (omega arith)

  -- all eight
  pub same_byte : x < 256 → y < 256 → ((j : ℕ) → j < 8 → bit x j ≡ bit y j) → x ≡ y
  same_byte s t all = let e = by_first_bits 8 (omega arith) s t all in omega arith

-- ── the last bits ──
pub power : (m : ℕ) → 0 < 2 ^ m
power zero = omega arith
power (suc m) = let h = power m in omega arith

module _ (x : ℕ) where
  one_more : (m : ℕ) → x % 2 ^ suc m ≡ x / 2 ^ m % 2 * 2 ^ m + x % 2 ^ m
  one_more m = let e : suc m ≡ 1 + m = omega arith in ap (λ (k : ℕ). x % 2 ^ k) e ∙ mod-pow-add x 1 m

  -- a remainder is zero exactly if none of its bits is set
  last_zero : (m : ℕ) → x % 2 ^ m ≡ 0 → (j : ℕ) → j < m → x / 2 ^ j % 2 ≡ 0
  last_zero zero e j h = absurd (omega arith)
  last_zero (suc m) e j h =
      let sum = one_more m in
      by (leb m j) refl (bit_zero (x / 2 ^ m % 2) (omega arith)) (λ g. last_zero m (omega arith) j g)
    where
      bit_zero : (b : ℕ) → b * 2 ^ m ≡ 0 → b ≡ 0
      bit_zero zero e = refl
      bit_zero (suc b) e = let p = power m in absurd (omega arith)

      by : (c : Bool) → leb m j ≡ c → x / 2 ^ m % 2 ≡ 0 → (j < m → x / 2 ^ j % 2 ≡ 0) → x / 2 ^ j % 2 ≡ 0
      by true c this rest = let at : j ≡ m = let g = leb-true m j c in omega arith in rw at this
      by false c this rest = rest (leb-false m j c)

  zero_last : (m : ℕ) → ((j : ℕ) → j < m → x / 2 ^ j % 2 ≡ 0) → x % 2 ^ m ≡ 0
  zero_last zero all = omega arith
  zero_last (suc m) all =
      let this = all m (omega arith) in
      let rest = zero_last m (λ j h. all j (omega arith)) in
      one_more m ∙ rw (this, rest) (omega arith)

  -- the bits of a byte from bit k on
  pub last_bits : (k : ℕ) → x % 2 ^ (8 - k) ≡ 0 → (j : ℕ) → k ≤ j → j < 8 → bit x j ≡ 0
  last_bits k e j h l = last_zero (8 - k) e (7 - j) (omega arith)

  pub by_last_bits : (k : ℕ) → ((j : ℕ) → k ≤ j → j < 8 → bit x j ≡ 0) → x % 2 ^ (8 - k) ≡ 0
  by_last_bits k all =
      zero_last (8 - k)
      (λ j h.
      let place : 7 - (7 - j) ≡ j = omega arith in
      ap (λ (m : ℕ). x / 2 ^ m % 2) (sym place) ∙ all (7 - j) (omega arith) (omega arith))

-- ── addresses ──
-- bit j of byte i
bit_place : (s : List ℕ) (i j : ℕ) → j < 8 → bit_at s (i * 8 + j) ≡ bit (get_or s i 0) j
bit_place s i j h =
    let byte : (i * 8 + j) / 8 ≡ i = omega arith in
    let place : (i * 8 + j) % 8 ≡ j = omega arith in
    rw (byte, place)

module _ (s t : List ℕ) (b : ℕ) where
  -- equal whole bytes, and equal first bits in the byte in which the prefix ends
  pub bytes_same : ((i : ℕ) → i < b / 8 → get_or s i 0 ≡ get_or t i 0) → get_or s (b / 8) 0 / 2 ^ (8 - b % 8) ≡ get_or t (b / 8) 0 / 2 ^ (8 - b % 8)
      → SameBits b s t
  bytes_same whole end i h = by (leb (b / 8) (i / 8)) refl
    where
      by : (c : Bool) → leb (b / 8) (i / 8) ≡ c → bit_at s i ≡ bit_at t i
      by true c =
          let at : i / 8 ≡ b / 8 = let g = leb-true (b / 8) (i / 8) c in omega arith in
          rw at (first_bits (get_or s (b / 8) 0) (get_or t (b / 8) 0) (b % 8) (omega arith) end (i % 8) (omega arith))
      by false c = ap (λ (x : ℕ). bit x (i % 8)) (whole (i / 8) (leb-false (b / 8) (i / 8) c))

module _ (s t : List ℕ) (b i : ℕ) (small-s : get_or s i 0 < 256) (small-t : get_or t i 0 < 256) (same : SameBits b s t) where
  -- the bits of byte i
  same_at : (j : ℕ) → j < 8 → i * 8 + j < b → bit (get_or s i 0) j ≡ bit (get_or t i 0) j
  same_at j h l = sym (bit_place s i j h) ∙ same (i * 8 + j) l ∙ bit_place t i j h

  pub same_whole : i < b / 8 → get_or s i 0 ≡ get_or t i 0
  same_whole h = same_byte (get_or s i 0) (get_or t i 0) small-s small-t (λ j l. same_at j l (omega arith))

  pub same_end : i ≡ b / 8 → get_or s i 0 / 2 ^ (8 - b % 8) ≡ get_or t i 0 / 2 ^ (8 - b % 8)
  same_end e =
      by_first_bits (get_or s i 0) (get_or t i 0) (b % 8) (omega arith) small-s small-t (λ j l. same_at j (omega arith) (omega arith))

module _ (s : List ℕ) (b : ℕ) where
  -- no bit behind the prefix in the byte in which it ends, and zero bytes behind
  pub bytes_clear : get_or s (b / 8) 0 % 2 ^ (8 - b % 8) ≡ 0 → ((i : ℕ) → b / 8 < i → i < 16 → get_or s i 0 ≡ 0) → ClearBits b s
  bytes_clear end behind i h l = by (leb (i / 8) (b / 8)) refl
    where
      by : (c : Bool) → leb (i / 8) (b / 8) ≡ c → bit_at s i ≡ 0
      by true c =
          let at : i / 8 ≡ b / 8 = let g = leb-true (i / 8) (b / 8) c in omega arith in
          rw at (last_bits (get_or s (b / 8) 0) (b % 8) end (i % 8) (omega arith) (omega arith))
      by false c =
          let zeros = behind (i / 8) (leb-false (i / 8) (b / 8) c) (omega arith) in
          last_bits (get_or s (i / 8) 0) 0 (omega arith) (i % 8) (omega arith) (omega arith)

  module _ (clear : ClearBits b s) (i : ℕ) (h : i < 16) where
    pub clear_end : i ≡ b / 8 → get_or s i 0 % 2 ^ (8 - b % 8) ≡ 0
    clear_end e =
        by_last_bits (get_or s i 0) (b % 8) (λ j l k. sym (bit_place s i j k) ∙ clear (i * 8 + j) (omega arith) (omega arith))

    pub clear_behind : b / 8 < i → get_or s i 0 < 256 → get_or s i 0 ≡ 0
    clear_behind l small =
        let e = by_last_bits (get_or s i 0) 0 (λ j g k. sym (bit_place s i j k) ∙ clear (i * 8 + j) (omega arith) (omega arith)) in omega arith
