-- What the value of a hex digit says of the byte.
use Rattle.std.specs.Prelude.{◌≡◌, refl, Bool, true, false, ℕ, ◌+◌, ◌-◌, ◌≤◌, ◌<◌, leb}
use Rattle.std.proofs.Common.{arith, leb-true, le-leb}
use Rattle.std.proofs.lemmas.Bool.{lt-leb}
use Rattle.exact.specs.Pick.{pick, pick_by}
use Rattle.hex_digits.specs.Hex.{among, hex_of}

among_high : (a z c : ℕ) → pick (leb a c) (leb c z) false ≡ true → c ≤ z
among_high a z c =
    pick_by (λ (b : Bool). b ≡ true → c ≤ z) (leb a c) (λ p q. leb-true c z q) (λ p q. let w : ◌≡◌ {A = ℕ} 0 1 = cc in omega arith)

-- a hex digit is a byte
pub hex_byte : (c : ℕ) → hex_of c < 16 → c < 256
unfolding hex_of
hex_byte c =
    let P : ℕ → Type 0 = λ v. v < 16 → c < 256 in
    pick_by P (among "0" "9" c) (λ t h. let w = among_high 48 57 c t in omega arith)
    (λ _.
    pick_by P (among "a" "f" c) (λ t h. let w = among_high 97 102 c t in omega arith)
    (λ _. pick_by P (among "A" "F" c) (λ t h. let w = among_high 65 70 c t in omega arith) (λ t h. omega arith)))

pub hex_most : (c : ℕ) → hex_of c ≤ 16
unfolding hex_of
hex_most c =
    let P : ℕ → Type 0 = λ v. v ≤ 16 in
    pick_by P (among "0" "9" c) (λ t. let w = among_high 48 57 c t in omega arith)
    (λ _.
    pick_by P (among "a" "f" c) (λ t. let w = among_high 97 102 c t in omega arith)
    (λ _. pick_by P (among "A" "F" c) (λ t. let w = among_high 65 70 c t in omega arith) (λ t. omega arith)))

among_yes : (a z c : ℕ) → a ≤ c → c ≤ z → pick (leb a c) (leb c z) false ≡ true
among_yes a z c h k = simp (le-leb a c h, le-leb c z k)

among_no : (a z c : ℕ) → z < c → pick (leb a c) (leb c z) false ≡ false
among_no a z c h = pick_by (λ (b : Bool). b ≡ false) (leb a c) (λ t. lt-leb c z h) (λ t. refl)

module _ (c : ℕ) where
  pub hex_decimal : 48 ≤ c → c ≤ 57 → hex_of c ≡ c - 48
  unfolding hex_of
  hex_decimal h k = simp (among_yes 48 57 c h k)

  pub hex_lower : 97 ≤ c → c ≤ 102 → hex_of c ≡ c - 97 + 10
  unfolding hex_of
  hex_lower h k = simp (among_no 48 57 c (omega arith), among_yes 97 102 c h k)

  pub hex_behind : 102 < c → hex_of c ≡ 16
  unfolding hex_of
  hex_behind h = simp (among_no 48 57 c (omega arith), among_no 97 102 c h, among_no 65 70 c (omega arith))

pub hex_colon : hex_of 58 ≡ 16
unfolding hex_of
hex_colon = refl

pub hex_zero : hex_of 48 ≡ 0
unfolding hex_of
hex_zero = refl
