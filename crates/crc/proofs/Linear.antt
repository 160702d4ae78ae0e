-- The bits of a register are linear: a register that is put onto another goes its own way. So a byte, and a run of bytes, can be looked up.
use mathlib.Core.Path.{◌≡◌, refl, sym, ap, ap₂, ◌∙◌}
use mathlib.Core.List.{List, [], ◌∷◌}
use Prim.Native.Nat.{ℕ, zero, suc, ◌+◌, ◌*◌, ◌/◌, ◌%◌, ◌^◌, ◌<◌}
use native.Mathlib.Nat.{mod-lt, mul-one, div-eq_of_lt, zero-lt-suc, zero-add, suc-add}
use native.Mathlib.Omega.{arith}
use lib.ListN.{length}
use lib.Pow.{split, pow_pos}
use lib.Bits.{bit_xor, xor_shr, xor_mod, xor_comm, xor_zero_r, xor_shifted, shifted_half, shifted_even}
use Rattle.crc.specs.Crc.{polynomial, bit, bits, byte, register}
use Rattle.crc.proofs.Xor.{xor_assoc}

-- (a ^ b) ^ (c ^ d) is (a ^ c) ^ (b ^ d)
xor_swap : (a b c d : ℕ) → bit_xor (bit_xor a b) (bit_xor c d) ≡ bit_xor (bit_xor a c) (bit_xor b d)
xor_swap a b c d =
    xor_assoc a b (bit_xor c d)
    ∙ ap (bit_xor a) (sym (xor_assoc b c d) ∙ ap (λ (x : ℕ). bit_xor x d) (xor_comm b c) ∙ xor_assoc c b d)
    ∙ sym (xor_assoc a c (bit_xor b d))

times : (x y : ℕ) → x < 2 → y < 2 → bit_xor x y * polynomial ≡ bit_xor (x * polynomial) (y * polynomial)
times zero zero hx hy = refl
times zero (suc zero) hx hy = refl
times (suc zero) zero hx hy = refl
times (suc zero) (suc zero) hx hy = refl
times zero (suc (suc y)) hx hy = absurd (omega arith)
times (suc zero) (suc (suc y)) hx hy = absurd (omega arith)
times (suc (suc x)) y hx hy = absurd (omega arith)

bit_linear : (a b : ℕ) → bit (bit_xor a b) ≡ bit_xor (bit a) (bit b)
unfolding bit
bit_linear a b =
    ap₂ (λ (x y : ℕ). bit_xor x (y * polynomial)) (xor_shr a b 1) (xor_mod a b 1)
    ∙ ap (bit_xor (bit_xor (a / 2) (b / 2))) (times (a % 2) (b % 2) (mod-lt a (zero-lt-suc 1)) (mod-lt b (zero-lt-suc 1)))
    ∙ xor_swap (a / 2) (b / 2) (a % 2 * polynomial) (b % 2 * polynomial)

bits_linear : (n a b : ℕ) → bits n (bit_xor a b) ≡ bit_xor (bits n a) (bits n b)
unfolding bits
bits_linear zero a b = refl
bits_linear (suc n) a b = ap (bits n) (bit_linear a b) ∙ bits_linear n (bit a) (bit b)

-- where the low bits are clear, the others move right
bits_clear : (k h : ℕ) → bits k (h * 2 ^ k) ≡ h
unfolding bits bit
bits_clear zero h = mul-one h
bits_clear (suc k) h =
    ap₂ (λ (x y : ℕ). bits k (bit_xor x (y * polynomial))) (shifted_half h k) (shifted_even h k)
    ∙ ap (bits k) (xor_zero_r (h * 2 ^ k)) ∙ bits_clear k h

bits-add : (m n a : ℕ) → bits n (bits m a) ≡ bits (m + n) a
unfolding bits
bits-add zero n a = ap (λ (k : ℕ). bits k a) (sym (zero-add n))
bits-add (suc m) n a = bits-add m n (bit a) ∙ ap (λ (k : ℕ). bits k a) (sym (suc-add m n))

-- the k low digits go through all the bits, and the others through those that are left when they have moved down
apart : (k n x : ℕ) → bits (k + n) x ≡ bit_xor (bits (k + n) (x % 2 ^ k)) (bits n (x / 2 ^ k))
apart k n x =
    ap (bits (k + n)) (sym (split x k) ∙ sym (xor_shifted (x / 2 ^ k) k (x % 2 ^ k) (mod-lt x (pow_pos k))))
    ∙ bits_linear (k + n) (x / 2 ^ k * 2 ^ k) (x % 2 ^ k)
    ∙ xor_comm (bits (k + n) (x / 2 ^ k * 2 ^ k)) (bits (k + n) (x % 2 ^ k))
    ∙ ap (bit_xor (bits (k + n) (x % 2 ^ k))) (sym (bits-add k n (x / 2 ^ k * 2 ^ k)) ∙ ap (bits n) (bits_clear k (x / 2 ^ k)))

pub halves : (n x : ℕ) → bits (4 + n) x ≡ bit_xor (bits (4 + n) (x % 16)) (bits n (x / 16))
halves n x = apart 4 n x

-- a byte: eight bits of the register's low byte with b put onto it, and its other bits moved right
pub byte_split : (r b : ℕ) → b < 256 → byte r b ≡ bit_xor (bits 8 (bit_xor r b % 256)) (r / 256)
unfolding byte bits
byte_split r b h =
    apart 8 0 (bit_xor r b)
    ∙ ap (bit_xor (bits 8 (bit_xor r b % 256))) (xor_shr r b 8 ∙ ap (bit_xor (r / 256)) (div-eq_of_lt h) ∙ xor_zero_r (r / 256))

-- what is put onto the register goes its own way through the bytes
pub onto : (a r : ℕ) (bs : List ℕ) → register (bit_xor a r) bs ≡ bit_xor (bits (length bs * 8) a) (register r bs)
unfolding register byte bits
onto a r [] = refl
onto a r (b ∷ bs) =
    let more : 8 + length bs * 8 ≡ suc (length bs) * 8 = omega arith in
    ap (λ (x : ℕ). register x bs) (ap (bits 8) (xor_assoc a r b) ∙ bits_linear 8 a (bit_xor r b))
    ∙ onto (bits 8 a) (byte r b) bs
    ∙ ap (λ (x : ℕ). bit_xor x (register (byte r b) bs)) (bits-add 8 (length bs * 8) a ∙ ap (λ (k : ℕ). bits k a) more)

-- the first byte of a run is looked up at the run's length, and the others go on with the register moved right
run : (r b : ℕ) (bs : List ℕ) → b < 256 → register r (b ∷ bs) ≡ bit_xor (bits (suc (length bs) * 8) (bit_xor r b % 256)) (register (r / 256) bs)
unfolding register
run r b bs h =
    let x = bit_xor r b % 256 in
    let more : 8 + length bs * 8 ≡ suc (length bs) * 8 = omega arith in
    ap (λ (x : ℕ). register x bs) (byte_split r b h)
    ∙ onto (bits 8 x) (r / 256) bs
    ∙ ap (λ (y : ℕ). bit_xor y (register (r / 256) bs)) (bits-add 8 (length bs * 8) x ∙ ap (λ (k : ℕ). bits k x) more)

-- a run of four
four : (r b₀ b₁ b₂ b₃ : ℕ) → r < 2 ^ 32 → b₀ < 256 → b₁ < 256 → b₂ < 256 → b₃ < 256
    → register r (b₀ ∷ b₁ ∷ b₂ ∷ b₃ ∷ [])
    ≡ bit_xor (bits 32 (bit_xor r b₀ % 256)) (bit_xor (bits 24 (bit_xor (r / 256) b₁ % 256))
    (bit_xor (bits 16 (bit_xor (r / 65536) b₂ % 256)) (bits 8 (bit_xor (r / 16777216) b₃ % 256))))
unfolding register
four r b₀ b₁ b₂ b₃ h h₀ h₁ h₂ h₃ =
    let two : r / 256 / 256 ≡ r / 65536 = omega arith in
    let three : r / 256 / 256 / 256 ≡ r / 16777216 = omega arith in
    let all : r / 256 / 256 / 256 / 256 ≡ 0 = omega arith in
    run r b₀ (b₁ ∷ b₂ ∷ b₃ ∷ []) h₀
    ∙ ap (bit_xor (bits 32 (bit_xor r b₀ % 256)))
    (run (r / 256) b₁ (b₂ ∷ b₃ ∷ []) h₁
    ∙ ap (bit_xor (bits 24 (bit_xor (r / 256) b₁ % 256)))
    (run (r / 256 / 256) b₂ (b₃ ∷ []) h₂
    ∙ ap₂ (λ (x y : ℕ). bit_xor (bits 16 (bit_xor x b₂ % 256)) y) two
    (run (r / 256 / 256 / 256) b₃ [] h₃
    ∙ ap₂ (λ (x y : ℕ). bit_xor (bits 8 (bit_xor x b₃ % 256)) y) three all
    ∙ xor_zero_r (bits 8 (bit_xor (r / 16777216) b₃ % 256)))))

-- a run of four, with the bits of `row` bytes after it
pub moved_four : (row r a b c d : ℕ) → r < 2 ^ 32 → a < 256 → b < 256 → c < 256 → d < 256
    → bit_xor (bits ((row + 3 + 1) * 8) (bit_xor r a % 256)) (bit_xor (bits ((row + 2 + 1) * 8) (bit_xor (r / 256) b % 256))
    (bit_xor (bits ((row + 1 + 1) * 8) (bit_xor (r / 65536) c % 256)) (bits ((row + 1) * 8) (bit_xor (r / 16777216) d % 256))))
    ≡ bits (row * 8) (register r (a ∷ b ∷ c ∷ d ∷ []))
moved_four row r a b c d h ha hb hc hd =
    let n = row * 8 in
    let x = bit_xor r a % 256 in
    let y = bit_xor (r / 256) b % 256 in
    let z = bit_xor (r / 65536) c % 256 in
    let w = bit_xor (r / 16777216) d % 256 in
    let p₄ : (row + 3 + 1) * 8 ≡ 32 + row * 8 = omega arith in
    let p₃ : (row + 2 + 1) * 8 ≡ 24 + row * 8 = omega arith in
    let p₂ : (row + 1 + 1) * 8 ≡ 16 + row * 8 = omega arith in
    let p₁ : (row + 1) * 8 ≡ 8 + row * 8 = omega arith in
    let more : (m k v : ℕ) → k ≡ m + n → bits k v ≡ bits n (bits m v) = λ m k v e. ap (λ (u : ℕ). bits u v) e ∙ sym (bits-add m n v) in
    ap₂ bit_xor (more 32 ((row + 3 + 1) * 8) x p₄)
    (ap₂ bit_xor (more 24 ((row + 2 + 1) * 8) y p₃)
    (ap₂ bit_xor (more 16 ((row + 1 + 1) * 8) z p₂) (more 8 ((row + 1) * 8) w p₁)))
    ∙ sym
    (ap (bits n) (four r a b c d h ha hb hc hd)
    ∙ bits_linear n (bits 32 x) (bit_xor (bits 24 y) (bit_xor (bits 16 z) (bits 8 w)))
    ∙ ap (bit_xor (bits n (bits 32 x)))
    (bits_linear n (bits 24 y) (bit_xor (bits 16 z) (bits 8 w))
    ∙ ap (bit_xor (bits n (bits 24 y))) (bits_linear n (bits 16 z) (bits 8 w))))
