-- How many bytes decimal text has.
use Rattle.std.specs.Prelude.{List, [], ◌∷◌, ℕ, ◌+◌, ◌*◌, ◌-◌, ◌^◌, ◌≤◌, ◌<◌, length}
use Rattle.std.proofs.Common.{pow-suc, mul-le-mul_right, lt_of_not-le, arith}
use Rattle.std.proofs.Math.Nat.{pow-le-pow_right}
use Rattle.decimal.specs.Decimal.{Digits, Plain, value_on, Decimal}

value_least : (m : ℕ) (f : List ℕ) → m * 10 ^ length f ≤ value_on m f
value_least m [] = omega arith
value_least m (c ∷ f) =
    let h = value_least (m * 10 + (c - 48)) f in
    rw (pow-suc 10 (length f)) (omega arith)

digits_below : (c : ℕ) (f : List ℕ) → Digits (c ∷ f) → Plain (c ∷ f) → (d : ℕ) → 1 ≤ d → value_on 0 (c ∷ f) < 10 ^ d → length (c ∷ f) ≤ d
digits_below c [] digits plain d some below = some
digits_below c (b ∷ f) digits plain d some below =
    lt_of_not-le
    λ (long : d ≤ length (b ∷ f)).
    let least = value_least (0 * 10 + (c - 48)) (b ∷ f) in
    let more = pow-le-pow_right {n = 10} (omega arith) long in
    let low = digits.0.0 in
    let pos : 0 < 0 * 10 + (c - 48) = lt_of_not-le (λ (h : 0 * 10 + (c - 48) ≤ 0). plain (omega arith)) in
    let times = mul-le-mul_right (10 ^ length (b ∷ f)) pos in
    omega arith

-- decimal text up to the bound has at most d digits where the bound is below 10 ^ d
pub decimal_length : (bound : ℕ) (f : List ℕ) (n d : ℕ) → Decimal bound f n → 1 ≤ d → bound < 10 ^ d → length f ≤ d
decimal_length bound [] n d l some below = absurd l.plain
decimal_length bound (c ∷ f) n d l some below =
    digits_below c f l.digits l.plain d some (let v = l.value in let h = l.fits in omega arith)
