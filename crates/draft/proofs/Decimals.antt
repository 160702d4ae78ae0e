-- What decimal text is, proved of its definition: text that says the number.
use Rattle.std.specs.Prelude.{◌≡◌, refl, ℕ, ◌+◌, ◌-◌, ◌≤◌, ◌<◌}
use Rattle.std.proofs.Common.{arith, lt-ltb}
use Rattle.decimal.specs.Decimal.{Digit, Digits, value_on, Decimal}
use Rattle.draft.specs.Numeral.{digit, decimal_text}
use Rattle.draft.proofs.NumeralLaws.{numeral_all, numeral_value, numeral_plain}

decimal_digit : (d : ℕ) → d < 10 → digit d ≡ 48 + d
decimal_digit d small = simp (lt-ltb d 10 small)

-- over any upper bound that the number keeps
pub decimal_text_lem : (bound n : ℕ) → n ≤ bound → Decimal bound (decimal_text n) n
decimal_text_lem bound n h =
    record {
      digits =
          numeral_all 10 (omega arith) Digit Digits tt (λ c f x y. (x, y))
          (λ d small. let e = decimal_digit d small in (omega arith, omega arith)) n;
      plain = numeral_plain 10 (omega arith) n;
      value =
          numeral_value 10 (omega arith) (λ c. c - 48) value_on (λ m. refl) (λ m c f. refl)
          (λ d small. let e = decimal_digit d small in omega arith) n;
      fits = h;
    }
