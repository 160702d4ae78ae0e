-- The text of a number in any base: how it goes on, how long it is, and what holds of its digits.
use Rattle.std.specs.Prelude.{◌≡◌, refl, Bool, true, false, ℕ, zero, suc, ◌+◌, ◌*◌, ◌/◌, ◌%◌, ◌^◌, ◌≤◌, ◌<◌, ltb, length}
use Rattle.std.proofs.Common.{sym, ◌∙◌, subst, div-add-mod', mod-lt, le-div_iff_mul-le, pow-suc, mul-le-mul_right, lt_of_not-le, arith, length-append, lt-ltb, le-ltb, ltb-true, ltb-false}
use Rattle.std.proofs.Math.Path.{ap}
use mathlib.Core.List.{List, [], ◌∷◌, ◌++◌, append-nil}
use Rattle.std.proofs.Math.Nat.{div-lt_self, pow-zero}
use Rattle.std.proofs.Math.Seq.{append_snoc}
use Rattle.exact.specs.Pick.{pick_by}
use Rattle.decimal.specs.Decimal.{Plain}
use Rattle.draft.specs.Numeral.{digit, digits_of, numeral}

module _ (base : ℕ) (two : 2 ≤ base) where
  digits_one : (most n : ℕ) → n < base → digits_of base (suc most) n ≡ digit n ∷ []
  digits_one most n small = simp (lt-ltb n base small)

  digits_more : (most n : ℕ) → base ≤ n → digits_of base (suc most) n ≡ digits_of base most (n / base) ++ digit (n % base) ∷ []
  digits_more most n big = simp (le-ltb n base big)

  less : (n : ℕ) → base ≤ n → n / base < n
  less n big = div-lt_self (omega arith) (omega arith)

  -- more room than is needed changes nothing
  digits_same : (a b n : ℕ) → n < a → n < b → digits_of base a n ≡ digits_of base b n
  digits_same zero b n s t = absurd (omega arith)
  digits_same (suc a) zero n s t = absurd (omega arith)
  digits_same (suc a) (suc b) n s t =
      pick_by (λ (f : List ℕ). f ≡ digits_of base (suc b) n) (ltb n base)
      (λ small. sym (digits_one b n (ltb-true n base small)))
      (λ big.
      let h = ltb-false n base big in
      let l = less n h in
      ap (λ (f : List ℕ). f ++ digit (n % base) ∷ []) (digits_same a b (n / base) (omega arith) (omega arith)) ∙ sym (digits_more b n h))

  pub numeral_one : (n : ℕ) → n < base → numeral base n ≡ digit n ∷ []
  unfolding numeral
  numeral_one n small = digits_one n n small

  pub numeral_more : (n : ℕ) → base ≤ n → numeral base n ≡ numeral base (n / base) ++ digit (n % base) ∷ []
  unfolding numeral
  numeral_more n big =
      let l = less n big in
      digits_more n n big
      ∙ ap (λ (f : List ℕ). f ++ digit (n % base) ∷ []) (digits_same n (suc (n / base)) (n / base) (omega arith) (omega arith))

-- the text f of n, digit by digit
data Spelt (base : ℕ) : List ℕ → ℕ → Type 0 where
  one : (d : ℕ) → d < base → Spelt base (digit d ∷ []) d
  behind : (f : List ℕ) (m d : ℕ) → Spelt base f m → 0 < m → d < base → Spelt base (f ++ digit d ∷ []) (m * base + d)

digit_zero : (d : ℕ) → 0 < d → digit d ≡ 48 → ⊥
digit_zero d some =
    pick_by (λ (c : ℕ). c ≡ 48 → ⊥) (ltb d 10) (λ t e. omega arith) (λ t e. omega arith)

plain_more : (b : ℕ) (f : List ℕ) (c : ℕ) → (b ≡ 48 → ⊥) → Plain (b ∷ (f ++ c ∷ []))
plain_more b [] c other = other
plain_more b (a ∷ f) c other = other

module _ (base : ℕ) (two : 2 ≤ base) where
  spelt_below : (most n : ℕ) → n < most → Spelt base (numeral base n) n
  spelt_below zero n s = absurd (omega arith)
  spelt_below (suc most) n s = by (ltb n base) refl (spelt_below most (n / base))
    where
      by : (b : Bool) → ltb n base ≡ b → (n / base < most → Spelt base (numeral base (n / base)) (n / base)) → Spelt base (numeral base n) n
      by true e rest =
          let small = ltb-true n base e in
          rw (numeral_one base two n small) (one n small)
      by false e rest =
          let big = ltb-false n base e in
          let left = less base two n big in
          let some = (le-div_iff_mul-le {k = base} {x = 1} {y = n} (omega arith)).1 (omega arith) in
          rw (numeral_more base two n big)
          (subst (Spelt base (numeral base (n / base) ++ digit (n % base) ∷ [])) (div-add-mod' n base)
          (behind _ (n / base) (n % base) (rest (omega arith)) some (mod-lt n (omega arith))))

  spelt : (n : ℕ) → Spelt base (numeral base n) n
  spelt n = spelt_below (suc n) n (omega arith)

  spelt_length : {f : List ℕ} {n : ℕ} → Spelt base f n → (k : ℕ) → n < base ^ suc k → length f ≤ suc k
  spelt_length (one d small) k h = omega arith
  spelt_length (behind f m d rest some small) zero h = absurd (let p = mul-le-mul_right base some in let q = rw pow-zero at (pow-suc base 0) in omega arith)
  spelt_length (behind f m d rest some small) (suc k) h =
      let below : m < base ^ suc k =
      lt_of_not-le (λ (over : base ^ suc k ≤ m). let p = mul-le-mul_right base over in let q = pow-suc base (suc k) in omega arith)
      in
      let l = spelt_length rest k below in
      simp length-append (omega arith)

  -- a number below base ^ k has at most k digits
  pub numeral-length : (k n : ℕ) → n < base ^ suc k → length (numeral base n) ≤ suc k
  numeral-length k n h = spelt_length (spelt n) k h

  -- of what all the digits are: All is what P makes of a text
  module _ (P : ℕ → Type 0) (All : List ℕ → Type 0) (none : All []) (more : (c : ℕ) (f : List ℕ) → P c → All f → All (c ∷ f))
      (each : (d : ℕ) → d < base → P (digit d))
    where
      all_onto : {f : List ℕ} {n : ℕ} → Spelt base f n → (g : List ℕ) → All g → All (f ++ g)
      all_onto (one d small) g x = more (digit d) g (each d small) x
      all_onto (behind f m d rest some small) g x = rw (append_snoc f (digit d) g) (all_onto rest (digit d ∷ g) (more (digit d) g (each d small) x))

      pub numeral_all : (n : ℕ) → All (numeral base n)
      numeral_all n = subst All (append-nil (numeral base n)) (all_onto (spelt n) [] none)

  -- of the number that the digits make: value is a digit's, and on m f the number that f makes behind digits that make m
  module _ (value : ℕ → ℕ) (on : ℕ → List ℕ → ℕ) (none : (m : ℕ) → on m [] ≡ m) (more : (m c : ℕ) (f : List ℕ) → on m (c ∷ f) ≡ on (m * base + value c) f)
      (each : (d : ℕ) → d < base → value (digit d) ≡ d)
    where
      value_onto : {f : List ℕ} {n : ℕ} → Spelt base f n → (g : List ℕ) → on 0 (f ++ g) ≡ on n g
      value_onto (one d small) g =
          let e : 0 * base + value (digit d) ≡ d = ap (λ (v : ℕ). 0 * base + v) (each d small) ∙ omega arith in
          more 0 (digit d) g ∙ ap (λ (m : ℕ). on m g) e
      value_onto (behind f m d rest some small) g =
          ap (on 0) (append_snoc f (digit d) g)
          ∙ value_onto rest (digit d ∷ g)
          ∙ more m (digit d) g
          ∙ ap (λ (v : ℕ). on (m * base + v) g) (each d small)

      pub numeral_value : (n : ℕ) → n ≡ on 0 (numeral base n)
      numeral_value n = sym (ap (on 0) (sym (append-nil (numeral base n))) ∙ value_onto (spelt n) [] ∙ none n)

  -- of the first digit: "0" only where the number is 0
  leads : {f : List ℕ} {n : ℕ} → Spelt base f n → (c : ℕ) × (g : List ℕ) × (f ≡ c ∷ g) × (0 < n → c ≡ 48 → ⊥)
  leads (one d small) = (digit d, [], refl, λ some e. digit_zero d some e)
  leads (behind f m d rest some small) =
      let l = leads rest in
      (l.0, l.1 ++ digit d ∷ [], ap (λ (t : List ℕ). t ++ digit d ∷ []) l.2, λ more. l.3 some)

  plain : {f : List ℕ} {n : ℕ} → Spelt base f n → Plain f
  plain (one d small) = tt
  plain (behind f m d rest some small) = let l = leads rest in rw l.2 (plain_more l.0 l.1 (digit d) (l.3 some))

  -- at least one digit, and no "0" before another
  pub numeral_plain : (n : ℕ) → Plain (numeral base n)
  numeral_plain n = plain (spelt n)
