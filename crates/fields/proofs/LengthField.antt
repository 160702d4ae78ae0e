-- Lemmas on what specs/Lengths.antt defines.
use Rattle.std.specs.Prelude.{◌≡◌, refl, Bool, true, false, ◌⊎◌, ℕ, ◌+◌, ◌≤◌, ◌<◌, eqb, leb}
use Rattle.std.proofs.Common.{inl, inr, ⊎_elim, arith, eqb-true, leb-true}
use Rattle.std.proofs.lemmas.Bool.{eqb-false}
use Rattle.exact.specs.Network.{number}
use Rattle.exact.proofs.NumberLemmas.{number16}
use Rattle.exact.specs.Parser.{Parser}
use Rattle.exact.specs.Pick.{pick, pick_by}
use Rattle.fields.specs.Lengths.{bytes_of, fits, lowest}
use Rattle.fields.proofs.Lengths.{either_fits}

-- a length that keeps a rule, of which a is the smallest
module _ (good : ℕ → Bool) (a : ℕ) (small : a < 256) (lowest-good : (h : ℕ) → good (number h (lowest a h)) ≡ true)
    (least : (n : ℕ) → good n ≡ true → a ≤ n)
  where
    pub lowest_small : (h : ℕ) → lowest a h < 256
    lowest_small h = pick_by (λ (c : ℕ). c < 256) (eqb h 0) (λ e. omega arith) (λ e. omega arith)

    pub lowest_best : (h d : ℕ) → d < 256 → good (number h d) ≡ true → number h (lowest a h) ≤ number h d
    lowest_best h d s g =
        pick_by (λ (c : ℕ). number h c ≤ number h d) (eqb h 0)
        (λ e. let none = eqb-true h 0 e in let low = least (number h d) g in omega arith) (λ e. omega arith)

    pub highest_best : (d : ℕ) → d < 256 → number 0 (lowest a 0) ≤ number d (lowest a d)
    highest_best d s = let low = least (number d (lowest a d)) (lowest-good d) in omega arith

    abbrev pub length_field : Parser ℕ bytes_of
    length_field = number16 good 8 bytes_of (λ h. (lowest a h, lowest_small h, lowest-good h, lowest_best h)) (0, omega arith, highest_best)

pub fits_either : (a n : ℕ) → fits a n ≡ true → (n ≡ a) ⊎ (a + 3 ≤ n)
fits_either a n = by (eqb n a) refl
  where
    by : (b : Bool) → eqb n a ≡ b → pick b true (leb (a + 3) n) ≡ true → (n ≡ a) ⊎ (a + 3 ≤ n)
    by true e f = inl (eqb-true n a e)
    by false e f = inr (leb-true (a + 3) n f)

pub fits_least : (a n : ℕ) → fits a n ≡ true → a ≤ n
fits_least a n f = ⊎_elim (λ e. omega arith) (λ h. omega arith) (fits_either a n f)

pub lowest-fits : (a h : ℕ) → a + 3 ≤ 256 → fits a (number h (lowest a h)) ≡ true
lowest-fits a h small =
    either_fits a (number h (lowest a h))
    (pick_by (λ (c : ℕ). (number h c ≡ a) ⊎ (a + 3 ≤ number h c)) (eqb h 0)
    (λ e. let none = eqb-true h 0 e in inl (omega arith)) (λ e. let some = eqb-false h 0 e in inr (omega arith)))
