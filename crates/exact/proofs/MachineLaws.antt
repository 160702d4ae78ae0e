-- Lemmas on what specs/MachineLaws.antt defines.
use Rattle.std.specs.Prelude.{◌≡◌, refl, List, ℕ, ◌+◌, ◌≤◌, ◌<◌, length, drop, get_or}
use Rattle.std.proofs.Common.{sym, ap, ◌∙◌, add-one, arith, drop_of_length-le, drop-cons}
use Rattle.exact.specs.Claim.{Verdict, accepted, more, refused}
use Rattle.exact.specs.Field.{shift}
use Rattle.exact.specs.Machine.{Move, go, done, dead, moved, run, from}

pub shift-shift : {A : Type 0} (i j : ℕ) (v : Verdict A) → shift i (shift j v) ≡ shift (i + j) v
shift-shift i j (accepted a n) = ap (λ (m : ℕ). accepted a m) (omega arith)
shift-shift i j (more n) = refl
shift-shift i j (refused k p) = ap (λ (m : ℕ). refused k m) (omega arith)

pub shift_zero : {A : Type 0} (v : Verdict A) → shift 0 v ≡ v
shift_zero (accepted a n) = ap (λ (m : ℕ). accepted a m) (omega arith)
shift_zero (more n) = refl
shift_zero (refused k p) = ap (λ (m : ℕ). refused k m) (omega arith)

module _ {Q A : Type 0} (k : ℕ) (step : Q → ℕ → Move Q A) (least : Q → ℕ) (s : List ℕ) where
  pub from_start : (q : Q) → run k step least s q ≡ from k step least s 0 q
  from_start q = sym (shift_zero (run k step least s q))

  pub from_end : (i : ℕ) (q : Q) → length s ≤ i → from k step least s i q ≡ more (least q)
  from_end i q h = rw (drop_of_length-le s h)

  from_step : (i : ℕ) (q : Q) → i < length s → from k step least s i q ≡ shift i (moved k (step q (get_or s i 0)) (run k step least (drop (i + 1) s)))
  from_step i q h = rw (add-one, drop-cons s i 0 h)

  pub from-go : (i : ℕ) (q p : Q) → i < length s → step q (get_or s i 0) ≡ go p → from k step least s i q ≡ from k step least s (i + 1) p
  from-go i q p h e = from_step i q h ∙ rw e (shift-shift i 1 (run k step least (drop (i + 1) s) p))

  pub from-done : (i : ℕ) (q : Q) (a : A) → i < length s → step q (get_or s i 0) ≡ done a → from k step least s i q ≡ accepted a (i + 1)
  from-done i q a h e = from_step i q h ∙ rw e

  pub from-dead : (i : ℕ) (q : Q) → i < length s → step q (get_or s i 0) ≡ dead → from k step least s i q ≡ refused k i
  from-dead i q h e = from_step i q h ∙ rw e (ap (λ (m : ℕ). refused k m) (omega arith))
