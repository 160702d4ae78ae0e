-- Lemmas on what specs/Verdicts.antt defines.
use Rattle.std.specs.Prelude.{◌≡◌, List, [], ◌∷◌, ℕ, suc, ◌≤◌, length, drop}
use Rattle.std.proofs.Common.{sym, subst, arith}
use Rattle.exact.specs.Claim.{Verdict, accepted, more, refused}
use Rattle.exact.specs.Field.{shift, after}
use Rattle.exact.specs.Machine.{Move, go, done, dead, moved, run}
use Rattle.exact.specs.Verdicts.{Few, Keeps, Within}

shift_within : {A : Type 0} (P : A → Type 0) (n : ℕ) (v : Verdict A) → Within P n v → Within P (suc n) (shift 1 v)
shift_within P n (accepted a m) w = let h = w.1 in (w.0, omega arith)
shift_within P n (more m) w = tt
shift_within P n (refused k p) w = omega arith

module _ {Q A : Type 0} (Ok : Q → Type 0) (P : A → Type 0) (k : ℕ) (step : Q → ℕ → Move Q A) (least : Q → ℕ)
    (keeps : (q : Q) (c : ℕ) → Ok q → Keeps Ok P (step q c))
  where
    moved_within : (s : List ℕ) → ((q : Q) → Ok q → Within P (length s) (run k step least s q)) → (m : Move Q A) → Keeps Ok P m
        → Within P (suc (length s)) (moved k m (run k step least s))
    moved_within s rest (go q) ok = shift_within P (length s) (run k step least s q) (rest q ok)
    moved_within s rest (done a) p = (p, omega arith)
    moved_within s rest dead w = omega arith

    pub run_within : (s : List ℕ) (q : Q) → Ok q → Within P (length s) (run k step least s q)
    run_within [] q ok = tt
    run_within (c ∷ s) q ok = moved_within s (run_within s) (step q c) (keeps q c ok)

-- ── a count of at most b ──
pub few_more : {A : Type 0} (b c : ℕ) (v : Verdict A) → b ≤ c → Few b v → Few c v
few_more b c (accepted a n) h f = tt
few_more b c (more n) h f = omega arith
few_more b c (refused k p) h f = tt

pub few_shift : {A : Type 0} (b n : ℕ) (v : Verdict A) → Few b v → Few b (shift n v)
few_shift b n (accepted a m) h = tt
few_shift b n (more m) h = h
few_shift b n (refused k p) h = tt

pub few_after : {A B : Type 0} (b : ℕ) (v : Verdict A) (next : A → List ℕ → Verdict B) (s : List ℕ) → Few b v
    → ((a : A) (t : List ℕ) → Few b (next a t)) → Few b (after v next s)
few_after b (accepted a n) next s h rest = few_shift b n (next a (drop n s)) (rest a (drop n s))
few_after b (more n) next s h rest = h
few_after b (refused k p) next s h rest = tt

module _ {Q A : Type 0} (b k : ℕ) (step : Q → ℕ → Move Q A) (least : Q → ℕ) (most : (q : Q) → least q ≤ b) where
  moved_few : (m : Move Q A) (rest : Q → Verdict A) → ((q : Q) → Few b (rest q)) → Few b (moved k m rest)
  moved_few (go q) rest h = few_shift b 1 (rest q) (h q)
  moved_few (done a) rest h = tt
  moved_few dead rest h = tt

  pub run_few : (s : List ℕ) (q : Q) → Few b (run k step least s q)
  run_few [] q = most q
  run_few (c ∷ s) q = moved_few (step q c) (run k step least s) (run_few s)

-- so a count that is the verdict's is at most b
pub few_count : {A : Type 0} (b : ℕ) {n : ℕ} {v : Verdict A} → more n ≡ v → Few b v → n ≤ b
few_count b e h = subst (Few b) (sym e) h
