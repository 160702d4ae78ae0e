-- Lemmas on what specs/Longest.antt defines.
use Rattle.std.specs.Prelude.{◌≡◌, refl, List, [], ◌∷◌, ℕ, zero, suc, ◌≤◌, ◌<◌, take, replicate}
use Rattle.std.proofs.Common.{sym, ap, ap₂, arith, ltb-true, ltb-false}
use Rattle.exact.specs.Pick.{pick, pick_by}
use Rattle.zero_run.specs.declared.Run.{Run}
use Rattle.zero_run.specs.ZeroRun.{zeros_ahead, run_ahead, onward, is_longer, longest_run}
use Rattle.zero_run.specs.Longest.{FirstLongest, ShorterOrLater, Zeros}

-- ── the zeros that come first ──
ahead_zeros : (groups : List ℕ) → take (zeros_ahead groups) groups ≡ replicate (zeros_ahead groups) 0
ahead_zeros [] = refl
ahead_zeros (zero ∷ groups) = ap (λ (gs : List ℕ). 0 ∷ gs) (ahead_zeros groups)
ahead_zeros (suc n ∷ groups) = refl

ahead_most : (n : ℕ) (groups : List ℕ) → take n groups ≡ replicate n 0 → n ≤ zeros_ahead groups
ahead_most zero groups e = omega arith
ahead_most (suc n) [] e = absurd (let z : ◌≡◌ {A = ℕ} 0 1 = cc in omega arith)
ahead_most (suc n) (zero ∷ groups) e = let h = ahead_most n groups cc in omega arith
ahead_most (suc n) (suc m ∷ groups) e = absurd (let z : suc m ≡ 0 = cc in omega arith)

-- ── the longest run ──
pub longer_by : (P : Run → Type 0) (first later : Run) → (first.count < later.count → P later) → (later.count ≤ first.count → P first)
    → P (pick (is_longer first later) later first)
longer_by P first later f g =
    pick_by P (is_longer first later) (λ t. f (ltb-true first.count later.count t)) (λ t. g (ltb-false first.count later.count t))

longest_zeros : (groups : List ℕ) → Zeros groups (longest_run groups)
longest_zeros [] = refl
longest_zeros (g ∷ groups) =
    longer_by (Zeros (g ∷ groups)) (run_ahead (g ∷ groups)) (onward (longest_run groups)) (λ h. longest_zeros groups) (λ h. ahead_zeros (g ∷ groups))

-- another run among a group and those behind it, either at the front or later
module _ (g : ℕ) (groups : List ℕ) (before count : ℕ) where
  first_others : count ≤ zeros_ahead (g ∷ groups) → ShorterOrLater (longest_run (g ∷ groups)) (record { before = 0; count = count })
  first_others few =
      longer_by (λ (run : Run). ShorterOrLater run (record { before = 0; count = count })) (run_ahead (g ∷ groups)) (onward (longest_run groups))
      (λ h. omega arith) (λ h. omega arith)

  later_others : ShorterOrLater (longest_run groups) (record { before = before; count = count })
      → ShorterOrLater (longest_run (g ∷ groups)) (record { before = suc before; count = count })
  later_others rest =
      longer_by (λ (run : Run). ShorterOrLater run (record { before = suc before; count = count })) (run_ahead (g ∷ groups)) (onward (longest_run groups))
      (λ h. (rest.0, λ same. let k = rest.1 same in omega arith)) (λ h. let k = rest.0 in omega arith)

longest_others : (groups : List ℕ) (before count : ℕ) → Zeros groups (record { before = before; count = count })
    → ShorterOrLater (longest_run groups) (record { before = before; count = count })
longest_others [] zero count z = let none = ahead_most count [] z in omega arith
longest_others [] (suc before) count z = let none = ahead_most count [] z in omega arith
longest_others (g ∷ groups) zero count z = first_others g groups 0 count (ahead_most count (g ∷ groups) z)
longest_others (g ∷ groups) (suc before) count z = later_others g groups before count (longest_others groups before count z)

pub longest : (groups : List ℕ) → FirstLongest groups (longest_run groups)
longest groups = record { zeros = longest_zeros groups; others = λ other. longest_others groups other.before other.count }

-- no other run is that
pub longest_only : (groups : List ℕ) (run : Run) → FirstLongest groups run → run ≡ longest_run groups
longest_only groups run w =
    let its = w.others (longest_run groups) (longest_zeros groups) in
    let mine = (longest groups).others run w.zeros in
    let count : run.count ≡ (longest_run groups).count = omega arith in
    let first = its.1 (sym count) in
    let second = mine.1 count in
    ap₂ (λ (before count : ℕ). record { before = before; count = count }) (omega arith) count
