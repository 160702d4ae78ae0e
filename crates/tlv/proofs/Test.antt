-- Lemmas on what specs/Test.antt defines.
use Rattle.std.specs.Prelude.{◌≡◌, refl, Bool, true, false, List, ◌↔◌, ℕ, length}
use Rattle.std.proofs.Common.{arith}
use Rattle.exact.specs.Claim.{Verdict, accepted, more, refused}
use Rattle.tlv.specs.Tlv.{WellFormed}
use Rattle.tlv.specs.RegionVerdict.{judge}
use Rattle.tlv.specs.Whole.{Accepted}
use Rattle.tlv.proofs.Whole.{judged}
use Rattle.tlv.specs.Test.{accepts, well_formed}

not_true : false ≡ true → ⊥
not_true e = let z : ◌≡◌ {A = ℕ} 0 1 = cc in omega arith

accepts_by : (v : Verdict ℕ) → (accepts v ≡ true) ↔ Accepted v
unfolding accepts
accepts_by (accepted a n) = (λ e. tt, λ y. refl)
accepts_by (more n) = (not_true, λ y. absurd y)
accepts_by (refused k p) = (not_true, λ y. absurd y)

pub well_formed_tested : (s : List ℕ) → (well_formed s ≡ true) ↔ WellFormed s
unfolding well_formed
well_formed_tested s =
    let by = accepts_by (judge 0 0 (length s) s) in
    let is = judged 0 0 (length s) s refl in
    (λ e. is.0 (by.0 e), λ w. by.1 (is.1 w))

-- an answer that is true exactly of well-formed bytes is the test
module _ (s : List ℕ) where
  not_tested : (c : Bool) → well_formed s ≡ c → (WellFormed s → ⊥) → c ≡ false
  not_tested true e not = absurd (not ((well_formed_tested s).0 e))
  not_tested false e not = refl

  pub ill_formed_tested : (WellFormed s → ⊥) → well_formed s ≡ false
  ill_formed_tested = not_tested (well_formed s) refl

  pub tested_is : (b : Bool) → (b ≡ true → WellFormed s) → (WellFormed s → b ≡ true) → well_formed s ≡ b
  tested_is true right all = (well_formed_tested s).1 (right refl)
  tested_is false right all = ill_formed_tested (λ w. not_true (all w))
