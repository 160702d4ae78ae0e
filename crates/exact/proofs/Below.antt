-- Lemmas on what specs/Below.antt defines.
use Rattle.std.specs.Prelude.{◌≡◌, refl, Bool, true, false, List, ℕ, zero, suc, ◌<◌, eqb, get_or}
use Rattle.std.proofs.Common.{ap, ◌∙◌, arith, eqb-true}
use Rattle.std.proofs.lemmas.Bool.{eqb-false}
use Rattle.exact.proofs.Pick.{both}
use Rattle.exact.specs.Below.{all_below, table_below}

pub each_below : (test : ℕ → Bool) (n c : ℕ) → all_below test n ≡ true → c < n → test c ≡ true
each_below test zero c all h = absurd (omega arith)
each_below test (suc n) c all h =
    let here = both (test n) (all_below test n) all in by (eqb c n) refl here.0 (λ below. each_below test n c here.1 below)
  where
    by : (b : Bool) → eqb c n ≡ b → test n ≡ true → (c < n → test c ≡ true) → test c ≡ true
    by true e last before = ap test (eqb-true c n e) ∙ last
    by false e last before = let other = eqb-false c n e in before (omega arith)

pub entry_below : (t : List ℕ) (rule : ℕ → ℕ) (n i : ℕ) → table_below t rule n ≡ true → i < n → get_or t i 0 ≡ rule i
entry_below t rule n i all h = eqb-true (get_or t i 0) (rule i) (each_below (λ i. eqb (get_or t i 0) (rule i)) n i all h)
