-- How far a scan reaches, by the verdict that it tells.
use Rattle.std.specs.Prelude.{◌≡◌, ℕ}
use Rattle.std.proofs.Common.{sym, subst, arith}
use Rattle.exact.specs.Claim.{Verdict}
use Rattle.exact.specs.Scans.{told, Inside}
use Rattle.exact.specs.Verdicts.{Few, Within}
use Rattle.exact.specs.declared.Scan.{Scan}
use Rattle.exact.specs.declared.Scan.TheVariants.{Accepted, More, Refused}

pub told_inside : {A : Type 0} (P : A → Type 0) (n most : ℕ) (x : Scan A) {v : Verdict A} → told 0 0 x ≡ v → Within P n v → Few most v → Inside n most x
told_inside P n most (Accepted a m) e w f = (subst (Within P n) (sym e) w).1
told_inside P n most (More m) e w f = let h = subst (Few most) (sym e) f in omega arith
told_inside P n most (Refused p) e w f = subst (Within P n) (sym e) w
