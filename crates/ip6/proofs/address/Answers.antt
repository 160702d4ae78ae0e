-- `address` answers as `begun`: with its groups where an address is accepted, and with none elsewhere.
use Rattle.std.proofs.Common.{◌≡◌, sym, ◌∙◌, List, ℕ, length}
use Rattle.exact.specs.Claim.{Claim}
use Rattle.exact.specs.Ended.{Ended}
use Rattle.exact.proofs.MachineLaws.{from_start}
use Rattle.exact.specs.Machine.{Move, go, done, dead, run}
use Rattle.exact.specs.Verdicts.{Keeps}
use Rattle.exact.proofs.Verdicts.{run_within}
use Rattle.exact.proofs.ScanLaws.{told_inside}
use Rattle.exact.proofs.Theorem.{leaf_claims}
use Rattle.exact.specs.Scans.{told, heard, Inside}
use Rattle.exact.specs.declared.Scan.{Scan}
use Rattle.exact.specs.declared.Scan.TheVariants.{Accepted, More, Refused}
use Rattle.ip6.specs.Address.{Address, Ending}
use Rattle.ip6.specs.Machine.{State, start, least_address, step}
use Rattle.ip6.proofs.Leasts.{address_few}
use Rattle.ip6.specs.Parser.{ip6}
use Rattle.ip6.specs.Answer.{From}
use Rattle.ip6.proofs.address.Goals as goal

whole : {end : ℕ} {s : List ℕ} {t : Scan (Unit {0})} {g : List ℕ} → From end s 0 start t g → (k m : ℕ) → heard k m t g ≡ run k (step end) (least_address m) s start
whole {end} {s} f k m = f.verdict k m ∙ sym (from_start k (step end) (least_address m) s start)

keeps : (m : Move State (List ℕ)) → Keeps (λ q. Unit {0}) (λ a. Unit {0}) m
keeps (go q) = tt
keeps (done a) = tt
keeps dead = tt

abbrev Told : ℕ → List ℕ → Scan (List ℕ) → Type 0
Told end s x = (k m : ℕ) → told k m x ≡ run k (step end) (least_address m) s start

-- a verdict, with its claim and its bounds
answered : (end : ℕ) (s : List ℕ) (x : Scan (List ℕ)) → Told end s x
    → Told end s x × (((k : ℕ) → Ending end → Claim (Ended Address end) (λ u. k) (told k 0 x) s) × Inside (length s) 4 x)
answered end s x verdict = (
  verdict,
  (
    λ k e. let p = ip6 k 0 end e in leaf_claims k (Ended Address end) p.bytes s (verdict k 0) (p.exact s),
    told_inside (λ a. Unit {0}) (length s) 4 x (verdict 0 0)
        (run_within (λ q. Unit {0}) (λ a. Unit {0}) 0 (step end) (least_address 0) (λ q c ok. keeps (step end q c)) s start tt)
        (address_few 0 0 end s),
  ),
)

pub returns-in-Accepted : goal.returns-in-Accepted
returns-in-Accepted c =
    let it = answered _ _ (Accepted _ _) (whole (rw c.in-Accepted.is at c.begun.ensures)) in
    record { verdict = it.0; claim = it.1.0; inside = it.1.1 }

pub returns-in-More : goal.returns-in-More
returns-in-More c =
    let it = answered _ _ (More _) (whole (rw c.in-More.is at c.begun.ensures)) in
    record { verdict = it.0; claim = it.1.0; inside = it.1.1 }

pub returns-in-Refused : goal.returns-in-Refused
returns-in-Refused c =
    let it = answered _ _ (Refused _) (whole (rw c.in-Refused.is at c.begun.ensures)) in
    record { verdict = it.0; claim = it.1.0; inside = it.1.1 }
