-- `well_formed` goes by what `region` ensures: bytes judged as an area of their own length are accepted exactly if they are well-formed.
use Rattle.std.proofs.Common.{ℕ, ◌≡◌, refl, true, false, List, ◌↔◌, arith, length}
use Rattle.exact.specs.Scans.{present}
use Rattle.exact.specs.declared.Scan.{Scan}
use Rattle.exact.specs.declared.Scan.TheVariants as scan
use Rattle.tlv.specs.Tlv.{WellFormed}
use Rattle.tlv.specs.Whole.{Accepted}
use Rattle.tlv.proofs.Whole.{judged}
use Rattle.tlv.proofs.well_formed.Goals.{After-region}
use Rattle.tlv.proofs.well_formed.Goals as goal

module _ (c : After-region) where
  abbrev area : List ℕ
  area = c.args.s.now

  says : Accepted (present 0 0 c.region.result) ↔ WellFormed area
  says = rw (c.region.ensures.verdict 0 0) (judged 0 0 (length area) area refl)

  denies : (Accepted (present 0 0 c.region.result) → ⊥) → (false ≡ true → WellFormed area) × (WellFormed area → false ≡ true)
  denies not = (λ e. absurd (let z : ◌≡◌ {A = ℕ} 0 1 = cc in omega arith), λ w. absurd (not (says.1 w)))

pub returns-in-Accepted : goal.returns-in-Accepted
returns-in-Accepted c = (λ t. (says (goal.at.returns-in-Accepted c).After-region).0 (rw c.in-Accepted.is tt), λ w. refl)

none : (x : Scan (Unit {0})) → ((a : Unit {0}) (n : ℕ) → x ≡ scan.Accepted a n → ⊥) → Accepted (present 0 0 x) → ⊥
none (scan.Accepted a n) not y = not a n refl
none (scan.More n) not y = y
none (scan.Refused p) not y = y

pub returns-in_default : goal.returns-in_default
returns-in_default c = denies (goal.at.returns-in_default c).After-region (none _ c.in_default.not-Accepted)
