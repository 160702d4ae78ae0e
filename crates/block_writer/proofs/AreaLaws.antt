-- The test of an area says what `AreaFits` says.
use Rattle.std.specs.Prelude.{◌≡◌, true, List, [], ◌↔◌, ℕ, eqb, length}
use Rattle.std.proofs.Common.{ap, eqb-true, eq-eqb}
use Rattle.tlv.specs.Tlv.{WellFormed}
use Rattle.tlv.proofs.RegionLeaf.{no_bytes}
use Rattle.tlv.specs.Test.{well_formed}
use Rattle.tlv.proofs.Test.{well_formed_tested}
use Rattle.record.specs.declared.Kind.{Kind}
use Rattle.record.specs.declared.Kind.TheVariants.{Local, Unspecified, Ip4, Ip6, Unix}
use Rattle.block_writer.specs.Areas.{AreaFits, area_test}

empty_test : (area : List ℕ) → (eqb (length area) 0 ≡ true) ↔ (WellFormed area × ((⊥ → ⊥) → area ≡ []))
empty_test area = (
  λ e. let empty = no_bytes area (eqb-true (length area) 0 e) in (([], (empty, tt)), λ n. empty),
  λ w. eq-eqb (length area) 0 (ap length (w.1 (λ x. x))),
)

filled_test : (area : List ℕ) → (well_formed area ≡ true) ↔ (WellFormed area × ((Unit {0} → ⊥) → area ≡ []))
filled_test area = (λ e. ((well_formed_tested area).0 e, λ n. absurd (n tt)), λ w. (well_formed_tested area).1 w.0)

pub area_test_lem : (k : Kind) (area : List ℕ) → (area_test k area ≡ true) ↔ AreaFits k area
area_test_lem Local area = empty_test area
area_test_lem Unspecified area = empty_test area
area_test_lem (Ip4 t) area = filled_test area
area_test_lem (Ip6 t) area = filled_test area
area_test_lem (Unix t) area = filled_test area
