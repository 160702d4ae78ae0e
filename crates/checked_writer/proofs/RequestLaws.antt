-- The test of a request says what `RequestFits` says.
use Rattle.std.specs.Prelude.{◌≡◌, true, false, List, ◌↔◌, ℕ, eqb, length}
use Rattle.std.proofs.Common.{sym, ap, ◌∙◌, arith, eqb-true, eq-eqb}
use Rattle.exact.proofs.Pick.{both}
use Rattle.tlv.specs.Test.{well_formed}
use Rattle.tlv.proofs.Test.{well_formed_tested}
use Rattle.tlv.specs.Listed.{tlvs_of}
use Rattle.tlv_count.specs.Count.{count_of, none_test}
use Rattle.record.specs.declared.Kind.{Kind}
use Rattle.record.specs.declared.Kind.TheVariants.{Local, Unspecified, Ip4, Ip6, Unix}
use Rattle.header.specs.Block.{HasAddresses}
use Rattle.checksum.proofs.ChecksumLaws.{count_values, no_values}
use Rattle.checked_writer.specs.Written.{RequestFits, request_test}

none_test_lem : (k : Kind) → HasAddresses k → (area : List ℕ) → (none_test 0x03 area ≡ true) ↔ RequestFits k area
none_test_lem k has area = (
  λ e.
      let t = both (well_formed area) (eqb (count_of 0x03 (tlvs_of area)) 0) e in
      record {
        has = has;
        tlvs = (well_formed_tested area).0 t.0;
        none = no_values _ (count_values 0x03 (tlvs_of area) ∙ eqb-true _ _ t.1);
      },
  λ f.
      rw (
        (well_formed_tested area).1 f.tlvs,
        eq-eqb (count_of 0x03 (tlvs_of area)) 0 (sym (count_values 0x03 (tlvs_of area)) ∙ ap length f.none),
      ),
)

without_addresses : (k : Kind) → (HasAddresses k → ⊥) → (area : List ℕ) → (false ≡ true) ↔ RequestFits k area
without_addresses k not area = (λ e. let z : ◌≡◌ {A = ℕ} 0 1 = cc in absurd (omega arith), λ f. absurd (not f.has))

pub request_test_lem : (k : Kind) (area : List ℕ) → (request_test k area ≡ true) ↔ RequestFits k area
request_test_lem Local area = without_addresses Local (λ x. x) area
request_test_lem Unspecified area = without_addresses Unspecified (λ x. x) area
request_test_lem (Ip4 t) area = none_test_lem (Ip4 t) tt area
request_test_lem (Ip6 t) area = none_test_lem (Ip6 t) tt area
request_test_lem (Unix t) area = none_test_lem (Unix t) tt area
