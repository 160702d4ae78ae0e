-- Laws of the values of a type, of TLVs with their checksum taken as zero, and of a header that ends with its TLVs.
use Rattle.std.specs.Prelude.{◌≡◌, refl, Bool, true, false, List, [], ◌∷◌, ◌++◌, ℕ, ◌+◌, ◌-◌, eqb, length, replicate}
use Rattle.std.proofs.Common.{ap, ap₂, ◌∙◌, arith, eq-eqb, ne_eqb, length-append, take_at}
use Rattle.std.proofs.lemmas.Bool.{eqb-false}
use Rattle.exact.specs.Pick.{pick}
use Rattle.tlv.specs.Tlv.{Tlv, written}
use Rattle.crc.specs.Crc.{checksum, stored}
use Rattle.tlv_count.specs.Count.{count_of}
use Rattle.checksum.specs.Checksum.{values_of, zeroed_tlv, zeroed, checksum_of}

pub values_append : (type : ℕ) (a b : List Tlv) → values_of type (a ++ b) ≡ values_of type a ++ values_of type b
values_append type [] b = refl
values_append type (t ∷ a) b = by (eqb t.type type) (values_append type a b)
  where
    by : (c : Bool) → values_of type (a ++ b) ≡ values_of type a ++ values_of type b → pick c (t.value ∷ values_of type (a ++ b)) (values_of type (a ++ b)) ≡ pick c (t.value ∷ values_of type a) (values_of type a) ++ values_of type b
    by true e = ap (λ (l : List (List ℕ)). t.value ∷ l) e
    by false e = e

pub count_values : (type : ℕ) (tlvs : List Tlv) → length (values_of type tlvs) ≡ count_of type tlvs
count_values type [] = refl
count_values type (t ∷ rest) = by (eqb t.type type) (count_values type rest)
  where
    by : (c : Bool) → length (values_of type rest) ≡ count_of type rest
        → length (pick c (t.value ∷ values_of type rest) (values_of type rest)) ≡ pick c 1 0 + count_of type rest
    by true e = omega arith
    by false e = omega arith

pub no_values : {A : Type 0} (l : List A) → length l ≡ 0 → l ≡ []
no_values [] e = refl
no_values (x ∷ l) e = absurd (omega arith)

-- the value of a TLV of the type comes first
pub values_first : (t : Tlv) (rest : List Tlv) (type : ℕ) → t.type ≡ type → values_of type (t ∷ rest) ≡ t.value ∷ values_of type rest
values_first t rest type e = rw (eq-eqb t.type type e)

zeroed-append : (a b : List Tlv) → zeroed (a ++ b) ≡ zeroed a ++ zeroed b
zeroed-append [] b = refl
zeroed-append (t ∷ a) b = ap (λ (l : List Tlv). zeroed_tlv t ∷ l) (zeroed-append a b)

-- the value of a checksum is zeros
sum_zeroed : (t : Tlv) → t.type ≡ 0x03 → zeroed_tlv t ≡ record { type = t.type; value = replicate (length t.value) 0 }
sum_zeroed t is = rw (eq-eqb t.type 0x03 is)

-- any other stays
other_kept : (t : Tlv) → (t.type ≡ 0x03 → ⊥) → zeroed_tlv t ≡ t
other_kept t not = rw (ne_eqb t.type 0x03 not)

-- where no checksum is among them, nothing is taken as zero
zeroed_none : (tlvs : List Tlv) → values_of 0x03 tlvs ≡ [] → zeroed tlvs ≡ tlvs
zeroed_none [] e = refl
zeroed_none (t ∷ rest) e = by (eqb t.type 0x03) refl (zeroed_none rest) e
  where
    by : (c : Bool) → eqb t.type 0x03 ≡ c → (values_of 0x03 rest ≡ [] → zeroed rest ≡ rest)
        → pick c (t.value ∷ values_of 0x03 rest) (values_of 0x03 rest) ≡ [] → zeroed_tlv t ∷ zeroed rest ≡ t ∷ rest
    by true is again e = let n = ap length e in absurd (omega arith)
    by false is again e = ap₂ (λ (x : Tlv) (l : List Tlv). x ∷ l) (other_kept t (eqb-false t.type 0x03 is)) (again e)

-- one checksum among others
pub zeroed_one : (a b : List Tlv) (t : Tlv) → values_of 0x03 a ≡ [] → values_of 0x03 b ≡ [] → t.type ≡ 0x03
    → zeroed (a ++ t ∷ b) ≡ a ++ record { type = t.type; value = replicate (length t.value) 0 } ∷ b
zeroed_one a b t none_before none_after is =
    zeroed-append a (t ∷ b)
    ∙ ap₂ (λ (x y : List Tlv). x ++ zeroed_tlv t ∷ y) (zeroed_none a none_before) (zeroed_none b none_after)
    ∙ ap (λ (u : Tlv). a ++ u ∷ b) (sum_zeroed t is)

-- the checksum of a header by its parts
pub checksum_parts : (body : List ℕ) (tlvs : List Tlv) → checksum_of (body ++ written tlvs) tlvs ≡ stored (checksum (body ++ written (zeroed tlvs)))
checksum_parts body tlvs =
    let size : length body ≡ length (body ++ written tlvs) - length (written tlvs) = let e = length-append body (written tlvs) in omega arith in
    ap (λ (l : List ℕ). stored (checksum (l ++ written (zeroed tlvs)))) (take_at body (written tlvs) _ size)
