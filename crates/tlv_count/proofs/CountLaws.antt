-- Lemmas on what specs/CountLaws.antt defines.
use Rattle.std.specs.Prelude.{◌≡◌, refl, ◌↔◌, ℕ, ◌+◌, eqb}
use Rattle.std.proofs.Common.{sym, ap, ◌∙◌, ⊎_elim, arith, eq-eqb, ne_eqb}
use mathlib.Core.List.Memᴰ
use mathlib.Core.List.{List, [], ◌∷◌, ◌++◌, Memᴰ}
use Rattle.exact.specs.Pick.{pick}
use Rattle.tlv.specs.Tlv.{Tlv}
use Rattle.tlv_count.specs.Count.{count_of}
use Rattle.tlv_count.specs.CountLaws.{Without}

pub count_append : (type : ℕ) (a b : List Tlv) → count_of type (a ++ b) ≡ count_of type a + count_of type b
count_append type [] b = omega arith
count_append type (t ∷ a) b = let e = count_append type a b in omega arith

pub count_none : (type : ℕ) (tlvs : List Tlv) → (count_of type tlvs ≡ 0) ↔ Without type tlvs
count_none type tlvs = (absent type tlvs, none type tlvs)
  where
    absent : (type : ℕ) (tlvs : List Tlv) → count_of type tlvs ≡ 0 → Without type tlvs
    absent type [] e u m is = Memᴰ.not-nil m
    absent type (t ∷ rest) e u m is =
        ⊎_elim
        (λ here.
        let same : t.type ≡ type = sym (ap (λ (x : Tlv). x.type) here) ∙ is in
        let one : ◌≡◌ {A = ℕ} (pick (eqb t.type type) 1 0) 1 = rw (eq-eqb t.type type same) in omega arith)
        (λ there. absent type rest (omega arith) u there is) (Memᴰ.cases_cons m)

    none : (type : ℕ) (tlvs : List Tlv) → Without type tlvs → count_of type tlvs ≡ 0
    none type [] w = refl
    none type (t ∷ rest) w =
        let e : ◌≡◌ {A = ℕ} (pick (eqb t.type type) 1 0) 0 = rw (ne_eqb t.type type (w t (Memᴰ.head refl))) in
        let f = none type rest (λ u m. w u (Memᴰ.tail m)) in omega arith
