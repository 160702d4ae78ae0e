-- Lemmas on what specs/First.antt defines.
use Rattle.std.specs.Prelude.{◌≡◌, refl, Bool, true, false, List, [], ◌∷◌, ℕ, suc, ◌+◌, ◌≤◌, ◌<◌, eqb, length, take, drop}
use Rattle.std.proofs.Common.{ap, ap₂, ◌∙◌, arith, eqb-true, length-append, take_at}
use Rattle.exact.specs.Pick.{pick}
use Rattle.tlv.specs.Tlv.{Tlv, written, Area}
use Rattle.tlv.proofs.Laws.{written-append}
use Rattle.lookup.specs.Lookup.{index_of_first, start_of, length_of}
use Rattle.lookup.proofs.JoinedLists.{length_second}
use Rattle.lookup.proofs.Laws.{found_there}
use Rattle.lookup.specs.First.{FirstIn}

module _ (type : ℕ) where
  -- an index below the length is that of a first
  pub first_in : (tlvs : List Tlv) → index_of_first type tlvs < length tlvs → FirstIn type tlvs
  first_in [] h = absurd (omega arith)
  first_in (t ∷ rest) h = by (eqb t.type type) refl h (first_in rest)
    where
      by : (c : Bool) → eqb t.type type ≡ c → pick c 0 (suc (index_of_first type rest)) < suc (length rest)
          → (index_of_first type rest < length rest → FirstIn type rest) → FirstIn type (t ∷ rest)
      by true e h behind = record { front = []; tlv = t; rest = rest; split = refl; is = eqb-true t.type type e; index = rw e }
      by false e h behind =
          let f = behind (omega arith) in
          record {
            front = t ∷ f.front;
            tlv = f.tlv;
            rest = f.rest;
            split = ap (λ (l : List Tlv). t ∷ l) f.split;
            is = f.is;
            index = rw e (ap suc f.index);
          }

  module _ (tlvs : List Tlv) (f : FirstIn type tlvs) where
    pub first_start : start_of (index_of_first type tlvs) tlvs ≡ length (written f.front) + 3
    first_start =
        ap₂ (λ (i : ℕ) (l : List Tlv). length (written (take i l)) + 3) f.index f.split
        ∙ ap (λ (l : List Tlv). length (written l) + 3) (take_at f.front (f.tlv ∷ f.rest) (length f.front) refl)

    first_size : length_of (index_of_first type tlvs) tlvs ≡ length f.tlv.value
    first_size =
        let n : length f.front ≡ length f.front + 0 = omega arith in
        ap₂ length_of (f.index ∙ n) f.split ∙ length_second 0 f.front (f.tlv ∷ f.rest)

    pub first_there : (area : List ℕ) → Area area tlvs
        → take (length_of (index_of_first type tlvs) tlvs) (drop (start_of (index_of_first type tlvs) tlvs) area) ≡ f.tlv.value
    first_there area a =
        ap₂ (λ (n m : ℕ). take n (drop m area)) first_size first_start
        ∙ found_there f.front f.tlv f.rest area (a.0 ∙ ap written f.split, rw f.split at a.1)

    pub first_ends : start_of (index_of_first type tlvs) tlvs + length_of (index_of_first type tlvs) tlvs ≤ length (written tlvs)
    first_ends =
        let s = first_start in
        let n = first_size in
        let e = ap (λ (l : List Tlv). length (written l)) f.split in
        let g = ap length (written-append f.front (f.tlv ∷ f.rest)) in
        let h = length-append (written f.front) (written (f.tlv ∷ f.rest)) in
        let k = length-append f.tlv.value (written f.rest) in
        omega arith
