-- A lookup one TLV after the other, as a loop over the TLVs of an area has it.
use Rattle.std.specs.Prelude.{◌≡◌, refl, Bool, true, false, List, [], ◌∷◌, ℕ, suc, ◌+◌, ◌-◌, ◌≤◌, ◌<◌, eqb, leb, length}
use Rattle.std.proofs.Common.{sym, ap, ap₂, ◌∙◌, arith, eqb-true, leb-true, leb-false, length-append}
use Rattle.std.proofs.Math.Dec.{leb-zero}
use Rattle.exact.specs.Pick.{pick}
use Rattle.tlv.specs.Tlv.{Tlv, written}
use Rattle.tlv.specs.Test.{well_formed}
use Rattle.tlv.specs.Listed.{tlvs_of}
use Rattle.tlv_step.specs.declared.Tlv.{Tlv as Placed}
use Rattle.tlv_step.specs.Left.{placed, left_from}
use Rattle.lookup.specs.Lookup.{Finding, found, absent, gave_up, refused, Lookup, found_at, without, index_of_first, lookup_in, lookup_of}
use Rattle.lookup.specs.Joining.{behind}
use Rattle.lookup.proofs.Laws.{lookup_out, lookup_here, none_passed}

-- the answer where so many TLVs are examined and these remain
abbrev pub seek : (wanted limit count : ℕ) → List Placed → Lookup
seek wanted limit count [] = without absent count
seek wanted limit count (t ∷ rest) =
    pick (leb limit count) (without gave_up count)
    (pick (eqb t.tlv_type wanted) (found_at (count + 1) t.value.start t.value.size) (seek wanted limit (count + 1) rest))

behind_by : (c d a b : ℕ) (x : Finding) (count start size : ℕ)
    → behind c a (behind d b (record { outcome = x; count = count; start = start; length = size }))
    ≡ behind (c + d) (a + b) (record { outcome = x; count = count; start = start; length = size })
behind_by c d a b found count start size =
    let n : c + (d + count) ≡ c + d + count = omega arith in
    let s : a + (b + start) ≡ a + b + start = omega arith in
    ap₂ (λ (n s : ℕ). found_at n s size) n s
behind_by c d a b absent count start size =
    let n : c + (d + count) ≡ c + d + count = omega arith in ap (λ (n : ℕ). record { outcome = absent; count = n; start = start; length = size }) n
behind_by c d a b gave_up count start size =
    let n : c + (d + count) ≡ c + d + count = omega arith in ap (λ (n : ℕ). record { outcome = gave_up; count = n; start = start; length = size }) n
behind_by c d a b (refused k) count start size =
    let n : c + (d + count) ≡ c + d + count = omega arith in ap (λ (n : ℕ). record { outcome = refused k; count = n; start = start; length = size }) n

behind_behind : (c d a b : ℕ) (r : Lookup) → behind c a (behind d b r) ≡ behind (c + d) (a + b) r
behind_behind c d a b r = behind_by c d a b r.outcome r.count r.start r.length

behind_none : (r : Lookup) → behind 0 0 r ≡ r
behind_none r = by r.outcome
  where
    by : (x : Finding) → behind 0 0 (record { outcome = x; count = r.count; start = r.start; length = r.length })
        ≡ record { outcome = x; count = r.count; start = r.start; length = r.length }
    by found =
        let n : 0 + r.count ≡ r.count = omega arith in let s : 0 + r.start ≡ r.start = omega arith in
        ap₂ (λ (n s : ℕ). found_at n s r.length) n s
    by absent = let n : 0 + r.count ≡ r.count = omega arith in ap (λ (n : ℕ). record { outcome = absent; count = n; start = r.start; length = r.length }) n
    by gave_up = let n : 0 + r.count ≡ r.count = omega arith in ap (λ (n : ℕ). record { outcome = gave_up; count = n; start = r.start; length = r.length }) n
    by (refused k) = let n : 0 + r.count ≡ r.count = omega arith in ap (λ (n : ℕ). record { outcome = refused k; count = n; start = r.start; length = r.length }) n

module _ (wanted limit : ℕ) where
  seek_listed : (count at : ℕ) (tlvs : List Tlv) → count ≤ limit → seek wanted limit count (placed at tlvs) ≡ behind count at (lookup_in tlvs wanted (limit - count))
  seek_listed count at [] h =
      let n : count ≡ count + 0 = omega arith in
      ap (without absent) n ∙ sym (rw (leb-zero (limit - count)))
  seek_listed count at (t ∷ rest) h = by (leb limit count) (eqb t.type wanted) refl refl (seek_listed (count + 1) (at + 3 + length t.value) rest)
    where
      by : (b c : Bool) → leb limit count ≡ b → eqb t.type wanted ≡ c
          → (count + 1 ≤ limit → seek wanted limit (count + 1) (placed (at + 3 + length t.value) rest)
          ≡ behind (count + 1) (at + 3 + length t.value) (lookup_in rest wanted (limit - (count + 1))))
          → pick b (without gave_up count) (pick c (found_at (count + 1) (at + 3) (length t.value)) (seek wanted limit (count + 1) (placed (at + 3 + length t.value) rest)))
          ≡ behind count at (lookup_in (t ∷ rest) wanted (limit - count))
      by true c e f again =
          let out = leb-true limit count e in
          let none : 0 ≡ limit - count = omega arith in
          let n : count ≡ count + 0 = omega arith in
          ap (without gave_up) n
          ∙ ap (behind count at) (sym (lookup_out t rest wanted) ∙ ap (lookup_in (t ∷ rest) wanted) none)
      by false true e f again =
          let more : count < limit = leb-false limit count e in
          let some : suc (limit - count - 1) ≡ limit - count = omega arith in
          ap (behind count at)
          (sym (lookup_here [] t rest (limit - count - 1)) ∙ ap₂ (λ (w m : ℕ). lookup_in (t ∷ rest) w m) (eqb-true t.type wanted f) some)
      by false false e f again =
          let more = leb-false limit count e in
          let v = length-append t.value [] in
          let one : index_of_first wanted (t ∷ []) ≡ 1 = rw f in
          let size : length (written (t ∷ [])) ≡ 3 + length t.value = omega arith in
          let place : at + 3 + length t.value ≡ at + length (written (t ∷ [])) = omega arith in
          let left : limit - (count + 1) ≡ limit - count - 1 = omega arith in
          again (omega arith)
          ∙ ap₂ (λ (a m : ℕ). behind (count + 1) a (lookup_in rest wanted m)) place left
          ∙ sym (behind_behind count 1 at (length (written (t ∷ []))) (lookup_in rest wanted (limit - count - 1)))
          ∙ ap (behind count at) (sym (none_passed (t ∷ []) rest wanted (limit - count) one (omega arith)))

  -- so from the first TLV of an area
  pub seek_all : (area : List ℕ) → well_formed area ≡ true → seek wanted limit 0 (left_from area 0) ≡ lookup_of area wanted limit
  seek_all area w =
      let all : limit - 0 ≡ limit = omega arith in
      rw w (seek_listed 0 0 (tlvs_of area) (omega arith) ∙ behind_none (lookup_in (tlvs_of area) wanted (limit - 0)) ∙ ap (lookup_in (tlvs_of area) wanted) all)
