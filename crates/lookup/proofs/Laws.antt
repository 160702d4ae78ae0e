-- Lemmas on what specs/Laws.antt defines.
use Rattle.std.specs.Prelude.{◌≡◌, refl, Bool, true, false, List, ◌∷◌, ◌++◌, ℕ, suc, ◌+◌, ◌-◌, ◌≤◌, ◌<◌, ltb, leb, length, take, drop}
use Rattle.std.proofs.Common.{ap, ◌∙◌, arith, leb-true, ltb-true, lt-ltb, le-ltb, le-leb, eq-eqb}
use Rattle.std.proofs.Math.Dec.{leb-zero, leb-suc-zero, leb-suc-suc}
use Rattle.std.proofs.Math.Seq.{take-append_seam, drop-append-add}
use Rattle.exact.specs.Pick.{pick, pick_by}
use Rattle.tlv.specs.Tlv.{Tlv, written, Area}
use Rattle.tlv.proofs.Laws.{written-append}
use Rattle.tlv.specs.Listed.{tlvs_of}
use Rattle.tlv.specs.Test.{well_formed}
use Rattle.lookup.specs.Lookup.{absent, gave_up, Lookup, found_at, without, index_of_first, start_of, length_of, lookup_in, lookup_of}
use Rattle.lookup.proofs.JoinedLists.{either}
use Rattle.lookup.specs.Joining.{behind, joined}
use Rattle.lookup.proofs.Joining.{lookup_joined}
use Rattle.lookup.specs.Laws.{Decided}

-- "never examines more than the limit"
module _ (tlvs : List Tlv) (wanted limit : ℕ) where
  abbrev i : ℕ
  i = index_of_first wanted tlvs

  count_by : (a b c : Bool) → ltb i limit ≡ b → leb (length tlvs) limit ≡ c
      → (pick a (pick b (found_at (i + 1) (start_of i tlvs) (length_of i tlvs)) (without gave_up limit)) (pick c (without absent (length tlvs)) (without gave_up limit))).count ≤ limit
  count_by true true c e f = let h : i < limit = ltb-true _ _ e in omega arith
  count_by true false c e f = omega arith
  count_by false b true e f = leb-true _ _ f
  count_by false b false e f = omega arith

  pub count_within : (lookup_in tlvs wanted limit).count ≤ limit
  count_within = count_by (ltb i (length tlvs)) (ltb i limit) (leb (length tlvs) limit) refl refl

pub lookup_within : (area : List ℕ) (wanted limit : ℕ) → (lookup_of area wanted limit).count ≤ limit
lookup_within area wanted limit =
    pick_by (λ (x : Lookup). x.count ≤ limit) (well_formed area) (λ e. count_within (tlvs_of area) wanted limit) (λ e. omega arith)

-- with nothing left of the limit none is examined
pub lookup_out : (t : Tlv) (rest : List Tlv) (wanted : ℕ) → lookup_in (t ∷ rest) wanted 0 ≡ without gave_up 0
lookup_out t rest wanted =
    let i : ℕ = index_of_first wanted (t ∷ rest) in
    simp (leb-suc-zero i, leb-suc-zero (length rest)) (either (ltb i (suc (length rest))) (without gave_up 0))

-- "A larger limit never alters found or absent"
module _ (tlvs : List Tlv) (wanted m n : ℕ) (le : m ≤ n) where
  abbrev at : ℕ → Bool → Bool → Bool → Lookup
  at limit a b c =
      pick a (pick b (found_at (i tlvs wanted m + 1) (start_of (i tlvs wanted m) tlvs) (length_of (i tlvs wanted m) tlvs)) (without gave_up limit))
      (pick c (without absent (length tlvs)) (without gave_up limit))

  larger_by : (a b c : Bool) → ltb (i tlvs wanted m) m ≡ b → leb (length tlvs) m ≡ c → Decided (at m a b c).outcome
      → at n a (ltb (i tlvs wanted m) n) (leb (length tlvs) n) ≡ at m a b c
  larger_by true true c e f d = let h : i tlvs wanted m < m = ltb-true _ _ e in rw (lt-ltb (i tlvs wanted m) n (omega arith))
  larger_by true false c e f d = absurd d
  larger_by false b true e f d = let h : length tlvs ≤ m = leb-true _ _ f in rw (le-leb (length tlvs) n (omega arith))
  larger_by false b false e f d = absurd d

  pub larger_limit : Decided (lookup_in tlvs wanted m).outcome → lookup_in tlvs wanted n ≡ lookup_in tlvs wanted m
  larger_limit = larger_by (ltb (i tlvs wanted m) (length tlvs)) (ltb (i tlvs wanted m) m) (leb (length tlvs) m) refl refl

-- ── "Types such as 0x05 may repeat; the first counts" ──
-- none of the TLVs in front is of that type, and all of them may be examined
pub lookup_absent : (front : List Tlv) (wanted limit : ℕ) → index_of_first wanted front ≡ length front → length front ≤ limit
    → lookup_in front wanted limit ≡ without absent (length front)
lookup_absent front wanted limit none h = simp (none, le-ltb (length front) (length front) (omega arith), le-leb (length front) limit h)

-- then those behind them decide
pub none_passed : (front rest : List Tlv) (wanted limit : ℕ) → index_of_first wanted front ≡ length front → length front ≤ limit
    → lookup_in (front ++ rest) wanted limit ≡ behind (length front) (length (written front)) (lookup_in rest wanted (limit - length front))
none_passed front rest wanted limit none h =
    lookup_joined front rest wanted limit
    ∙ ap (λ (r : Lookup). joined r (length (written front)) (lookup_in rest wanted) limit) (lookup_absent front wanted limit none h)

module _ (front : List Tlv) (t : Tlv) (rest : List Tlv) where
  pub lookup_here : (m : ℕ) → lookup_in (t ∷ rest) t.type (suc m) ≡ found_at 1 3 (length t.value)
  lookup_here m = simp (eq-eqb t.type t.type refl, leb-suc-suc 0 (length rest), leb-suc-suc 0 m, leb-zero (length rest), leb-zero m)

  pub first_counts : (limit : ℕ) → index_of_first t.type front ≡ length front → length front < limit
      → lookup_in (front ++ t ∷ rest) t.type limit ≡ found_at (length front + 1) (length (written front) + 3) (length t.value)
  first_counts limit none h =
      let m : ℕ = limit - length front - 1 in
      let some : limit - length front ≡ suc m = omega arith in
      none_passed front (t ∷ rest) t.type limit none (omega arith)
      ∙ ap (λ (k : ℕ). behind (length front) (length (written front)) (lookup_in (t ∷ rest) t.type k)) some
      ∙ ap (behind (length front) (length (written front))) (lookup_here m)

  -- the value lies where a lookup finds it
  pub found_there : (area : List ℕ) → Area area (front ++ t ∷ rest) → take (length t.value) (drop (length (written front) + 3) area) ≡ t.value
  found_there area a =
      rw (a.0 ∙ written-append front (t ∷ rest), drop-append-add (written front) (written (t ∷ rest)) 3) (take-append_seam t.value (written rest))
