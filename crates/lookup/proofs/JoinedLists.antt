-- A lookup in joined lists of TLVs, by its tests: which TLV is the first of a type, where its value starts, and its length.
use Rattle.std.specs.Prelude.{◌≡◌, refl, Bool, true, false, List, [], ◌∷◌, ◌++◌, ℕ, zero, suc, ◌+◌, ◌<◌, eqb, ltb, leb, length, take}
use Rattle.std.proofs.Common.{ap, ap₂, ◌∙◌, arith, ltb-true, leb-true, leb-false, lt-ltb, le-ltb, le-leb, length-append}
use Rattle.std.proofs.lemmas.Bool.{lt-leb}
use Rattle.std.proofs.Math.Dec.{leb-suc-suc}
use Rattle.std.proofs.lemmas.List.{take-append-le}
use Rattle.std.proofs.Math.Seq.{take-append-add}
use Rattle.exact.specs.Pick.{pick}
use Rattle.tlv.specs.Tlv.{Tlv, written}
use Rattle.tlv.proofs.Laws.{written-append}
use Rattle.lookup.specs.Lookup.{absent, gave_up, found_at, without, index_of_first, start_of, length_of, lookup_by, lookup_in}

pub either : {T : Type 0} (c : Bool) (x : T) → pick c x x ≡ x
either true x = refl
either false x = refl

suc-pick : (c : Bool) (m n : ℕ) → suc (pick c m n) ≡ pick c (suc m) (suc n)
suc-pick true m n = refl
suc-pick false m n = refl

-- tests of numbers that are both greater by n
leb_moved : (n x y : ℕ) → leb (n + x) (n + y) ≡ leb x y
leb_moved n x y = by (leb x y) refl
  where
    by : (c : Bool) → leb x y ≡ c → leb (n + x) (n + y) ≡ c
    by true e = let h = leb-true x y e in le-leb (n + x) (n + y) (omega arith)
    by false e = let h = leb-false x y e in lt-leb (n + x) (n + y) (omega arith)

ltb_moved : (n x y : ℕ) → ltb (n + x) (n + y) ≡ ltb x y
ltb_moved n x y = let e : suc (n + x) ≡ n + suc x = omega arith in ap (λ (z : ℕ). leb z (n + y)) e ∙ leb_moved n (suc x) y

-- ── the first of a type: that of the one list, or else that of the other behind it ──
pub first_joined : (wanted : ℕ) (a b : List Tlv)
    → index_of_first wanted (a ++ b) ≡ pick (ltb (index_of_first wanted a) (length a)) (index_of_first wanted a) (length a + index_of_first wanted b)
first_joined wanted [] b = omega arith
first_joined wanted (t ∷ a) b = by (eqb t.type wanted) (first_joined wanted a b)
  where
    by : (c : Bool) → index_of_first wanted (a ++ b) ≡ pick (ltb (index_of_first wanted a) (length a)) (index_of_first wanted a) (length a + index_of_first wanted b)
        → pick c 0 (suc (index_of_first wanted (a ++ b)))
        ≡ pick (ltb (pick c 0 (suc (index_of_first wanted a))) (suc (length a))) (pick c 0 (suc (index_of_first wanted a))) (suc (length a) + index_of_first wanted b)
    by true again = rw (lt-ltb 0 (suc (length a)) (omega arith))
    by false again =
        let n : suc (length a + index_of_first wanted b) ≡ suc (length a) + index_of_first wanted b = omega arith in
        ap suc again
        ∙ suc-pick (ltb (index_of_first wanted a) (length a)) (index_of_first wanted a) (length a + index_of_first wanted b)
        ∙ (rw (leb-suc-suc (suc (index_of_first wanted a)) (length a), n))

-- ── where the value of a TLV starts, and its length ──
module _ (i : ℕ) (a b : List Tlv) where
  pub start_first : i < length a → start_of i (a ++ b) ≡ start_of i a
  start_first h = ap (λ (l : List Tlv). length (written l) + 3) (take-append-le i a b (omega arith))

  pub start_second : start_of (length a + i) (a ++ b) ≡ length (written a) + start_of i b
  start_second =
      let n = ap length (ap written (take-append-add a b i) ∙ written-append a (take i b)) in
      let m = length-append (written a) (written (take i b)) in
      omega arith

pub length_first : (i : ℕ) (a b : List Tlv) → i < length a → length_of i (a ++ b) ≡ length_of i a
length_first i [] b h = absurd (omega arith)
length_first zero (t ∷ a) b h = refl
length_first (suc i) (t ∷ a) b h = length_first i a b (omega arith)

pub length_second : (i : ℕ) (a b : List Tlv) → length_of (length a + i) (a ++ b) ≡ length_of i b
length_second i [] b = let n : 0 + i ≡ i = omega arith in ap (λ (k : ℕ). length_of k b) n
length_second i (t ∷ a) b =
    let n : suc (length a) + i ≡ suc (length a + i) = omega arith in
    ap (λ (k : ℕ). length_of k (t ∷ a ++ b)) n ∙ length_second i a b

-- ── the lookup ──
module _ (a b : List Tlv) (wanted : ℕ) where
  abbrev i : ℕ
  i = index_of_first wanted a

  abbrev j : ℕ
  j = index_of_first wanted b

  abbrev n : ℕ
  n = length a

  by_first : (limit : ℕ) (c : Bool) → ltb i n ≡ c → lookup_in (a ++ b) wanted limit ≡ lookup_by (pick c i (n + j)) (a ++ b) (n + length b) limit
  by_first limit c e =
      ap₂ (λ (p q : ℕ). lookup_by p (a ++ b) q limit) (first_joined wanted a b ∙ ap (λ (x : Bool). pick x i (n + j)) e) (length-append a b)

  -- one in the first list
  pub one_in_first : (limit : ℕ) → ltb i n ≡ true → lookup_in (a ++ b) wanted limit ≡ lookup_in a wanted limit
  one_in_first limit e =
      let h : i < n = ltb-true i n e in
      by_first limit true e ∙ (rw (lt-ltb i (n + length b) (omega arith), start_first i a b h, length_first i a b h, e))

  -- none, and more TLVs than the limit
  pub none_examined : (limit : ℕ) → ltb i n ≡ false → leb n limit ≡ false → lookup_in (a ++ b) wanted limit ≡ lookup_in a wanted limit
  none_examined limit e f =
      let h : limit < n = leb-false n limit f in
      by_first limit false e
      ∙ (rw (le-ltb (n + j) limit (omega arith), lt-leb (n + length b) limit (omega arith), e, f) (either (ltb (n + j) (n + length b)) (without gave_up limit)))

  -- none, and m more TLVs may be examined: the tests are those of a lookup in the second list
  pub none_in_first : (m : ℕ) → ltb i n ≡ false
      → lookup_in (a ++ b) wanted (n + m)
      ≡ pick (ltb j (length b)) (pick (ltb j m) (found_at (n + (j + 1)) (length (written a) + start_of j b) (length_of j b)) (without gave_up (n + m)))
      (pick (leb (length b) m) (without absent (n + length b)) (without gave_up (n + m)))
  none_in_first m e =
      let count : n + j + 1 ≡ n + (j + 1) = omega arith in
      by_first (n + m) false e
      ∙ (rw (ltb_moved n j (length b), ltb_moved n j m, leb_moved n (length b) m, start_second j a b, length_second j a b, count))
