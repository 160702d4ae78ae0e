-- What holds of levels (document 02, K14): one prefix of each length matches, so one level decides; the order of the rows does not matter; what one more
-- row changes; and where a level comes from.
use Rattle.std.specs.Prelude.{◌≡◌, refl, Bool, true, false, ◌&&◌, ◌⊎◌, ℕ, suc, ◌≤◌, ◌<◌, leb, ltb, length, Option, Some, None as nothing}
use Rattle.std.proofs.Common.{sym, ap, ◌∙◌, inl, inr, ⊎_elim, arith, leb-true, leb-false, ltb-true, ltb-false}
use mathlib.Core.List.Memᴰ
use mathlib.Core.List.Permᴰ
use mathlib.Core.List.{List, [], ◌∷◌, Memᴰ, Permᴰ}
use Rattle.exact.specs.Pick.{pick, never}
use Rattle.address_bits.specs.Bits.{bit_at}
use Rattle.prefix.specs.Prefix.{Prefix, SamePrefix, Matches}
use Rattle.prefix.specs.PrefixTests.{matches}
use Rattle.prefix.proofs.PrefixTests.{matches_tested}
use Rattle.prefix_table.specs.Table.{Distinct, GoodRows, Decides, longest, none}
use Rattle.prefix_table.specs.TableTests.{reach, better, longest_from, level_of, level_in}

-- ── "in a good table at most one prefix of each length matches, so "the longest" is one row" ──
distinct_one : (rows : List Prefix) → Distinct rows → (p q : Prefix) → Memᴰ p rows → Memᴰ q rows → SamePrefix p q → SamePrefix q p → p ≡ q
distinct_one [] d p q m n s t = absurd (Memᴰ.not-nil m)
distinct_one (r ∷ rest) d p q m n s t =
    ⊎_elim
    (λ here.
    ⊎_elim (λ also. here ∙ sym also) (λ there. absurd (d.0 q there (rw here at s))) (Memᴰ.cases_cons n))
    (λ there.
    ⊎_elim (λ here. absurd (d.0 p there (rw here at t))) (λ also. distinct_one rest d.1 p q there also s t) (Memᴰ.cases_cons n))
    (Memᴰ.cases_cons m)

module _ (rows : List Prefix) (good : GoodRows rows) (family : ℕ) (source : List ℕ) where
  -- two prefixes of one length that a source lies in
  same_where : (p q : Prefix) → Memᴰ p rows → Memᴰ q rows → Matches p family source → Matches q family source → p.bits ≡ q.bits → SamePrefix p q
  same_where p q m n a b e = record { family = a.of_family ∙ sym b.of_family; bits = e; address = λ i h. by i h (leb p.bits i) refl }
    where
      by : (i : ℕ) → i < 128 → (c : Bool) → leb p.bits i ≡ c → bit_at p.address i ≡ bit_at q.address i
      by i h true c =
          let behind = leb-true p.bits i c in good.clear p m i behind h ∙ sym (good.clear q n i (omega arith) h)
      by i h false c = let inside = leb-false p.bits i c in sym (a.first_bits i inside) ∙ b.first_bits i (omega arith)

  pub one_prefix : (p q : Prefix) → Memᴰ p rows → Memᴰ q rows → Matches p family source → Matches q family source → p.bits ≡ q.bits → p ≡ q
  one_prefix p q m n a b e =
      distinct_one rows good.distinct p q m n (same_where p q m n a b e) (same_where q p n m b a (sym e))

  -- so one level decides
  pub decides_only : (l k : ℕ) → Decides rows family source l → Decides rows family source k → l ≡ k
  decides_only _ _ (longest p m a far) (longest q n b further) =
      let h = far q n b in
      let k = further p m a in
      ap (λ (r : Prefix). r.level) (one_prefix p q m n a b (omega arith))
  decides_only _ _ (longest p m a far) (none without) = absurd (without p m a)
  decides_only _ _ (none without) (longest q n b further) = absurd (without q n b)
  decides_only _ _ (none without) (none also) = refl

-- ── the level of a table decides ──
module _ (family : ℕ) (source : List ℕ) where
  -- what the longest of the best so far and the rows is
  record Found (best : Option Prefix) (rows : List Prefix) (found : Option Prefix) : Type 0 where
    from : (found ≡ best) ⊎ ((p : Prefix) × (found ≡ Some p) × Memᴰ p rows × Matches p family source)
    keeps : reach best ≤ reach found
    furthest : (q : Prefix) → Memᴰ q rows → Matches q family source → reach (Some q) ≤ reach found

  -- a row on top
  record Kept (best : Option Prefix) (p : Prefix) (next : Option Prefix) : Type 0 where
    from : (next ≡ best) ⊎ ((next ≡ Some p) × Matches p family source)
    keeps : reach best ≤ reach next
    reaches : Matches p family source → reach (Some p) ≤ reach next

  kept : (best : Option Prefix) (p : Prefix) → Kept best p (better family source best p)
  kept best p = by (matches p family source) refl (ltb (reach best) (reach (Some p))) refl
    where
      by : (c : Bool) → matches p family source ≡ c → (d : Bool) → ltb (reach best) (reach (Some p)) ≡ d → Kept best p (pick (c && d) (Some p) best)
      by true c true d =
          let h = ltb-true (reach best) (reach (Some p)) d in
          record { from = inr (refl, (matches_tested p family source).0 c); keeps = omega arith; reaches = λ m. omega arith }
      by true c false d =
          let h = ltb-false (reach best) (reach (Some p)) d in
          record { from = inl refl; keeps = omega arith; reaches = λ m. omega arith }
      by false c d e =
          record { from = inl refl; keeps = omega arith; reaches = λ m. never (sym c ∙ (matches_tested p family source).1 m) }

  found : (rows : List Prefix) (best : Option Prefix) → Found best rows (longest_from best rows family source)
  found [] best = record { from = inl refl; keeps = omega arith; furthest = λ q m. absurd (Memᴰ.not-nil m) }
  found (p ∷ rest) best =
      let k = kept best p in
      let f = found rest (better family source best p) in
      let h = k.keeps in
      let g = f.keeps in
      record {
        from =
            ⊎_elim (λ same. ⊎_elim (λ still. inl (same ∙ still)) (λ this. inr (p, same ∙ this.0, Memᴰ.head refl, this.1)) k.from)
            (λ other. inr (other.0, other.1, Memᴰ.tail other.2, other.3))
            f.from;
        keeps = omega arith;
        furthest = λ q m a.
            ⊎_elim (λ here. let r = k.reaches (rw here at a) in rw here (omega arith)) (λ there. f.furthest q there a) (Memᴰ.cases_cons m);
      }

  pub level_decides : (rows : List Prefix) → Decides rows family source (level_in rows family source)
  level_decides rows = by (longest_from nothing rows family source) (found rows nothing)
    where
      by : (r : Option Prefix) → Found nothing rows r → Decides rows family source (level_of r)
      by nothing f = none (λ p m a. let h = f.furthest p m a in omega arith)
      by (Some p) f =
          ⊎_elim (λ e. let z : ◌≡◌ {A = ℕ} 0 1 = cc in absurd (omega arith))
          (λ w.
          let is : p ≡ w.0 = let e = w.1 in cc in
          longest p (rw is w.2) (rw is w.3) (λ q m a. let h = f.furthest q m a in omega arith))
          f.from

  pub decides_one : (rows : List Prefix) → GoodRows rows → (l : ℕ) → Decides rows family source l → l ≡ level_in rows family source
  decides_one rows good l d = decides_only rows good family source l (level_in rows family source) d (level_decides rows)

-- ── "the order of the rows does not matter" ──
perm_member : {a b : List Prefix} → Permᴰ a b → (p : Prefix) → Memᴰ p a → Memᴰ p b
perm_member Permᴰ.nil p m = m
perm_member (Permᴰ.cons e d) p m =
    ⊎_elim (λ here. Memᴰ.head (here ∙ e)) (λ there. Memᴰ.tail (perm_member d p there)) (Memᴰ.cases_cons m)
perm_member (Permᴰ.swap e f) p m =
    ⊎_elim (λ here. Memᴰ.tail (Memᴰ.head (here ∙ e)))
    (λ there. ⊎_elim (λ here. Memᴰ.head (here ∙ f)) (λ further. Memᴰ.tail (Memᴰ.tail further)) (Memᴰ.cases_cons there))
    (Memᴰ.cases_cons m)
perm_member (Permᴰ.trans d e) p m = perm_member e p (perm_member d p m)

perm_length : {a b : List Prefix} → Permᴰ a b → length a ≡ length b
perm_length Permᴰ.nil = refl
perm_length (Permᴰ.cons e d) = ap suc (perm_length d)
perm_length (Permᴰ.swap e f) = refl
perm_length (Permᴰ.trans d e) = perm_length d ∙ perm_length e

same_back : (p q : Prefix) → SamePrefix p q → SamePrefix q p
same_back p q s = record { family = sym s.family; bits = sym s.bits; address = λ i h. sym (s.address i h) }

perm_distinct : {a b : List Prefix} → Permᴰ a b → Distinct a → Distinct b
perm_distinct Permᴰ.nil d = d
perm_distinct (Permᴰ.cons {a} {b} e perm) d = (
  λ q m s. d.0 q (perm_member (Permᴰ.symm perm) q m) (rw e s),
  perm_distinct perm d.1,
)
perm_distinct (Permᴰ.swap {a} {b} f g) d = (
  λ q m s.
      ⊎_elim (λ here. d.0 b (Memᴰ.head refl) (same_back b a (rw (g, f, ← here) s))) (λ there. d.1.0 q there (rw g s)) (Memᴰ.cases_cons m),
  (λ q m s. d.0 q (Memᴰ.tail m) (rw f s), d.1.1),
)
perm_distinct (Permᴰ.trans one other) d = perm_distinct other (perm_distinct one d)

pub perm_good : {a b : List Prefix} → Permᴰ a b → GoodRows a → GoodRows b
perm_good perm g =
    record {
      few = rw (sym (perm_length perm)) g.few;
      ranged = λ p m. g.ranged p (perm_member (Permᴰ.symm perm) p m);
      clear = λ p m. g.clear p (perm_member (Permᴰ.symm perm) p m);
      distinct = perm_distinct perm g.distinct;
    }

perm_decides : {a b : List Prefix} (family : ℕ) (source : List ℕ) (l : ℕ) → Permᴰ a b → Decides a family source l → Decides b family source l
perm_decides family source _ perm (longest p m a far) =
    longest p (perm_member perm p m) a (λ q n. far q (perm_member (Permᴰ.symm perm) q n))
perm_decides family source _ perm (none without) = none (λ p m. without p (perm_member (Permᴰ.symm perm) p m))

pub perm_level : {a b : List Prefix} → Permᴰ a b → GoodRows a → (family : ℕ) (source : List ℕ) → level_in a family source ≡ level_in b family source
perm_level {a} {b} perm good family source =
    decides_one family source b (perm_good perm good) (level_in a family source) (perm_decides family source _ perm (level_decides family source a))

-- ── "a table with one more row of level l changes levels only for sources in that prefix": and there to l ──
pub one_more_row : (p : Prefix) (rows more : List Prefix) → Permᴰ more (p ∷ rows) → GoodRows more → (family : ℕ) (source : List ℕ)
    → (level_in more family source ≡ level_in rows family source) ⊎ (Matches p family source × (level_in more family source ≡ p.level))
one_more_row p rows more perm good family source =
    by (level_in more family source) (perm_decides family source _ perm (level_decides family source more))
  where
    rest : GoodRows rows
    rest =
        let g = perm_good perm good in
        let h = g.few in
        record { few = omega arith; ranged = λ q m. g.ranged q (Memᴰ.tail m); clear = λ q m. g.clear q (Memᴰ.tail m); distinct = g.distinct.1 }

    by : (l : ℕ) → Decides (p ∷ rows) family source l → (l ≡ level_in rows family source) ⊎ (Matches p family source × (l ≡ p.level))
    by _ (longest q m a far) =
        ⊎_elim (λ here. inr (rw here at a, ap (λ (r : Prefix). r.level) here))
        (λ there. inl (decides_one family source rows rest q.level (longest q there a (λ r n. far r (Memᴰ.tail n)))))
        (Memᴰ.cases_cons m)
    by _ (none without) = inl (decides_one family source rows rest 0 (none (λ q m. without q (Memᴰ.tail m))))

-- ── "no source gets a level that no matching row has, but 0" ──
pub level_from : (rows : List Prefix) (family : ℕ) (source : List ℕ)
    → (level_in rows family source ≡ 0) ⊎ ((p : Prefix) × Memᴰ p rows × Matches p family source × (p.level ≡ level_in rows family source))
level_from rows family source = by (level_in rows family source) (level_decides family source rows)
  where
    by : (l : ℕ) → Decides rows family source l → (l ≡ 0) ⊎ ((p : Prefix) × Memᴰ p rows × Matches p family source × (p.level ≡ l))
    by _ (longest p m a far) = inr (p, m, a, refl)
    by _ (none without) = inl refl
