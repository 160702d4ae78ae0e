-- The leaf of decimal text that a byte ends: its verdicts are exact.
use Rattle.std.specs.Prelude.{◌≡◌, refl, List, [], ◌∷◌, ◌↔◌, ℕ, ◌+◌, ◌*◌, ◌-◌, ◌≤◌, ◌<◌, eqb, leb}
use Rattle.std.proofs.Common.{sym, subst, ⊎_elim, le_refl, arith, eqb-true, eq-eqb, leb-true, leb-false, le-leb}
use Rattle.std.proofs.lemmas.Bool.{eqb-false}
use Rattle.exact.specs.Claim.{AllBytes}
use Rattle.exact.specs.Field.{Least, flat, Exact}
use Rattle.exact.specs.MachineLaws.{machine_exact, least_at, Sound, Attains, NoLess, Leasts}
use Rattle.exact.specs.Machine.{leaf}
use Rattle.exact.specs.Pick.{pick_by}
use Rattle.exact.specs.Parser.{Parser}
use Rattle.exact.proofs.Parser.{ended_bytes}
use Rattle.exact.specs.Ended.{Ended}
use Rattle.decimal.specs.Decimal.{Digit, Digits, Plain, value_on, Decimal}
use Rattle.exact.proofs.Endings.{ended_solid, ended_first, ended_more, ended_last, ended_map}
use Rattle.decimal.specs.DecimalVerdict.{At, start, behind, digit, step_decimal, least_decimal, decimal_verdict}
use Rattle.decimal.specs.DecimalLeaf.{Ok, Tail}

-- ── what may follow ──
abbrev Rest : ℕ → At → List ℕ → ℕ → Type 0
Rest bound start = Decimal bound
Rest bound (behind m) = Tail bound m

not_empty : (c : ℕ) (f : List ℕ) → c ∷ f ≡ [] → ⊥
not_empty c f e = let z : ◌≡◌ {A = ℕ} 0 1 = cc in omega arith

-- more digits make no less
grows : (m : ℕ) (f : List ℕ) → m ≤ value_on m f
grows m [] = le_refl m
grows m (c ∷ f) = let h = grows (m * 10 + (c - 48)) f in omega arith

module _ (bound c : ℕ) (f : List ℕ) (n : ℕ) where
  tail_first : (m : ℕ) → Tail bound m (c ∷ f) n ↔ (Digit c × (m ≡ 0 → ⊥) × Tail bound (m * 10 + (c - 48)) f n)
  tail_first m = (
    λ t.
        let some : m ≡ 0 → ⊥ = λ z. not_empty c f (t.plain z) in (
          t.digits.0,
          some,
          record { digits = t.digits.1; plain = λ z. absurd (some (omega arith)); value = t.value; fits = t.fits },
        ),
    λ t. record { digits = (t.0, t.2.digits); plain = λ z. absurd (t.1 z); value = t.2.value; fits = t.2.fits },
  )

  plain_tail : (g : List ℕ) → Digit c → Plain (c ∷ g) → 0 * 10 + (c - 48) ≡ 0 → g ≡ []
  plain_tail [] d p z = refl
  plain_tail (b ∷ g) d p z = let low = d.0 in absurd (p (omega arith))

  plain_whole : (g : List ℕ) → (0 * 10 + (c - 48) ≡ 0 → g ≡ []) → Plain (c ∷ g)
  plain_whole [] h = tt
  plain_whole (b ∷ g) h = λ z. not_empty b g (h (omega arith))

  decimal_first : Decimal bound (c ∷ f) n ↔ (Digit c × Tail bound (0 * 10 + (c - 48)) f n)
  decimal_first = (
    λ t. (
      t.digits.0,
      record { digits = t.digits.1; plain = plain_tail f t.digits.0 t.plain; value = t.value; fits = t.fits },
    ),
    λ t. record { digits = (t.0, t.1.digits); plain = plain_whole f t.1.plain; value = t.1.value; fits = t.1.fits },
  )

  too_large : (m : ℕ) → bound < m → Tail bound m f n → ⊥
  too_large m h t = let g = grows m f in let v = t.value in let b = t.fits in omega arith

-- ── the step is sound ──
module _ (bound end : ℕ) where
  abbrev Follows : At → List ℕ → ℕ → Type 0
  Follows q = Ended (Rest bound q) end

  -- at a digit, from what the first byte of a text is, where the byte does not end it
  module _ (q : At) (m c : ℕ)
      (first : (f : List ℕ) (n : ℕ) → Rest bound q (c ∷ f) n ↔ (Digit c × Tail bound (m * 10 + (c - 48)) f n))
      (no_end : (n : ℕ) → c ≡ end → Rest bound q [] n → ⊥)
    where
      inside : (f : List ℕ) (n : ℕ) → Follows q (c ∷ f) n → Ended (λ g b. Rest bound q (c ∷ g) b) end f n
      inside f n l =
          ⊎_elim (λ w. absurd (no_end n w.0 w.2)) (λ w. w) (ended_first (Rest bound q) end c f n l)

      down : (f : List ℕ) (n : ℕ) → Follows q (c ∷ f) n → Follows (behind (m * 10 + (c - 48))) f n
      down f n l = ended_map _ _ end (λ g b w. ((first g b).0 w).1) f n (inside f n l)

      up : Digit c → (f : List ℕ) (n : ℕ) → Follows (behind (m * 10 + (c - 48))) f n → Follows q (c ∷ f) n
      up d f n l = ended_more (Rest bound q) end c f n (ended_map _ _ end (λ g b w. (first g b).1 (d, w)) f n l)

      is_digit : (f : List ℕ) (n : ℕ) → Follows q (c ∷ f) n → Digit c
      is_digit f n l = ((first _ n).0 (inside f n l).whole).0

      sound_digit : Sound Follows (Ok bound) q c (digit bound m c)
      sound_digit =
          let P = Sound Follows (Ok bound) q c in
          pick_by P (leb 48 c)
          (λ low.
          pick_by P (leb c 57)
          (λ high.
          pick_by P (leb (m * 10 + (c - 48)) bound)
          (λ fits. (leb-true _ _ fits, λ f n. (down f n, up (leb-true _ _ low, leb-true _ _ high) f n)))
          (λ over f n l. too_large bound c _ n _ (leb-false _ _ over) (down f n l).whole))
          (λ high f n l. let h = (is_digit f n l).1 in let g = leb-false c 57 high in omega arith))
          (λ low f n l. let h = (is_digit f n l).0 in let g = leb-false 48 c low in omega arith)

  ends_tail : (m : ℕ) → m ≤ bound → Tail bound m [] m
  ends_tail m ok = record { digits = tt; plain = λ z. refl; value = refl; fits = ok }

  module _ (apart : Digit end → ⊥) where
    sound_decimal : (q : At) (c : ℕ) → Ok bound q → Sound Follows (Ok bound) q c (step_decimal bound end q c)
    sound_decimal start c ok = sound_digit start 0 c (decimal_first bound c) (λ n e l. l.plain)
    sound_decimal (behind m) c ok =
        let P = Sound Follows (Ok bound) (behind m) c in
        pick_by P (eqb c end)
        (λ t.
        let e = eqb-true c end t in (
          subst (λ (x : ℕ). Follows (behind m) (x ∷ []) m) (sym e) (ended_last (Tail bound m) end m (ends_tail m ok)),
          λ f n l.
              ⊎_elim (λ w. (w.1, w.2.value)) (λ w. absurd (apart (subst Digit e w.whole.digits.0)))
              (ended_first (Tail bound m) end c f n l),
        ))
        (λ t.
        let other = eqb-false c end t in
        pick_by P (eqb m 0)
        (λ z f n l.
        ⊎_elim (λ w. other w.0) (λ w. ((tail_first bound c _ n m).0 w.whole).1 (eqb-true m 0 z))
        (ended_first (Tail bound m) end c f n l))
        (λ z.
        sound_digit (behind m) m c
        (λ f n. (
          λ l. let t = (tail_first bound c f n m).0 l in (t.0, t.2),
          λ l. (tail_first bound c f n m).1 (l.0, eqb-false m 0 z, l.1),
        ))
        (λ n e. absurd (other e))))

    module _ (m : ℕ) where
      digit_no_less : (n c j : ℕ) → j ≤ 2 + m → NoLess (least_decimal m) (flat m) j (digit bound n c)
      digit_no_less n c j h =
          let P = NoLess (least_decimal m) (flat m) j in
          pick_by P (leb 48 c)
          (λ low.
          pick_by P (leb c 57) (λ high. pick_by P (leb (n * 10 + (c - 48)) bound) (λ fits. omega arith) (λ over. tt)) (λ high. tt))
          (λ low. tt)

      no_less_decimal : (q : At) (c : ℕ) → Ok bound q → NoLess (least_decimal m) (flat m) (least_decimal m q) (step_decimal bound end q c)
      no_less_decimal start c ok = digit_no_less 0 c (2 + m) (omega arith)
      no_less_decimal (behind n) c ok =
          let P = NoLess (least_decimal m) (flat m) (1 + m) in
          pick_by P (eqb c end) (λ t. omega arith)
          (λ t. pick_by P (eqb n 0) (λ z. tt) (λ z. digit_no_less n c (1 + m) (omega arith)))

      byte_decimal : (q : At) → Ok bound q → ℕ
      byte_decimal start ok = 48
      byte_decimal (behind n) ok = end

      -- "0", and then the end
      attains_decimal : (q : At) (ok : Ok bound q) → Attains (least_decimal m) (flat m) (least_decimal m q) (step_decimal bound end q (byte_decimal q ok))
      unfolding byte_decimal
      attains_decimal start ok = rw (le-leb (0 * 10 + (48 - 48)) bound (omega arith)) (omega arith)
      attains_decimal (behind n) ok = rw (eq-eqb end end refl) (omega arith)

      leasts_decimal : Leasts (Ok bound) (step_decimal bound end) (least_decimal m) (flat m)
      leasts_decimal = record { byte = byte_decimal; attains = attains_decimal; no_less = no_less_decimal }

      pub decimal_exact : (k : ℕ) (s : List ℕ) → Exact (leaf k (Ended (Decimal bound) end)) (flat m) (decimal_verdict k m bound end s) s
      decimal_exact k s =
          machine_exact k Follows (Ok bound) (step_decimal bound end) (least_decimal m) (flat m) leasts_decimal
          (λ q ok n l. ended_solid (Rest bound q) end n l) sound_decimal s start tt

      pub decimal_least : (k : ℕ) → Least (leaf k (Ended (Decimal bound) end)) (flat m) (2 + m) []
      decimal_least k =
          least_at k Follows (Ok bound) (step_decimal bound end) (least_decimal m) (flat m) leasts_decimal
          (λ q ok n l. ended_solid (Rest bound q) end n l) sound_decimal start tt

-- ── the parser ──
digits_bytes : (f : List ℕ) → Digits f → AllBytes f
digits_bytes [] d = tt
digits_bytes (c ∷ f) d = (let h = d.0.1 in omega arith, digits_bytes f d.1)

pub decimal_bytes : (bound : ℕ) (f : List ℕ) (n : ℕ) → Decimal bound f n → AllBytes f
decimal_bytes bound f n l = digits_bytes f l.digits

abbrev pub decimal : (k m bound end : ℕ) → (Digit end → ⊥) → end < 256 → Parser ℕ (flat m)
decimal k m bound end apart small =
    record {
      field = leaf k (Ended (Decimal bound) end);
      verdict = decimal_verdict k m bound end;
      exact = decimal_exact bound end apart m k;
      least = 2 + m;
      opens = decimal_least bound end apart m k;
      bytes = ended_bytes (Decimal bound) end small (decimal_bytes bound);
    }
