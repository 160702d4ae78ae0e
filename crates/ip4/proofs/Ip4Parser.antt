-- The leaf of IPv4 text that a byte ends: four decimals, one behind the other.
use Rattle.std.specs.Prelude.{◌≡◌, refl, List, [], ◌∷◌, ◌++◌, ℕ, zero, suc, ◌+◌, ◌*◌, ◌<◌, eqb}
use Rattle.std.proofs.Common.{subst, append_assoc, append-nil, ⊎_elim, arith}
use Rattle.exact.specs.Field.{Exact, Least, flat}
use Rattle.exact.specs.Machine.{leaf}
use Rattle.exact.specs.Pick.{pick_by}
use Rattle.exact.specs.Parser.{Parser, InBytes, ◌then◌, recast}
use Rattle.exact.proofs.ParserLemmas.{just}
use Rattle.exact.specs.Ended.{Ended}
use Rattle.decimal.specs.Decimal.{Digit}
use Rattle.ip4.specs.Ip4.{Address}
use Rattle.decimal.proofs.DecimalParser.{decimal}
use Rattle.ip4.specs.Ip4Verdict.{end_of, ip4_verdict}

module _ (k m end : ℕ) (apart : Digit end → ⊥) (small : end < 256) where
  end_apart : (left : ℕ) → Digit (end_of end left) → ⊥
  end_apart left = pick_by (λ (c : ℕ). Digit c → ⊥) (eqb left 0) (λ t. apart) (λ t d. let h = d.0 in omega arith)

  end_small : (left : ℕ) → end_of end left < 256
  end_small left = pick_by (λ (c : ℕ). c < 256) (eqb left 0) (λ t. small) (λ t. omega arith)

  -- each octet asks a digit and its end
  abbrev octets_on : (left : ℕ) → List ℕ → (P : Parser (List ℕ) (flat m)) × (P.least ≡ 2 * left + m)
  octets_on zero octets = (just (flat m) octets, omega arith)
  octets_on (suc left) octets = (
    (decimal k (2 * left + m) 255 (end_of end left) (end_apart left) (end_small left) then λ n. (octets_on left (octets ++ n ∷ [])).0)
        (λ n f l. (octets_on left (octets ++ n ∷ [])).1),
    omega arith,
  )

  abbrev four_octets : Parser (List ℕ) (flat m)
  four_octets = (octets_on 4 []).0

  number : (left : ℕ) (octets : List ℕ) (u : List ℕ) (j : ℕ) → (octets_on left octets).0.field.at u j → j ≡ k
  number zero octets u j w = absurd w
  number (suc left) octets u j w = ⊎_elim (λ w. w.1) (λ w. number left (octets ++ w.mid ∷ []) w.back j w.part) w

  address : (f octets : List ℕ) → four_octets.field.lang f octets → Ended Address end f octets
  address f octets l =
      let m = l.second in
      let n = m.second in
      let o = n.second in
      record {
        text = l.first.text ++ 46 ∷ m.first.text ++ 46 ∷ n.first.text ++ 46 ∷ o.first.text;
        split = rw (l.split, l.first.split, m.split, m.first.split, n.split, n.first.split, o.split, o.first.split, o.second.0) (simp (append_assoc, append-nil));
        whole = record {
          a = l.first.text;
          b = m.first.text;
          c = n.first.text;
          d = o.first.text;
          split = simp append_assoc;
          first = l.mid;
          second = m.mid;
          third = n.mid;
          fourth = o.mid;
          whole_a = l.first.whole;
          whole_b = m.first.whole;
          whole_c = n.first.whole;
          whole_d = o.first.whole;
          value = o.second.1;
        };
      }

  fields : (f octets : List ℕ) → Ended Address end f octets → four_octets.field.lang f octets
  fields f octets l =
      let w = l.whole in
      record {
        front = w.a ++ 46 ∷ [];
        back = w.b ++ 46 ∷ w.c ++ 46 ∷ w.d ++ end ∷ [];
        mid = w.first;
        split = rw (l.split, w.split) (simp append_assoc);
        first = record { text = w.a; split = refl; whole = w.whole_a };
        second = record {
          front = w.b ++ 46 ∷ [];
          back = w.c ++ 46 ∷ w.d ++ end ∷ [];
          mid = w.second;
          split = simp append_assoc;
          first = record { text = w.b; split = refl; whole = w.whole_b };
          second = record {
            front = w.c ++ 46 ∷ [];
            back = w.d ++ end ∷ [];
            mid = w.third;
            split = simp append_assoc;
            first = record { text = w.c; split = refl; whole = w.whole_c };
            second = record {
              front = w.d ++ end ∷ [];
              back = [];
              mid = w.fourth;
              split = simp append-nil;
              first = record { text = w.d; split = refl; whole = w.whole_d };
              second = (refl, w.value);
            };
          };
        };
      }

  abbrev by_fields : Parser (List ℕ) (flat m)
  by_fields = recast four_octets (leaf k (Ended Address end)) (λ f a. (address f a, fields f a)) (λ u j o x. number 4 [] u j x)

  pub ip4_exact : (s : List ℕ) → Exact (leaf k (Ended Address end)) (flat m) (ip4_verdict k m end s) s
  unfolding ip4_verdict
  ip4_exact s = by_fields.exact s

  pub ip4_least : Least (leaf k (Ended Address end)) (flat m) (8 + m) []
  ip4_least = subst (λ (n : ℕ). Least (leaf k (Ended Address end)) (flat m) n []) (omega arith) by_fields.opens

  pub ip4_bytes : InBytes (leaf k (Ended Address end))
  ip4_bytes = by_fields.bytes

  abbrev pub ip4 : Parser (List ℕ) (flat m)
  ip4 =
      record {
        field = leaf k (Ended Address end);
        verdict = ip4_verdict k m end;
        exact = ip4_exact;
        least = 8 + m;
        opens = ip4_least;
        bytes = ip4_bytes;
      }
