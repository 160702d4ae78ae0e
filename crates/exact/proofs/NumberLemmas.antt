-- Lemmas on what specs/Number.antt defines.
use Rattle.std.specs.Prelude.{◌≡◌, refl, Bool, true, false, List, [], ◌∷◌, ◌++◌, ℕ, suc, ◌/◌, ◌%◌, ◌≤◌, ◌<◌, Some, None}
use Rattle.std.proofs.Common.{sym, ap, ap₂, ◌∙◌, subst, inl, inr, arith}
use Rattle.exact.specs.Field.{Opens}
use Rattle.exact.specs.Machine.{leaf}
use Rattle.exact.specs.Pick.{pick}
use Rattle.exact.specs.Network.{number}
use Rattle.exact.specs.Parser.{Parser, ◌then◌, recast}
use Rattle.exact.specs.Byte.{one_byte}
use Rattle.exact.specs.Number.{Number, any, low}

module _ (good : ℕ → Bool) where
  pub low_some : (h c : ℕ) (b : Bool) → good (number h c) ≡ b → (n : ℕ) → pick b (Some (number h c)) None ≡ Some n → (n ≡ number h c) × (b ≡ true)
  low_some h c true e n s = (cc, refl)
  low_some h c false e n s = (let z : ◌≡◌ {A = ℕ} 0 1 = cc in absurd (omega arith), let z : ◌≡◌ {A = ℕ} 0 1 = cc in absurd (omega arith))

  pub some_low : (h c : ℕ) (b : Bool) → b ≡ true → pick b (Some (number h c)) None ≡ Some (number h c)
  some_low h c b e = rw e

  -- under the weight u: for each high byte the low byte that makes the best number, and the best high byte
  module _ (k : ℕ) (u : ℕ → ℕ)
      (low-best : (h : ℕ) → (c : ℕ) × (c < 256) × (good (number h c) ≡ true) × ((d : ℕ) → d < 256 → good (number h d) ≡ true → u (number h c) ≤ u (number h d)))
      (high-best : (c : ℕ) × (c < 256) × ((d : ℕ) → d < 256 → u (number c (low-best c).0) ≤ u (number d (low-best d).0)))
    where
      -- what the low byte asks behind the high byte h
      abbrev pub low_least : ℕ → ℕ
      low_least h = suc (u (number h (low-best h).0))

      pub low_least_lem : (h d b : ℕ) → d < 256 → low good h d ≡ Some b → u (number h (low-best h).0) ≤ u b
      low_least_lem h d b small e =
          let q = low_some h d (good (number h d)) refl b e in
          subst (λ (n : ℕ). u (number h (low-best h).0) ≤ u n) (sym q.0) ((low-best h).3 d small q.1)

      pub high_least : (d b : ℕ) → d < 256 → any d ≡ Some b → low_least high-best.0 ≤ low_least b
      high_least d b small e =
          let same : d ≡ b = cc in
          let best = high-best.2 d small in
          subst (λ (h : ℕ). low_least high-best.0 ≤ low_least h) same (omega arith)

      abbrev pub low_byte : ℕ → Parser ℕ u
      low_byte h =
          let o = low-best h in
          one_byte (low good h) u k o.0 (number h o.0) o.1 (some_low h o.0 (good (number h o.0)) o.2) (low_least_lem h)

      abbrev pub high_byte : Parser ℕ low_least
      high_byte = one_byte any low_least k high-best.0 high-best.0 high-best.1 refl high_least

      abbrev pub both : Parser ℕ u
      both = (high_byte then low_byte) (λ h f l. refl)

      pub to_number : (f : List ℕ) (n : ℕ) → both.field.lang f n → Number good f n
      to_number f n l =
          let x = l.first in
          let y = l.second in
          let xs = x.split in
          let ys = y.split in
          let h : x.byte ≡ l.mid = let v = x.value in cc in
          let q = low_some l.mid y.byte (good (number l.mid y.byte)) refl n y.value in
          let small-h = x.small in
          let small-l = y.small in
          let sum = q.0 in
          let text : f ≡ x.byte ∷ y.byte ∷ [] = l.split ∙ ap₂ ◌++◌ x.split y.split in
          record {
            split = text ∙ ap₂ (λ (a b : ℕ). a ∷ b ∷ []) (omega arith) (omega arith);
            small = omega arith;
            fits = subst (λ (m : ℕ). good m ≡ true) (sym sum) q.1;
          }

      pub from_number : (f : List ℕ) (n : ℕ) → Number good f n → both.field.lang f n
      from_number f n l =
          let small_n = l.small in
          let whole : number (n / 256) (n % 256) ≡ n = omega arith in
          record {
            front = n / 256 ∷ [];
            back = n % 256 ∷ [];
            mid = n / 256;
            split = l.split;
            first = record { byte = n / 256; split = refl; small = omega arith; value = refl };
            second = record {
              byte = n % 256;
              split = refl;
              small = omega arith;
              value =
                  some_low (n / 256) (n % 256) (good (number (n / 256) (n % 256))) (subst (λ (m : ℕ). good m ≡ true) (sym whole) l.fits)
                  ∙ ap Some whole;
            };
          }

      pub same_part : (u : List ℕ) (j : ℕ) → Opens both.field u → both.field.at u j → j ≡ k
      same_part u j o (inl x) = x.1
      same_part u j o (inr x) = x.part

      abbrev pub number16 : Parser ℕ u
      number16 = recast both (leaf k (Number good)) (λ f n. (to_number f n, from_number f n)) same_part
