-- Lemmas on what specs/PrefixTests.antt defines.
use Rattle.std.specs.Prelude.{◌≡◌, refl, Bool, true, false, ◌&&◌, List, ◌↔◌, ◌⊎◌, ℕ, ◌≤◌, eqb, leb}
use Rattle.std.proofs.Common.{inl, inr, eqb-true, eq-eqb, leb-true, le-leb}
use Rattle.exact.specs.Pick.{pick}
use Rattle.exact.proofs.Pick.{both}
use Rattle.address_bits.specs.Bits.{same_bits, clear_bits}
use Rattle.address_bits.proofs.BitTests.{same_tested, clear_tested}
use Rattle.prefix.specs.Prefix.{Prefix, InRange, Clear, SamePrefix, Matches}
use Rattle.prefix.specs.PrefixTests.{bits_fit, good_prefix, in_range, matches, same_prefix}

-- two tests that hold together do so by each
together : {a b : Bool} → a ≡ true → b ≡ true → a && b ≡ true
together e f = rw (e, f)

Fit : (family bits : ℕ) → Type 0
Fit family bits = ((family ≡ 4) × (bits ≤ 32)) ⊎ ((family ≡ 6) × (bits ≤ 128))

fit_tested : (family bits : ℕ) → (bits_fit family bits ≡ true) ↔ Fit family bits
unfolding Fit
fit_tested family bits = (by (eqb family 4) refl, fits)
  where
    by : (c : Bool) → eqb family 4 ≡ c → pick c (leb bits 32) (eqb family 6 && leb bits 128) ≡ true → Fit family bits
    by true c e = inl (eqb-true family 4 c, leb-true bits 32 e)
    by false c e = let t = both (eqb family 6) (leb bits 128) e in inr (eqb-true family 6 t.0, leb-true bits 128 t.1)

    fits : Fit family bits → bits_fit family bits ≡ true
    fits (inl (f, h)) = rw (eq-eqb family 4 f) (le-leb bits 32 h)
    fits (inr (f, h)) = rw f (le-leb bits 128 h)

pub good_tested : (p : Prefix) → (good_prefix p ≡ true) ↔ (InRange p × Clear p)
unfolding Fit
good_tested p = (
  λ e.
      let t = both (in_range p) (clear_bits p.bits p.address) e in
      let u = both (bits_fit p.family p.bits) (leb p.level 3) t.0 in
      (((fit_tested p.family p.bits).0 u.0, leb-true p.level 3 u.1), (clear_tested p.address p.bits).0 t.1),
  λ h.
      together (together ((fit_tested p.family p.bits).1 h.0.0) (le-leb p.level 3 h.0.1)) ((clear_tested p.address p.bits).1 h.1),
)

pub same_prefix_tested : (p q : Prefix) → (same_prefix p q ≡ true) ↔ SamePrefix p q
same_prefix_tested p q = (
  λ e.
      let t = both (eqb p.family q.family) (eqb p.bits q.bits && same_bits 128 p.address q.address) e in
      let u = both (eqb p.bits q.bits) (same_bits 128 p.address q.address) t.1 in
      record {
        family = eqb-true p.family q.family t.0;
        bits = eqb-true p.bits q.bits u.0;
        address = (same_tested p.address q.address 128).0 u.1;
      },
  λ s.
      together (eq-eqb p.family q.family s.family)
      (together (eq-eqb p.bits q.bits s.bits) ((same_tested p.address q.address 128).1 s.address)),
)

pub matches_tested : (p : Prefix) (family : ℕ) (source : List ℕ) → (matches p family source ≡ true) ↔ Matches p family source
matches_tested p family source = (
  λ e.
      let t = both (eqb p.family family) (same_bits p.bits source p.address) e in
      record { of_family = eqb-true p.family family t.0; first_bits = (same_tested source p.address p.bits).0 t.1 },
  λ m. together (eq-eqb p.family family m.of_family) ((same_tested source p.address p.bits).1 m.first_bits),
)
