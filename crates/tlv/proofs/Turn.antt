-- The verdict from a TLV of the area on: what a loop over TLVs finds at their heads, and that the bytes of a value can be passed over.
use mathlib.Core.Path.{◌≡◌, refl, sym, ap, ◌∙◌}
use mathlib.Core.Bool.{Bool, true, false}
use mathlib.Core.List.{List}
use Prim.Native.Nat.{ℕ, zero, suc, ◌+◌, ◌*◌, ◌-◌, ◌≤◌, ◌<◌}
use native.Mathlib.Omega.{arith}
use borrow.Author.Tests.{lt-ltb, leb-true, leb-false, le-leb, lt-leb}
use lib.Dec.{leb}
use lib.ListN.{length, get_or, drop}
use Rattle.exact.specs.Claim.{Verdict, accepted, more, refused}
use Rattle.exact.specs.Field.{shift}
use Rattle.exact.proofs.MachineLaws.{shift_zero, from_end, from-go, from-done, from-dead}
use Rattle.exact.specs.Machine.{from}
use Rattle.exact.specs.Pick.{pick, pick_by}
use Rattle.exact.specs.Network.{number}
use Rattle.tlv.specs.RegionVerdict.{Due, type_byte, high_byte, low_byte, value_byte, enter, good, step_byte, step, least_region, judge}

module _ (k m n : ℕ) (s : List ℕ) where
  -- the verdict on the n bytes from the place i on, where a TLV begins if any are left; s may end before it
  abbrev pub onward : ℕ → Verdict ℕ
  onward i = pick (leb i (length s)) (shift i (judge k m (n - i) (drop i s))) (more (n - length s + m))

  abbrev machine : ℕ → Due → Verdict ℕ
  machine = from k step (least_region m) s

  pub onward_start : judge k m n s ≡ onward 0
  onward_start =
      let all : n - 0 ≡ n = omega arith in
      rw (le-leb 0 (length s) (omega arith), all) (sym (shift_zero (judge k m n s)))

  pub onward_done : n ≤ length s → onward n ≡ accepted 0 n
  onward_done h =
      let none : n - n ≡ 0 = omega arith in
      rw (le-leb n (length s) h, none) (ap (accepted 0) (omega arith))

  begun : (i r : ℕ) → 0 < r → shift i (judge k m r (drop i s)) ≡ machine i (type_byte r)
  begun i zero h = absurd (omega arith)
  begun i (suc r) h = refl

  onward_some : (i : ℕ) → i ≤ length s → i < n → onward i ≡ machine i (type_byte (n - i))
  onward_some i h some = rw (le-leb i (length s) h) (begun i (n - i) (omega arith))

  pub onward-more : (i : ℕ) → length s ≤ i → length s < n → onward i ≡ more (n - length s + m)
  onward-more i end few =
      pick_by (λ (v : Verdict ℕ). v ≡ more (n - length s + m)) (leb i (length s))
      (λ t.
      let h : i ≤ length s = leb-true _ _ t in
      begun i (n - i) (omega arith) ∙ from_end k step (least_region m) s i (type_byte (n - i)) end ∙ ap more (omega arith))
      (λ t. refl)

  module _ (bytes : (j : ℕ) → get_or s j 0 < 256) where
    at_byte : (q : Due) (j : ℕ) → step q (get_or s j 0) ≡ step_byte q (get_or s j 0)
    at_byte q j = rw (lt-ltb (get_or s j 0) 256 (bytes j))

    -- no byte of a value is dead
    past : (v r i j : ℕ) → j ≡ i + 1 + v → j + r ≡ n → i ≤ length s → (b : Bool) → leb (suc i) (length s) ≡ b
        → (i < length s → machine i (value_byte v r) ≡ onward j) → machine i (value_byte v r) ≡ onward j
    past v r i j at all h true e on = on (leb-true _ _ e)
    past v r i j at all h false e on =
        let end : length s < suc i = leb-false _ _ e in
        from_end k step (least_region m) s i (value_byte v r) (omega arith) ∙ ap more (omega arith) ∙ sym (onward-more j (omega arith) (omega arith))

    jump : (v r i j : ℕ) (q : Due) → j ≡ i + 1 + v → j + r ≡ n → i < length s → step q (get_or s i 0) ≡ enter v r → machine i q ≡ onward j
    jump zero zero i j q at all h e =
        let next : i + 1 ≡ j = omega arith in
        let end : j ≡ n = omega arith in
        from-done k step (least_region m) s i q 0 h e ∙ rw (next, end) (sym (onward_done (omega arith)))
    jump zero (suc r) i j q at all h e =
        let next : i + 1 ≡ j = omega arith in
        let rest : suc r ≡ n - j = omega arith in
        from-go k step (least_region m) s i q (type_byte (suc r)) h e ∙ rw (next, rest) (sym (onward_some j (omega arith) (omega arith)))
    jump (suc v) r i j q at all h e =
        from-go k step (least_region m) s i q (value_byte v r) h e
        ∙ past v r (i + 1) j (omega arith) all (omega arith) (leb (suc (i + 1)) (length s)) refl
        (λ g. jump v r (i + 1) j (value_byte v r) (omega arith) all g (at_byte (value_byte v r) (i + 1)))

    -- the head of the TLV at i
    module _ (i : ℕ) where
      abbrev room : ℕ
      room = n - i - 3

      abbrev high : ℕ
      high = get_or s (i + 1) 0

      abbrev low : ℕ
      low = get_or s (i + 2) 0

      pub type_dead : i < length s → i < n → n < i + 3 → onward i ≡ refused k i
      type_dead h some few =
          onward_some i (omega arith) some
          ∙ from-dead k step (least_region m) s i (type_byte (n - i)) h (at_byte (type_byte (n - i)) i ∙ rw (lt-leb 3 (n - i) (omega arith)))

      type_go : i < length s → i + 3 ≤ n → onward i ≡ machine (i + 1) (high_byte room)
      type_go h three =
          onward_some i (omega arith) (omega arith)
          ∙ from-go k step (least_region m) s i (type_byte (n - i)) (high_byte room) h
          (at_byte (type_byte (n - i)) i ∙ rw (le-leb 3 (n - i) (omega arith)))

      pub high_more : i < length s → i + 3 ≤ n → length s ≤ i + 1 → onward i ≡ more (n - length s + m)
      high_more h three end = type_go h three ∙ from_end k step (least_region m) s (i + 1) (high_byte room) end ∙ ap more (omega arith)

      pub high_dead : i + 1 < length s → i + 3 ≤ n → room < 256 * high → onward i ≡ refused k (i + 1)
      high_dead h three over =
          type_go (omega arith) three
          ∙ from-dead k step (least_region m) s (i + 1) (high_byte room) h (at_byte (high_byte room) (i + 1) ∙ rw (lt-leb (256 * high) room over))

      high_go : i + 1 < length s → i + 3 ≤ n → 256 * high ≤ room → onward i ≡ machine (i + 2) (low_byte high room)
      high_go h three within =
          let next : i + 1 + 1 ≡ i + 2 = omega arith in
          type_go (omega arith) three
          ∙ from-go k step (least_region m) s (i + 1) (high_byte room) (low_byte high room) h
          (at_byte (high_byte room) (i + 1) ∙ rw (le-leb (256 * high) room within))
          ∙ ap (λ (x : ℕ). machine x (low_byte high room)) next

      pub low_more : i + 1 < length s → i + 3 ≤ n → 256 * high ≤ room → length s ≤ i + 2 → onward i ≡ more (n - length s + m)
      low_more h three within end =
          high_go h three within ∙ from_end k step (least_region m) s (i + 2) (low_byte high room) end ∙ ap more (omega arith)

      pub low_dead : i + 2 < length s → i + 3 ≤ n → 256 * high ≤ room → good (number high low) room ≡ false → onward i ≡ refused k (i + 2)
      low_dead h three within bad =
          high_go (omega arith) three within
          ∙ from-dead k step (least_region m) s (i + 2) (low_byte high room) h (at_byte (low_byte high room) (i + 2) ∙ rw bad)

      pub low_go : i + 2 < length s → i + 3 ≤ n → 256 * high ≤ room → number high low ≤ room → good (number high low) room ≡ true
          → onward i ≡ onward (i + 3 + number high low)
      low_go h three within fits well =
          high_go (omega arith) three within
          ∙ jump (number high low) (room - number high low) (i + 2) (i + 3 + number high low) (low_byte high room) (omega arith) (omega arith) h
          (at_byte (low_byte high room) (i + 2) ∙ rw well)
