-- The verdict from the octet i on, at the index at, as a loop finds it.
use mathlib.Core.Path.{◌≡◌, sym, ap, ◌∙◌}
use mathlib.Core.List.{List, [], ◌∷◌, ◌++◌}
use Prim.Native.Nat.{ℕ, suc, ◌+◌, ◌*◌, ◌-◌, ◌<◌}
use native.Mathlib.Numerals.{add-one}
use native.Mathlib.Omega.{arith}
use lib.ListN.{length, take, drop, set}
use lib.Seq.{take_all, take-suc-set, drop-drop}
use Rattle.exact.specs.Claim.{Verdict, accepted, more, refused}
use Rattle.exact.specs.Field.{after, shift}
use Rattle.exact.proofs.MachineLaws.{shift-shift, shift_zero}
use Rattle.decimal.specs.DecimalVerdict.{decimal_verdict}
use Rattle.ip4.specs.Ip4Verdict.{end_of, octets_verdict, ip4_verdict}

-- ── the verdict from the octet i on, at the index at, as a loop finds it ──
module _ (k m end : ℕ) (s : List ℕ) where
  abbrev pub octets_from : (i : ℕ) → (octets : List ℕ) → (at : ℕ) → Verdict (List ℕ)
  octets_from i octets at = shift at (octets_verdict k m end (4 - i) (take i octets) (drop at s))

  pub octets_start : (octets : List ℕ) → ip4_verdict k m end s ≡ octets_from 0 octets 0
  unfolding ip4_verdict
  octets_start octets = sym (shift_zero (octets_verdict k m end 4 [] s))

  pub octets_end : (i : ℕ) (octets : List ℕ) (at : ℕ) → i ≡ 4 → length octets ≡ 4 → accepted octets at ≡ octets_from i octets at
  octets_end i octets at e size =
      let all : take i octets ≡ octets = take_all i octets (omega arith) in
      rw (all, e) (ap (λ (n : ℕ). accepted octets n) (omega arith))

  module _ (i : ℕ) (octets : List ℕ) (at : ℕ) (h : i < 4) where
    abbrev next : ℕ → List ℕ → Verdict (List ℕ)
    next n r = octets_verdict k m end (3 - i) (take i octets ++ n ∷ []) r

    -- the verdict on the octet i
    abbrev pub octet_here : Verdict ℕ
    octet_here = decimal_verdict k (2 * (3 - i) + m) 255 (end_of end (3 - i)) (drop at s)

    by_octet : (v : Verdict ℕ) → v ≡ octet_here → octets_from i octets at ≡ shift at (after v next (drop at s))
    by_octet v e =
        let one : 4 - i ≡ suc (3 - i) = omega arith in
        ap (λ (left : ℕ). shift at (octets_verdict k m end left (take i octets) (drop at s))) one
        ∙ ap (λ (w : Verdict ℕ). shift at (after w next (drop at s))) (sym e)

    pub octet_more : (n : ℕ) → more n ≡ octet_here → more n ≡ octets_from i octets at
    octet_more n e = sym (by_octet (more n) e)

    pub octet_refused : (p : ℕ) → refused k p ≡ octet_here → refused k (at + p) ≡ octets_from i octets at
    octet_refused p e = sym (by_octet (refused k p) e)

    pub octet_accepted : (n size : ℕ) → length octets ≡ 4 → accepted n size ≡ octet_here
        → octets_from i octets at ≡ octets_from (i + 1) (set octets i n) (at + size)
    octet_accepted n size full e =
        let left : 4 - (i + 1) ≡ 3 - i = omega arith in
        by_octet (accepted n size) e
        ∙ shift-shift at size (next n (drop size (drop at s)))
        ∙ rw (left, add-one i, take-suc-set octets i n (omega arith), drop-drop size at s)
