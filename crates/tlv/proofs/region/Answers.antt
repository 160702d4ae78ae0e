use Rattle.std.proofs.Common.{ℕ, ◌+◌, ◌-◌, ◌≤◌, ◌<◌, ◌≡◌, sym, ap, ◌∙◌, Bool, true, false, List, ◌⊎◌, arith, get_or}
use Rattle.exact.specs.Claim.{Verdict, Claim}
use Rattle.exact.specs.Valueless.{Valueless}
use Rattle.exact.proofs.Theorem.{leaf_claims}
use Rattle.exact.specs.Network.{number}
use Rattle.tlv.specs.Tlv.{Filled}
use Rattle.tlv.proofs.AreaBytes.{area_bytes}
use Rattle.tlv.proofs.Room.{good_leaves}
use Rattle.tlv.specs.RegionVerdict.{judge, good}
use Rattle.tlv.proofs.RegionLemmas.{judge_exact}
use Rattle.tlv.proofs.RegionLeaf.{good-true}
use Rattle.tlv.proofs.Turn.{onward, onward_start, onward_done, onward-more, type_dead, high_more, high_dead, low_more, low_dead, low_go}
use Rattle.tlv.proofs.region.Goals.{After-is_good, At-loop-i}
use Rattle.tlv.proofs.region.Goals as goal

module _ (c : At-loop-i) where
  abbrev area : List ℕ
  area = c.args.s.now

  abbrev whole : ℕ
  whole = c.args.n

  abbrev at : ℕ
  at = c.loop-i.i

  bytes : (j : ℕ) → get_or area j 0 < 256
  bytes j = (c.type_inv.s j).fits

  -- a verdict from the place on is the verdict
  is : {v : ℕ → ℕ → Verdict ℕ} → ((k m : ℕ) → onward k m whole area at ≡ v k m) → (k m : ℕ) → v k m ≡ judge k m whole area
  is e k m = sym (c.loop-i.invariant.1 k m ∙ e k m)

  -- and has its claim
  answered : {v : ℕ → ℕ → Verdict ℕ} → ((k m : ℕ) → onward k m whole area at ≡ v k m)
      → ((k m : ℕ) → v k m ≡ judge k m whole area)
      × ((k : ℕ) → (whole ≡ 0) ⊎ (3 ≤ whole) → Claim (Valueless (Filled whole)) (λ u. k) (v k 0) area)
  answered e = (
    is e,
    λ k ok. leaf_claims k (Valueless (Filled whole)) (λ f a l. area_bytes f l.0.1) area (is e k 0) (judge_exact k 0 whole ok area),
  )

-- behind the test of the length
module _ (c : After-is_good) where
  abbrev head : At-loop-i
  head = (goal.at.After-is_good c).At-loop-i

  abbrev room : ℕ
  room = whole head - at head - 3

  abbrev size : ℕ
  size = number (get_or (area head) (at head + 1) 0) (get_or (area head) (at head + 2) 0)

  tested : (b : Bool) → c.is_good.result ≡ b → good size room ≡ b
  tested b e = sym c.is_good.ensures ∙ e

  within : c.is_good.result ≡ true → size ≤ room
  within e = (good_leaves size room ((good-true size room).0 (tested true e))).0

pub loop-i-init : goal.loop-i-init
loop-i-init c = (omega arith, λ k m. onward_start k m c.args.n c.args.s.now)

pub returns-then-s-i : goal.returns-then-s-i
returns-then-s-i c = let l = (goal.at.returns-then-s-i c).At-loop-i in let it = answered l (λ k m. onward-more k m (whole l) (area l) (at l) (omega arith) (omega arith)) in
    record { verdict = it.0; claim = it.1; inside = omega arith }

pub returns-then-n-i-lt3 : goal.returns-then-n-i-lt3
returns-then-n-i-lt3 c =
    let l = (goal.at.returns-then-n-i-lt3 c).At-loop-i in
    let it = answered l (λ k m. type_dead k m (whole l) (area l) (bytes l) (at l) (omega arith) (omega arith) (omega arith)) in
    record { verdict = it.0; claim = it.1; inside = omega arith }

pub returns-then-s-i-2 : goal.returns-then-s-i-2
returns-then-s-i-2 c =
    let l = (goal.at.returns-then-s-i-2 c).At-loop-i in
    let it = answered l (λ k m. high_more k m (whole l) (area l) (bytes l) (at l) (omega arith) (omega arith) (omega arith)) in
    record { verdict = it.0; claim = it.1; inside = omega arith }

pub overflow_cast-high : goal.overflow_cast-high
overflow_cast-high c = omega (arith, bytes (goal.at.overflow_cast-high c).At-loop-i (at (goal.at.overflow_cast-high c).At-loop-i + 1))

pub overflow_mul-high : goal.overflow_mul-high
overflow_mul-high c = omega (arith, bytes (goal.at.overflow_mul-high c).At-loop-i (at (goal.at.overflow_mul-high c).At-loop-i + 1))

pub returns-then-room-high : goal.returns-then-room-high
returns-then-room-high c =
    let l = (goal.at.returns-then-room-high c).At-loop-i in
    let it = answered l (λ k m. high_dead k m (whole l) (area l) (bytes l) (at l) (omega arith) (omega arith) (omega arith)) in
    record { verdict = it.0; claim = it.1; inside = omega arith }

pub returns-then-s-i-3 : goal.returns-then-s-i-3
returns-then-s-i-3 c =
    let l = (goal.at.returns-then-s-i-3 c).At-loop-i in
    let it = answered l (λ k m. low_more k m (whole l) (area l) (bytes l) (at l) (omega arith) (omega arith) (omega arith) (omega arith)) in
    record { verdict = it.0; claim = it.1; inside = omega arith }

pub overflow_cast-size : goal.overflow_cast-size
overflow_cast-size c =
    let l = (goal.at.overflow_cast-size c).At-loop-i in
    omega (arith, bytes l (at l + 2))

pub overflow_add-size-in-loop-i : goal.overflow_add-size-in-loop-i
overflow_add-size-in-loop-i c =
    let l = (goal.at.overflow_add-size-in-loop-i c).At-loop-i in
    omega (arith, bytes l (at l + 1), bytes l (at l + 2))

pub overflow_add-i-then-is_good-2 : goal.overflow_add-i-then-is_good-2
overflow_add-i-then-is_good-2 c = let h = within (goal.at.overflow_add-i-then-is_good-2 c).After-is_good c.if-is_good.true in omega arith

pub loop-i-smaller : goal.loop-i-smaller
loop-i-smaller c = let h = within (goal.at.loop-i-smaller c).After-is_good c.if-is_good.true in omega arith

pub loop-i-preserved : goal.loop-i-preserved
loop-i-preserved c =
    let l = head (goal.at.loop-i-preserved c).After-is_good in
    let h = within (goal.at.loop-i-preserved c).After-is_good c.if-is_good.true in (
      omega arith,
      λ k m.
          l.loop-i.invariant.1 k m
          ∙ low_go k m (whole l) (area l) (bytes l) (at l) (omega arith) (omega arith) (omega arith) h (tested (goal.at.loop-i-preserved c).After-is_good true c.if-is_good.true),
    )

pub returns-else-is_good : goal.returns-else-is_good
returns-else-is_good c =
    let l = head (goal.at.returns-else-is_good c).After-is_good in
    let it = answered l (λ k m. low_dead k m (whole l) (area l) (bytes l) (at l) (omega arith) (omega arith) (omega arith) (tested (goal.at.returns-else-is_good c).After-is_good false c.if-is_good.false)) in
    record { verdict = it.0; claim = it.1; inside = omega arith }

pub returns-then-s-n : goal.returns-then-s-n
returns-then-s-n c = let l = (goal.at.returns-then-s-n c).At-loop-i in let it = answered l (λ k m. onward-more k m (whole l) (area l) (at l) (omega arith) (omega arith)) in
    record { verdict = it.0; claim = it.1; inside = omega arith }

pub returns-else-s-n : goal.returns-else-s-n
returns-else-s-n c =
    let l = (goal.at.returns-else-s-n c).At-loop-i in
    let end : at l ≡ whole l = omega arith in
    let it = answered l (λ k m. ap (onward k m (whole l) (area l)) end ∙ onward_done k m (whole l) (area l) (omega arith)) in
    record { verdict = it.0; claim = it.1; inside = omega arith }
