-- `spread_out` leaves `spread`: the loop keeps `spread_at` while i falls from the count to where "::" stands.
use Rattle.std.proofs.Common.{◌≡◌, ap, ◌∙◌, ℕ, ◌+◌, ◌-◌, ◌<◌, arith}
use Rattle.ip6.specs.Partial.{spread_at}
use Rattle.ip6.proofs.Spread.{spread_none, spread_move}
use Rattle.ip6.proofs.spread_out.Goals.{In-loop-i}
use Rattle.ip6.proofs.spread_out.Goals as goal

pub overflow_sub-missing : goal.overflow_sub-missing
overflow_sub-missing c = c.requires.most

pub loop-i-init : goal.loop-i-init
loop-i-init c = (c.requires.within, omega arith, spread_none _ _ c.requires.eight c.requires.most c.requires.rest)

-- where a group goes lies within the eight
module _ (c : In-loop-i) where
  below : c.loop-i.i - 1 + (8 - c.args.count) < 8
  below =
      let most = c.requires.most in
      let turn = c.loop-i-test.true in
      let inv = c.loop-i.invariant.1 in
      omega arith

pub offset_bounds-groups-i : goal.offset_bounds-groups-i
offset_bounds-groups-i c = omega (arith, below c)

pub bounds-groups-i : goal.bounds-groups-i
bounds-groups-i c = omega (arith, below (goal.at.bounds-groups-i c).In-loop-i)

pub offset_bounds-groups-i-in-loop-i : goal.offset_bounds-groups-i-in-loop-i
offset_bounds-groups-i-in-loop-i c = omega (arith, below (goal.at.offset_bounds-groups-i-in-loop-i c).In-loop-i)

pub bounds-groups-i-in-loop-i : goal.bounds-groups-i-in-loop-i
bounds-groups-i-in-loop-i c = omega (arith, below (goal.at.bounds-groups-i-in-loop-i c).In-loop-i)

pub overflow_add-groups : goal.overflow_add-groups
overflow_add-groups c = omega (arith, below (goal.at.overflow_add-groups c).In-loop-i)

pub offset_bounds-groups-i-in-loop-i-2 : goal.offset_bounds-groups-i-in-loop-i-2
offset_bounds-groups-i-in-loop-i-2 c = omega (arith, below (goal.at.offset_bounds-groups-i-in-loop-i-2 c).In-loop-i)

pub bounds-groups-i-in-loop-i-2 : goal.bounds-groups-i-in-loop-i-2
bounds-groups-i-in-loop-i-2 c = below (goal.at.bounds-groups-i-in-loop-i-2 c).In-loop-i

pub loop-i-smaller : goal.loop-i-smaller
loop-i-smaller c = let turn = c.loop-i-test.true in omega arith

pub loop-i-preserved : goal.loop-i-preserved
loop-i-preserved c =
    let pre = c.requires in
    let inv = c.loop-i.invariant in
    let turn = c.loop-i-test.true in
    (omega arith, omega arith, spread_move _ _ pre.eight pre.most _ _ (omega arith) inv.1 inv.2)

pub returns : goal.returns
returns c =
    let inv = c.loop-i.invariant in
    let left = c.loop-i-test.false in
    let args = c.args in
    let there : c.loop-i.i ≡ args.gap = omega arith in
    inv.2 ∙ ap (λ (k : ℕ). spread_at args.groups.now args.count k) there
