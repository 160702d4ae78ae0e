-- The first number is put, then each with the separator before it.
use Rattle.std.proofs.Common.{ℕ, ◌+◌, ◌≤◌, length, length-take, length-drop, take_all, arith}
use Rattle.draft.proofs.DraftLaws.{adds_none, adds_more}
use Rattle.draft.proofs.Joined.{joined_first, joined_rest, none_below}
use Rattle.draft.proofs.Draft.push_numbers.Goals as goal

pub returns-in_default : goal.returns-in_default
returns-in_default c = rw (none_below c.args.numbers.now c.in_default.len_below) (adds_none c.args.self.now)

pub loop-n-init : goal.loop-n-init
loop-n-init c =
    rw (← joined_first _ _ c.args.numbers.now c.in-len1-up.len_at_least, ← c.from.ensures) c.push_number.ensures

pub loop-n-preserved : goal.loop-n-preserved
loop-n-preserved c =
    let put = rw c.from-in-loop-n.ensures at c.push_number-in-loop-n.ensures in
    rw (← joined_rest _ _ c.args.numbers.now c.loop-n.n-index c.loop-n-test.true) (adds_more (adds_more c.loop-n.invariant c.push.ensures) put)

pub returns : goal.returns
returns c =
    let all : length c.args.numbers.now ≤ c.loop-n.n-index + 1 = omega (arith, length-take {A = ℕ}, length-drop {A = ℕ}) in
    rw (take_all (c.loop-n.n-index + 1) c.args.numbers.now all) at c.loop-n.invariant
