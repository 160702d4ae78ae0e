-- The TLV at the place is the first of those left.
use Rattle.std.proofs.Common.{rules, ◌≡◌, ◌∷◌, ◌+◌, ap, length}
use Rattle.tlv_step.specs.Left.{left_from}
use Rattle.tlv_step.proofs.Left.{left_first, left_refused}
use Rattle.tlv_step.proofs.TlvsIterator.next.Goals as goal

pub invariant_of-self : goal.invariant_of-self
invariant_of-self c =
    let e = rw c.in-Ok-Some.field-0-is at c.in-Ok-Some.ensures in
    record { filled = (left_first _ _ c.args.self.now.filled c.in-Ok-Some.tlv e.head).0 }

pub returns-in-Ok-Some-clause-steps : goal.returns-in-Ok-Some-clause-steps
returns-in-Ok-Some-clause-steps c =
    let e = rw c.in-Ok-Some.field-0-is at c.in-Ok-Some.ensures in
    (left_first _ _ c.args.self.now.filled c.in-Ok-Some.tlv e.head).1

pub returns-in-Ok-Some-clause-goes : goal.returns-in-Ok-Some-clause-goes
returns-in-Ok-Some-clause-goes c =
    let s = c.args.self.now in
    let t = c.in-Ok-Some.tlv in
    let e = rw c.in-Ok-Some.field-0-is at c.in-Ok-Some.ensures in
    let shorter : length (left_from s.area.now s.at) ≡ length (t ∷ left_from s.area.now (t.value.start + t.value.size)) =
    ap length (left_first s.area.now s.at s.filled t e.head).1 in
    search rules

pub returns-in-Err-clause-steps : goal.returns-in-Err-clause-steps
returns-in-Err-clause-steps c =
    let s = c.args.self.now in
    let none = left_refused s.area.now s.at s.filled c.in-Err.ensures.head in
    (none, none)
