-- Version 1 says absent, and version 2 what `state_of` says of its byte.
use Rattle.std.proofs.Common.{sym, ap, ◌∙◌, arith}
use Rattle.stored_form.specs.declared.StoredVersion.{StoredVersion}
use Rattle.stored_form.specs.Heads.{head_length, state_in}
use Rattle.load.proofs.state_in.Goals.{In-Two}
use Rattle.load.proofs.state_in.Goals as goal

-- the seventh byte is there
pub bounds-s-6 : goal.bounds-s-6
bounds-s-6 c =
    let two = (goal.at.bounds-s-6 c).In-Two in
    let seven = ap head_length two.in-Two.is in
    let long = two.requires in
    omega arith

pub returns-in-One : goal.returns-in-One
returns-in-One c =
    ap (λ (v : StoredVersion). state_in v c.args.s.now) (sym c.in-One.is)

pub returns-in-Two : goal.returns-in-Two
returns-in-Two c =
    let two = (goal.at.returns-in-Two c).In-Two in
    c.state_of.ensures ∙ ap (λ (v : StoredVersion). state_in v two.args.s.now) (sym two.in-Two.is)
