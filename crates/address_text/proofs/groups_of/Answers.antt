-- A group more, of the next two bytes.
use Rattle.std.proofs.Common.{◌≡◌, sym, ap₂, ◌∙◌, List, ℕ, [], ◌∷◌, ◌++◌, ◌+◌, ◌*◌, take, set, length-set, take_all, arith}
use Rattle.std.proofs.lemmas.List.{take_more_set}
use Rattle.address_text.specs.Addresses.{groups_of}
use Rattle.address_text.proofs.AddressLaws.{groups_more}
use Rattle.address_text.proofs.groups_of.Goals as goal

pub loop-i-preserved : goal.loop-i-preserved
loop-i-preserved c =
    let items = c.loop-i.group-items in
    let i = c.loop-i.i in
    let group = c.from_be_bytes.result in
    let held = c.args.held.now in
    let more : take (i + 1) (set items i group) ≡ groups_of (take (2 * (i + 1)) held) =
    take_more_set items i group (omega arith)
    ∙ ap₂ (λ (gs : List ℕ) (g : ℕ). gs ++ g ∷ []) c.loop-i.invariant.1 c.from_be_bytes.ensures
    ∙ sym (groups_more held i (omega arith))
    in
    (length-set items i group ∙ c.loop-i.invariant.0, more)

pub returns : goal.returns
returns c =
    let all : c.loop-i.i ≡ 8 = omega arith in
    sym (take_all 8 c.loop-i.group-items (omega arith)) ∙ rw all at c.loop-i.invariant.1
