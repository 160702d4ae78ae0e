-- At the start all TLVs remain. What is answered by the area's own TLV list is so by each list that fills it.
use Rattle.std.proofs.Common.{rules, ◌≡◌, ℕ, List, sym, ap, ap₂, ◌∙◌, arith}
use Rattle.std.specs.Borrow.{Bor}
use Rattle.tlv_step.specs.declared.Tlvs.{Tlvs}
use Rattle.tlv_step.specs.Left.{left_from}
use Rattle.tlv_count.proofs.CountLeft.{count_all, count_bytes, answered}
use Rattle.tlv_count.proofs.count_of.Goals as goal

pub loop-tlv-init : goal.loop-tlv-init
loop-tlv-init c =
    let it = c.into_iter-tlv-iterator.result in
    let area : it.area.now ≡ c.args.area.now =
    ap (λ (t : Tlvs). t.area.now) c.into_iter-tlv-iterator.ensures.into_iter_gives
    ∙ ap (λ (b : Bor (List ℕ)). b.now) (c.tlvs-tlv-items.ensures.area ∙ c.in_ok-new.ensures.same)
    in
    let at : it.at ≡ 0 = search rules in
    record {
      counted = rw (ap₂ left_from area at) (omega (arith, count_all c.args.wanted c.args.area.now));
      few = count_bytes c.args.wanted c.args.area.now (sym c.in_ok-new.ensures.tested);
    }

pub returns-in_err-new-clause-counts : goal.returns-in_err-new-clause-counts
returns-in_err-new-clause-counts c = answered c.args.area.now c.args.wanted _ (search rules)

pub returns-clause-counts : goal.returns-clause-counts
returns-clause-counts c = answered c.args.area.now c.args.wanted _ (search rules)
