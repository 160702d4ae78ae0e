-- At the start all TLVs remain.
use Rattle.std.proofs.Common.{rules, ◌≡◌, ℕ, List, sym, ap, ap₂, ◌∙◌, arith}
use Rattle.std.specs.Borrow.{Bor}
use Rattle.tlv_step.specs.declared.Tlvs.{Tlvs}
use Rattle.tlv_step.specs.Left.{left_from}
use Rattle.lookup.proofs.Seek.{seek_all}
use Rattle.lookup.proofs.lookup.Goals as goal

pub loop-tlv-init : goal.loop-tlv-init
loop-tlv-init c =
    let it = c.into_iter-tlv-iterator.result in
    let area : it.area.now ≡ c.args.area.now =
    ap (λ (t : Tlvs). t.area.now) c.into_iter-tlv-iterator.ensures.into_iter_gives
    ∙ ap (λ (b : Bor (List ℕ)). b.now) (c.tlvs-tlv-items.ensures.area ∙ c.in_ok-new.ensures.same)
    in
    let at : it.at ≡ 0 = search rules in
    record {
      sought = rw (ap₂ left_from area at) (seek_all c.args.wanted c.args.limit c.args.area.now (sym c.in_ok-new.ensures.tested));
      within = omega arith;
    }
