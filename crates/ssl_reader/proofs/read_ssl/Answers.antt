-- `read_ssl` passes the sub-TLVs one by one, and notes the first of each type.
use Rattle.std.proofs.Common.{rules, ◌≡◌, sym, ap, ◌∙◌, Option, Ok}
use Rattle.exact.proofs.Parser.{bytes_of}
use Rattle.tlv_step.specs.Step.{told_step, end, head_at}
use Rattle.tlv_step.specs.declared.Tlv.{Tlv}
use Rattle.ssl_reader.proofs.Turn.{passing_none, passing_next, smaller, ill, no_version, accepts}
use Rattle.ssl_reader.proofs.read_ssl.Goals as goal

pub loop-tlv-init : goal.loop-tlv-init
loop-tlv-init c = passing_none c.args.value.now c.in-len5-up.len_at_least

pub returns-in_err-tlv : goal.returns-in_err-tlv
returns-in_err-tlv c =
    rw (ill c.args.value.now c.loop-tlv.at c.loop-tlv.pieces c.loop-tlv.invariant c.in_err-tlv.ensures.head)
    (search rules)

pub loop-tlv-smaller : goal.loop-tlv-smaller
loop-tlv-smaller c =
    smaller c.args.value.now c.loop-tlv.at c.loop-tlv.pieces c.loop-tlv.invariant c.in-Some.tlv
    (sym (ap (λ (o : Option Tlv). told_step (Ok o)) c.in-Some.is) ∙ c.in_ok-tlv.ensures.head)

pub loop-tlv-preserved : goal.loop-tlv-preserved
loop-tlv-preserved c =
    passing_next c.args.value.now c.loop-tlv.at c.loop-tlv.pieces c.loop-tlv.invariant (bytes_of c.args.value.now c.type_inv.value) c.in-Some.tlv
    (sym (ap (λ (o : Option Tlv). told_step (Ok o)) c.in-Some.is) ∙ c.in_ok-tlv.ensures.head) c.note.new.pieces c.note.ensures

pub returns-then-lacks_version : goal.returns-then-lacks_version
returns-then-lacks_version c =
    let at = c.loop-tlv.at in
    let told : end ≡ head_at c.args.value.now at = sym (ap (λ (o : Option Tlv). told_step (Ok o)) c.in_default-2.is) ∙ c.in_ok-tlv.ensures.head in
    sym (no_version c.args.value.now at c.loop-tlv.pieces c.loop-tlv.invariant told c.found-version.result c.found-version.ensures c.is_none.result c.is_none.ensures (sym c.lacks_version.ensures ∙ c.if-lacks_version.true))

pub returns : goal.returns
returns c =
    let at = c.loop-tlv.at in
    let told : end ≡ head_at c.args.value.now at = sym (ap (λ (o : Option Tlv). told_step (Ok o)) c.in_default-2.is) ∙ c.in_ok-tlv.ensures.head in
    rw c.network_number.ensures
    (sym (accepts c.args.value.now at c.loop-tlv.pieces c.loop-tlv.invariant told c.found-version.result c.found-version.ensures c.is_none.result c.is_none.ensures (sym c.lacks_version.ensures ∙ c.if-lacks_version.false) _ _ _ _ c.found.ensures c.found-2.ensures c.found-3.ensures c.found-4.ensures))
