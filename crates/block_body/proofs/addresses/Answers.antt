-- The address block has the kind's length, and the TLVs behind it are a region.
use Rattle.std.proofs.Common.{ℕ, ◌+◌, ◌-◌, ◌≤◌, ◌≡◌, sym, ap, ◌∙◌, List, arith, length, drop}
use Rattle.exact.specs.Parser.{reach}
use Rattle.exact.specs.Scans.{present}
use Rattle.exact.specs.declared.Scan.{Scan}
use Rattle.exact.proofs.Parser.{tail_all}
use Rattle.tlv.specs.RegionVerdict.{judge}
use Rattle.exact.specs.Claim.{more}
use Rattle.block_body.proofs.Takes.{bytes_of}
use Rattle.block_body.proofs.AddressLaws.{Reached, addresses_few, tlvs_more, tlvs_refused, tlvs_accepted, tlvs_inside}
use Rattle.block_body.proofs.addresses.Goals.{After-region}
use Rattle.block_body.proofs.addresses.Goals as goal

module _ (c : After-region) where
  abbrev text : List ℕ
  text = c.args.s.now

  abbrev at : ℕ
  at = 16 + c.block_length-block.result

  abbrev tlvs : ℕ
  tlvs = c.args.size - c.block_length-block.result

  here : Reached c.args.kind c.args.size c.block_length-block.result text
  here =
      record {
        bytes = bytes_of text c.type_inv.s;
        block = c.block_length-block.ensures;
        some = c.requires.some;
        whole = c.if-s-at.false;
        fit = c.requires.fit;
      }

  found : (x : Scan (Unit {0})) → c.region.result ≡ x → present 9 0 x ≡ judge 9 0 tlvs (drop at text)
  found x e = ap (present 9 0) (sym e) ∙ c.region.ensures.verdict 9 0 ∙ ap (judge 9 0 tlvs) (tail_all at text)

  inside : (x : Scan (Unit {0})) → c.region.result ≡ x → at + reach (present 9 0 x) ≤ length text
  inside x e = tlvs_inside here (present 9 0 x) (found x e)

pub returns-then-s-at : goal.returns-then-s-at
returns-then-s-at c =
    addresses_few c.args.kind c.args.size c.args.s.now (bytes_of c.args.s.now c.type_inv.s) c.requires.fit c.requires.whole
    (omega (arith, c.block_length-block.ensures, c.if-s-at.true))

pub overflow_add-result-in-Accepted : goal.overflow_add-result-in-Accepted
overflow_add-result-in-Accepted c = omega (arith, inside (goal.at.overflow_add-result-in-Accepted c).After-region _ c.in-Accepted.is)

pub overflow_add-result-in-Refused : goal.overflow_add-result-in-Refused
overflow_add-result-in-Refused c = omega (arith, inside (goal.at.overflow_add-result-in-Refused c).After-region _ c.in-Refused.is)

pub returns-in-More : goal.returns-in-More
returns-in-More c =
    let ran = (goal.at.returns-in-More c).After-region in
    let least : ℕ = c.in-More.least in
    let same : least + 0 ≡ least = omega arith in
    tlvs_more (here ran) least (ap more (sym same) ∙ found ran _ c.in-More.is)

pub returns-in-Refused : goal.returns-in-Refused
returns-in-Refused c =
    let ran = (goal.at.returns-in-Refused c).After-region in
    tlvs_refused (here ran) _ (found ran _ c.in-Refused.is)

pub returns-in-Accepted : goal.returns-in-Accepted
returns-in-Accepted c =
    let ran = (goal.at.returns-in-Accepted c).After-region in
    tlvs_accepted (here ran) _ _ (found ran _ c.in-Accepted.is)
