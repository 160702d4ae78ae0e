-- `put_addresses` puts the four parts of the address block one behind the other, and each `put` ensures its part.
use Rattle.std.proofs.Common.{ℕ, ◌+◌, ◌≤◌, ◌≡◌, sym, ap, ◌∙◌, rules, List, ◌++◌, arith, length, take, length-append}
use Rattle.exact.specs.Network.{network}
use Rattle.record.specs.declared.Record.{Record}
use Rattle.record.specs.declared.Kind.{Kind}
use Rattle.record.specs.Kinds.{address_length, port_length, block_length}
use Rattle.address_block.specs.AddressBlock.{address_block}
use Rattle.address_block.proofs.AddressBlockLaws.{address_size, port_size, block_size}
use Rattle.lent.specs.Placed.{placed}
use Rattle.lent.proofs.PlacedLaws.{placed_else, placed_then}
use Rattle.address_block_writer.proofs.put_addresses.Goals as goal

module _ (r : Record) (source : length r.source ≡ 108) (destination : length r.destination ≡ 108) (at n m : ℕ) (address : n ≡ address_length r.kind) (port : m ≡ port_length r.kind) where
  abbrev k : Kind
  k = r.kind

  -- the four parts, put one behind the other
  whole : (d d₁ d₂ d₃ d₄ : List ℕ) → at + block_length k ≤ length d → d₁ ≡ placed (take n r.source) at d
      → d₂ ≡ placed (take n r.destination) (at + n) d₁
      → d₃ ≡ placed (take (port_length k) (network r.source_port)) (at + n + n) d₂
      → d₄ ≡ placed (take (port_length k) (network r.destination_port)) (at + n + n + m) d₃
      → d₄ ≡ placed (address_block r) at d
  whole d d₁ d₂ d₃ d₄ room e₁ e₂ e₃ e₄ =
      let a = take (address_length k) r.source in
      let b = take (address_length k) r.destination in
      let p = take (port_length k) (network r.source_port) in
      let q = take (port_length k) (network r.destination_port) in
      let a-size = address_size k r.source source in
      let b-size = address_size k r.destination destination in
      let p-size = port_size k r.source_port in
      let q-size = port_size k r.destination_port in
      let ab-size = length-append a b in
      let abp-size = length-append (a ++ b) p in
      let one : d₂ ≡ placed (a ++ b) at d =
      placed_then a b d d₁ d₂ at (at + address_length k) (rw address at e₁) (rw address at e₂) (omega arith) (omega arith)
      in
      let two = placed_then (a ++ b) p d d₂ d₃ at (at + n + n) one e₃ (omega arith) (omega arith) in
      placed_then (a ++ b ++ p) q d d₃ d₄ at (at + n + n + m) two e₄ (omega arith) (omega arith)

pub returns : goal.returns
returns c =
    let x = c.args in
    let n = c.block_length.ensures in
    let room : x.at + block_length x.r.now.kind ≤ length x.out.now = let a = c.if-out-at.false in let b = c.if-out-at-2.false in omega arith in
    whole x.r.now (search rules) (search rules) x.at c.address_length-n.result c.port_length-m.result c.address_length-n.ensures c.port_length-m.ensures x.out.now
    c.put.new.out c.put-2.new.out c.put_port.new.out c.put_port-2.new.out room
    (c.put.ensures ∙ ap (λ (l : List ℕ). placed l x.at x.out.now) c.front.ensures.2)
    (c.put-2.ensures ∙ ap (λ (l : List ℕ). placed l (x.at + c.address_length-n.result) c.put.new.out) c.front-2.ensures.2)
    c.put_port.ensures c.put_port-2.ensures

pub returns-then-out-at : goal.returns-then-out-at
returns-then-out-at c = let x = c.args in sym (placed_else (address_block x.r.now) x.at x.out.now (omega arith))

pub returns-then-out-at-2 : goal.returns-then-out-at-2
returns-then-out-at-2 c =
    let x = c.args in
    let size = block_size x.r.now (search rules) (search rules) in
    let n = c.block_length.ensures in
    sym (placed_else (address_block x.r.now) x.at x.out.now (omega arith))
