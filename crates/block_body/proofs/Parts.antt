-- The parts of a block as the stages read them, in the terms of the record's definitions.
use mathlib.Core.Path.{◌≡◌, refl, sym, ap, ap₂, ◌∙◌}
use mathlib.Core.List.{List}
use Prim.Native.Nat.{ℕ, zero, suc, ◌+◌}
use native.Mathlib.Omega.{arith}
use lib.ListN.{get_or, take, drop}
use lib.Seq.{get_or-drop, drop-drop}
use Rattle.exact.specs.Network.{number, number_at}
use Rattle.record.specs.declared.Kind.{Kind}
use Rattle.record.specs.declared.Kind.TheVariants.{Local, Unspecified, Ip4, Ip6, Unix}
use Rattle.record.specs.declared.Record.{Record}
use Rattle.record.specs.Kinds.{address_length, port_length}
use Rattle.record.specs.Records.{record_of}
use Rattle.address_block.specs.AddressBlock.{port_at as port_in, block_record}

-- the port that t begins with, of n bytes; "UNIX has no ports"
abbrev pub port_at : ℕ → List ℕ → ℕ
port_at zero t = 0
port_at (suc zero) t = 0
port_at (suc (suc n)) t = number_at t 0

-- "The address block is source, destination, source port, destination port", from a place on
abbrev pub record_at : Kind → ℕ → List ℕ → Record
record_at k at s =
    record_of k (take (address_length k) (drop at s)) (take (address_length k) (drop (at + address_length k) s))
    (port_at (port_length k) (drop (at + address_length k + address_length k) s))
    (port_at (port_length k) (drop (at + address_length k + address_length k + port_length k) s))

-- ── what stands at a place begins the bytes from there on ──
pub number_at_lem : (s : List ℕ) (i : ℕ) → number_at s i ≡ number_at (drop i s) 0
number_at_lem s i =
    let here : i + 0 ≡ i = omega arith in
    sym (ap₂ number (get_or-drop i s 0 0 ∙ ap (λ (j : ℕ). get_or s j 0) here) (get_or-drop i s 1 0))

port_at_lem : (k : Kind) (s : List ℕ) (i : ℕ) → port_in k s i ≡ port_at (port_length k) (drop i s)
port_at_lem Local s i = refl
port_at_lem Unspecified s i = refl
port_at_lem (Ip4 t) s i = number_at_lem s i
port_at_lem (Ip6 t) s i = number_at_lem s i
port_at_lem (Unix t) s i = refl

module _ (k : Kind) (at : ℕ) (s : List ℕ) where
  port_from : (i j : ℕ) → at + i ≡ j → port_in k (drop at s) i ≡ port_at (port_length k) (drop j s)
  port_from i j e = port_at_lem k (drop at s) i ∙ ap (port_at (port_length k)) (drop-drop i at s ∙ ap (λ (n : ℕ). drop n s) e)

  -- the record of the address block from a place on
  pub record_at_lem : block_record k (drop at s) ≡ record_at k at s
  record_at_lem =
      let w = address_length k in
      let o = port_length k in
      let source = port_from (w + w) (at + w + w) (omega arith) in
      let destination = port_from (w + w + o) (at + w + w + o) (omega arith) in
      ap (λ (to : List ℕ). record_of k (take w (drop at s)) (take w to) (port_in k (drop at s) (w + w)) (port_in k (drop at s) (w + w + o))) (drop-drop w at s)
      ∙ ap₂ (record_of k (take w (drop at s)) (take w (drop (at + w) s))) source destination
