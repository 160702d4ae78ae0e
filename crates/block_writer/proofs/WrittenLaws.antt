-- How long what is written is, and its parts put one behind the other.
use Prim.Native.Nat.{ℕ, ◌+◌, ◌≤◌}
use mathlib.Core.Path.{◌≡◌, refl, ap, ◌∙◌}
use mathlib.Core.List.{List, ◌++◌, append_assoc}
use native.Mathlib.Omega.{arith}
use lib.ListN.{length, length-append}
use Rattle.record.specs.declared.Record.{Record}
use Rattle.record.specs.Kinds.{block_length}
use Rattle.record.specs.Records.{Sized}
use Rattle.address_block.specs.AddressBlock.{address_block}
use Rattle.address_block.proofs.AddressBlockLaws.{block_size}
use Rattle.lent.specs.Placed.{placed}
use Rattle.lent.proofs.PlacedLaws.{placed_then}
use Rattle.head_writer.specs.Head.{head_of}
use Rattle.block_writer.specs.Written.{block_of, written_block, block_placed}

module _ (r : Record) (area : List ℕ) (sized : Sized r) where
  pub block_length_lem : length (block_of r area) ≡ block_length r.kind + length area
  block_length_lem = length-append (address_block r) area ∙ ap (λ (n : ℕ). n + length area) (block_size r sized.source sized.destination)

  pub written_length : length (written_block r area) ≡ 16 + (block_length r.kind + length area)
  unfolding written_block
  written_length = let e = block_length_lem in omega arith

  -- where they fit they are put as one
  pub block_placed_lem : (size : ℕ) (d : List ℕ) → 16 + (block_length r.kind + length area) ≤ length d
      → block_placed r size area d ≡ placed (head_of r.kind size ++ block_of r area) 0 d
  block_placed_lem size d room =
      let head = head_of r.kind size in
      let b = block_size r sized.source sized.destination in
      let two-parts = length-append head (address_block r) in
      let two = placed_then head (address_block r) d _ _ 0 16 refl refl refl (omega arith) in
      placed_then (head ++ address_block r) area d _ _ 0 (16 + block_length r.kind) two refl (omega arith) (omega arith)
      ∙ ap (λ (t : List ℕ). placed t 0 d) (append_assoc head (address_block r) area)
