-- What a whole version 2 header answers.
use Rattle.std.specs.Prelude.{◌≡◌, List, ℕ, ◌+◌, ◌≤◌, length, take, drop}
use Rattle.std.proofs.Common.{ap, ap₂, ◌∙◌, arith, take-add, drop_at, length-take-le}
use Rattle.exact.specs.Claim.{accepted}
use Rattle.exact.specs.Field.{shift}
use Rattle.record.specs.declared.Kind.{Kind}
use Rattle.record.specs.declared.Record.{Record}
use Rattle.address_block.specs.AddressBlock.{block_record}
use Rattle.fields.specs.BlockFields.{blocked}
use Rattle.answer.specs.Answers.{area_of}

-- a header of n bytes that says the record r and the TLV area a
pub whole_block : (s : List ℕ) (k : Kind) (n : ℕ) (r : Record) (a : List ℕ) → block_record k (drop 16 s) ≡ r → area_of 2 k (take n s) ≡ a
    → accepted (blocked (block_record k (drop 16 s)) (area_of 2 k (take n s))) n ≡ shift n (accepted (blocked r a) 0)
whole_block s k n r a e here =
    let zero_more : n ≡ n + 0 = omega arith in
    ap₂ (λ (x : Record) (t : List ℕ). accepted (blocked x t) n) e here ∙ ap (λ (m : ℕ). accepted (blocked r a) m) zero_more

-- m bytes of s behind the place `at`
pub area_at : (s : List ℕ) (at m : ℕ) → at ≤ length s → drop at (take (at + m) s) ≡ take m (drop at s)
area_at s at m h = ap (drop at) (take-add at m s) ∙ drop_at (take at s) (take m (drop at s)) at (length-take-le at s h)
