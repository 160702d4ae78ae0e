-- The verdict on a block that is not looked at: the length says how many bytes it has.
use Rattle.std.specs.Prelude.{◌≡◌, List, [], ℕ, ◌+◌, ◌-◌, ◌≤◌, ◌<◌, length, drop}
use Rattle.std.proofs.Common.{sym, ap, ◌∙◌, arith}
use Rattle.exact.specs.Claim.{accepted, more, AllBytes}
use Rattle.exact.specs.Field.{shift}
use Rattle.exact.specs.Byte.{count_verdict}
use Rattle.record.specs.declared.Record.{Record}
use Rattle.fields.specs.BlockFields.{blocked, skipped_bytes}
use Rattle.block_body.proofs.Takes.{next_short, then_at, short_at}
use Rattle.block_body.proofs.Leaves.{takes_count}

module _ (r : Record) (n : ℕ) (s : List ℕ) (b : AllBytes s) where
  pub skipped_short : 16 ≤ length s → length s < 16 + n → more (16 + n - length s) ≡ shift 16 ((skipped_bytes r n).verdict (drop 16 s))
  skipped_short head few =
      ap more (omega arith) ∙ short_at (skipped_bytes r n).verdict n 0 (next_short (count_verdict 9 0 n) _ n 0 (takes_count 9 0 n).short) s b 16 head few

  pub skipped_whole : 16 + n ≤ length s → shift (16 + n) (accepted (blocked r []) 0) ≡ shift 16 ((skipped_bytes r n).verdict (drop 16 s))
  skipped_whole h = sym (then_at (count_verdict 9 0 n) (λ u t. accepted (blocked r []) 0) n (λ t. 0) (takes_count 9 0 n).full s b 16 h)
