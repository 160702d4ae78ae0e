-- The loop's invariant: the bytes behind the one in which the prefix ends, and before the index, are zero.
use Rattle.std.proofs.Common.{◌≡◌, ℕ, ◌<◌, get_or}
use Rattle.address_bits.proofs.clear_bits.Given as goal

abbrev pub invariant-loop-i : goal.invariant-loop-i
invariant-loop-i l = (j : ℕ) → j < l.i → l.whole < j → get_or l.address j 0 ≡ 0
