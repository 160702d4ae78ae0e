-- The groups before the index are those of as many pairs of bytes.
use Rattle.std.proofs.Common.{◌≡◌, ◌*◌, length, take}
use Rattle.address_text.specs.Addresses.{groups_of}
use Rattle.address_text.proofs.groups_of.Given as goal

abbrev pub invariant-loop-i : goal.invariant-loop-i
invariant-loop-i l = (length l.group-items ≡ 8) × (take l.i l.group-items ≡ groups_of (take (2 * l.i) l.held))
