-- The invariant of both loops: what is left to feed gives what the whole gives.
use Rattle.std.proofs.Common.{◌≡◌, drop}
use Rattle.std.specs.List.{concat}
use Rattle.crc.specs.Crc.{register}
use Rattle.crc.proofs.crc_part.Given as goal

abbrev pub invariant-loop-next : goal.invariant-loop-next
invariant-loop-next l = register l.r (concat (drop l.next-index l.eights)) ≡ register l.state (concat l.eights)

abbrev pub invariant-loop-b : goal.invariant-loop-b
invariant-loop-b l = register l.r (drop l.b-index l.rest) ≡ register l.initial.r l.rest
