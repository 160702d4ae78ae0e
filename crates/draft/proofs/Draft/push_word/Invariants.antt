-- The bytes before the index are put.
use Rattle.std.proofs.Common.{take}
use Rattle.draft.specs.Drafts.{Adds}
use Rattle.draft.proofs.Draft.push_word.Given as goal

abbrev pub invariant-loop-byte : goal.invariant-loop-byte
invariant-loop-byte l = Adds l.fn.self l.self (take l.byte-index l.word)
